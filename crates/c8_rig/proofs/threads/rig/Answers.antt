-- The ether has as many players as the game, so at most four.
use Rattle.std.proofs.Common.{arith}
use Rattle.c8_rig.proofs.threads.rig.Goals as goal

pub rigged-requires-clause-few : goal.rigged-requires-clause-few
rigged-requires-clause-few g c κs within =
    let same = c.in_ok-ether.ensures.players in
    let few = c.in_range.ensures.at_most_four in
    omega (arith, same, few)
