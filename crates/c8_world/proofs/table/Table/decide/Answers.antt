-- Each game has a player 1, so to decide at its node is that event of the world.
use Rattle.std.proofs.Common.{arith}
use Rattle.c8_peer.specs.State as states
use Rattle.c8_world.specs.World.{Decide}
use Rattle.c8_world.specs.Agreement.{IsPlayer}
use Rattle.c8_world.proofs.TableLemmas.{decide_call, asked_happens}
use Rattle.c8_world.proofs.table.Table.decide.Goals as goal

pub returns-clause-happened : goal.returns-clause-happened
returns-clause-happened c =
    let plays : IsPlayer c.self.inside.game.now 1 = record { from_one = omega arith; in_game = omega arith } in
    asked_happens _ c.args.self.now c.place.result 1 c.in-Some.node c.decide.new.self c.index_mut.result.now (Decide c.args.leaver.number)
    (states.Decide c.args.leaver.number) c.decide.result
    c.self.view_is (decide_call c.args.leaver.number c.self.inside.game.now c.self.inside.room) c.place.ensures.next (omega arith) plays
    c.index_mut.ensures.value c.in-Some.is c.decide.ensures.asked
