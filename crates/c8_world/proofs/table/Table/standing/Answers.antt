-- In a world that was reached a player's disk has a journal of the match, so the node can tell what the player knows.
use Rattle.std.proofs.Common.{◌≡◌, ap, arith}
use Rattle.c8_world.specs.Agreement.{IsPlayer}
use Rattle.c8_world.specs.Table.{TableValue}
use Rattle.c8_world.proofs.EndLemmas.{standing_at}
use Rattle.c8_world.proofs.table.Table.standing.Goals as goal

pub returns : goal.returns
returns c =
    let same : c.self.inside.game.now.players ≡ c.args.self.now.rules.players = ap (λ (t : TableValue). t.rules.players) c.self.view_is in
    let plays : IsPlayer c.self.inside.game.now c.args.player.number = record { from_one = omega arith; in_game = omega (arith, same) } in
    standing_at _ c.args.self.now c.place.result c.args.player.number c.index.result.now c.in-Some.node c.standing.result c.self.view_is
    c.place.ensures.next (omega (arith, same)) plays c.index.ensures c.in-Some.is
    (λ w holds finds. c.openings_find_journals.ensures.journals c.self.inside.game.now c.self.inside.room w c.args.player.number finds
    c.in_range.ensures (omega arith) holds.reached plays)
    c.standing.ensures
