-- A stopped player's node is its crashed disk, and in the world its peer is away with the journal of that disk.
use Rattle.std.proofs.Common.{◌≤◌, sym, subst, arith}
use Rattle.c8_world.specs.Agreement.{IsPlayer}
use Rattle.c8_world.specs.Table.{TableValue}
use Rattle.c8_world.specs.Turns.{IsNodeCrash}
use Rattle.c8_world.proofs.StopLemmas.{crash_happens}
use Rattle.c8_world.proofs.TurnLemmas.{node_moves}
use Rattle.c8_world.proofs.table.Table.crash.Goals as goal

pub returns-clause-crashed : goal.returns-clause-crashed
returns-clause-crashed c =
    let p = c.in-Some.player.number in
    let within = c.in-Some.ensures.1 in
    let inside = subst (λ (t : TableValue). p ≤ t.rules.players) (sym c.self.view_is) within in
    let plays : IsPlayer c.self.inside.game.now p = record { from_one = c.in-Some.player.from_one; in_game = omega (arith, inside) } in
    rw (← c.in-Some.ensures.0) (record {
      moves = node_moves (IsNodeCrash c.args.pick) _ c.args.self.now c.place.result p c.index_mut.result.now c.crash_node.new.place
          c.self.view_is c.place.ensures.next (omega arith)
          c.index_mut.ensures.value c.crash_node.ensures.crash;
      crashed = crash_happens _ c.args.self.now c.place.result p c.index_mut.result.now c.crash_node.new.place c.self.view_is
          c.place.ensures.next (omega arith) plays c.index_mut.ensures.value
          c.crash_node.ensures.crashed;
    })
