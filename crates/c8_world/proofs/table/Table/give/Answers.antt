-- The bytes with a number are read as the packet that was sent, so the node hears what the world delivers.
use Rattle.std.proofs.Common.{arith}
use Rattle.c8_wire.specs.Spelling.{spelling}
use Rattle.c8_world.specs.Agreement.{IsPlayer}
use Rattle.c8_world.proofs.SpokenLemmas.{none_happens, given_absent, given_happens}
use Rattle.c8_world.proofs.table.Table.give.Goals as goal

pub returns-in_default-clause-happened : goal.returns-in_default-clause-happened
returns-in_default-clause-happened c = none_happens _ c.args.self.now c.args.number c.args.player.number c.self.view_is c.in_default.ensures

pub returns-then-player-players-clause-happened : goal.returns-then-player-players-clause-happened
returns-then-player-players-clause-happened c =
    given_absent _ c.args.self.now c.args.number c.args.player.number c.in-Some.bytes.now c.self.view_is c.in-Some.ensures (omega arith)

pub returns-clause-happened : goal.returns-clause-happened
returns-clause-happened c =
    let plays : IsPlayer c.self.inside.game.now c.args.player.number = record { from_one = omega arith; in_game = omega arith } in
    given_happens _ c.args.self.now c.args.number c.place.result c.args.player.number c.in-Some.bytes.now c.in-Some-index_mut.node
    c.deliver.new.self c.index_mut.result.now c.deliver.result
    c.self.view_is c.in-Some.ensures
    (λ w holds packet n at. c.what_is_spelled_is_read.ensures.read (spelling packet) packet
    (c.what_was_said_is_true.ensures.spelled c.self.inside.game.now c.self.inside.room w packet c.in_range.ensures (omega arith)
    holds.reached (n, at)))
    c.place.ensures.next (omega arith) plays c.index_mut.ensures.value c.in-Some-index_mut.is c.deliver.ensures.asked
