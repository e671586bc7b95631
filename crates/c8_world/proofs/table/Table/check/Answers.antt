-- A checkpoint call at a player's node is that event of the world; a player who is not in the game is down.
use Rattle.std.proofs.Common.{arith}
use Rattle.c8_peer.specs.State as states
use Rattle.c8_world.specs.World.{Check}
use Rattle.c8_world.specs.Agreement.{IsPlayer}
use Rattle.c8_world.proofs.TableLemmas.{check_call, absent_happens, asked_happens}
use Rattle.c8_world.proofs.table.Table.check.Goals as goal

pub returns-then-player-players-clause-happened : goal.returns-then-player-players-clause-happened
returns-then-player-players-clause-happened c =
    absent_happens _ c.args.self.now c.args.player.number (Check c.args.player.number) states.Checkpoint c.self.view_is
    (check_call c.args.player.number c.self.inside.game.now c.self.inside.room) (omega arith)

pub returns-clause-happened : goal.returns-clause-happened
returns-clause-happened c =
    let plays : IsPlayer c.self.inside.game.now c.args.player.number = record { from_one = omega arith; in_game = omega arith } in
    asked_happens _ c.args.self.now c.place.result c.args.player.number c.in-Some.node c.check.new.self c.index_mut.result.now
    (Check c.args.player.number) states.Checkpoint c.check.result
    c.self.view_is (check_call c.args.player.number c.self.inside.game.now c.self.inside.room) c.place.ensures.next (omega arith) plays
    c.index_mut.ensures.value c.in-Some.is c.check.ensures.asked
