-- Each game has a player 1, so to drop a player at its node is that event of the world.
use Rattle.std.proofs.Common.{arith}
use Rattle.c8_peer.specs.State as states
use Rattle.c8_world.specs.World.{Leave}
use Rattle.c8_world.specs.Agreement.{IsPlayer}
use Rattle.c8_world.proofs.TableLemmas.{leave_call, asked_happens}
use Rattle.c8_world.proofs.table.Table.leave.Goals as goal

pub returns-clause-happened : goal.returns-clause-happened
returns-clause-happened c =
    let plays : IsPlayer c.self.inside.game.now 1 = record { from_one = omega arith; in_game = omega arith } in
    asked_happens _ c.args.self.now c.place.result 1 c.in-Some.node c.leave.new.self c.index_mut.result.now (Leave c.args.leaver.number)
    (states.Leave c.args.leaver.number) c.leave.result
    c.self.view_is (leave_call c.args.leaver.number c.self.inside.game.now c.self.inside.room) c.place.ensures.next (omega arith) plays
    c.index_mut.ensures.value c.in-Some.is c.leave.ensures.asked
