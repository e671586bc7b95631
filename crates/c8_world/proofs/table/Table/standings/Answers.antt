-- The next standing is that of the next player, so the list has all of them in order.
use Rattle.std.proofs.Common.{ℕ, subst, arith}
use Rattle.c8_world.specs.World.{peer_of}
use Rattle.c8_world.specs.Table.{node_of}
use Rattle.c8_world.specs.Ends.{IsStanding}
use Rattle.c8_world.proofs.EndLemmas.{standings_more}
use Rattle.c8_world.proofs.table.Table.standings.Goals as goal

pub loop-number-preserved : goal.loop-number-preserved
loop-number-preserved c = record {
  from_one = omega arith;
  count = omega arith;
  room = omega arith;
  known = λ w holds.
      standings_more c.args.self.now w c.loop-number.standings.items c.push_reserved.new.self.items c.in_ok-standing.standing
      c.loop-number.number (omega arith) c.push_reserved.ensures.items
      (c.loop-number.invariant.known w holds)
      (subst (λ (p : ℕ). IsStanding c.args.self.now.rules p (peer_of w p) (node_of c.args.self.now p) c.in_ok-standing.standing)
      c.player_of-player.ensures (c.in_ok-standing.ensures w holds));
}
