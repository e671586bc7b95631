-- A turn in which the wire failed counts as well: what it heard before that stays.
use Rattle.std.proofs.Common.{◌+◌, arith, rules}
use Rattle.c8_watch.proofs.worker.watch_worker.Goals as goal

pub returns-in_err-watch_turn-clause-turns : goal.returns-in_err-watch_turn-clause-turns
returns-in_err-watch_turn-clause-turns g c = (
  c.loop-turn.turn + 1,
  omega arith,
  search rules,
  c.turns_join.ensures.more c.loop-turn.turn c.args.spectator.now c.loop-turn.spectator c.watch_turn.new.spectator c.args.wire.now
      c.loop-turn.wire c.watch_turn.new.wire c.loop-turn.invariant.turns c.watch_turn.ensures,
)
