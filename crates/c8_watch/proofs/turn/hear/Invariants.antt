-- The watcher has heard at most one packet a round, and the wire has sent nothing.
use Rattle.c8_watch.specs.Turns.{HasHeard}
use Rattle.c8_watch.proofs.turn.hear.Given as goal

abbrev pub invariant-loop : goal.invariant-loop
invariant-loop g l = record {
  heard : HasHeard g.W.Wire l.counter l.initial.spectator l.spectator l.initial.wire l.wire;
}
