-- So many turns took no row back, and the pen shows all rows that the watcher has.
use Rattle.std.specs.Prelude.{◌≡◌, length}
use Rattle.c8_spectator.specs.Growth.{IsStillWatched}
use Rattle.c8_watch.specs.Published.{IsShown}
use Rattle.c8_watch.specs.Turns.{AreTurns}
use Rattle.c8_watch.proofs.worker.watch_worker.Given as goal

abbrev pub invariant-loop-turn : goal.invariant-loop-turn
invariant-loop-turn g l = record {
  made : l.made ≡ l.turn;
  turns : AreTurns g.W.Wire l.turn l.initial.spectator l.spectator l.initial.wire l.wire;
  still : IsStillWatched l.initial.spectator l.spectator;
  shown : IsShown l.spectator l.fn.pen l.pen;
  published : l.published ≡ length l.pen.rows;
}
