-- The bytes are the rows of text above this one that differ, at most 199 bytes each.
use Rattle.std.proofs.Common.{◌≡◌, ◌*◌, ◌≤◌}
use Rattle.arrayvec.specs.ArrayVec.{array_vec_len}
use Rattle.c8_screen.specs.Points.{points_of}
use Rattle.c8_terminal.specs.Painter.{known_to, painted_by}
use Rattle.c8_terminal.proofs.PaintingLemmas.{rows_before}
use Rattle.c8_terminal.proofs.painter.Painter.paint.Given as goal

abbrev pub invariant-loop-y : goal.invariant-loop-y
invariant-loop-y l = record {
  items : painted_by l.self ≡ rows_before (known_to l.fn.self) (points_of l.fn.screen) l.y;
  shown : l.self.shown ≡ l.fn.self.shown;
  size : array_vec_len l.self.bytes ≤ 199 * l.y;
}
