-- The columns so far have their marks, and the line feed stays at the end.
use Rattle.std.proofs.Common.{◌≡◌, ◌<◌, ℕ, get_or, length}
use Rattle.c8_screen.specs.Points.{points_of}
use Rattle.c8_texts.specs.Report.{mark_of}
use Rattle.c8_texts.proofs.report.row_text.Given as goal

-- the columns so far are marked, and the line feed comes after them
abbrev pub invariant-loop-x : goal.invariant-loop-x
invariant-loop-x l = record {
  length : length l.text ≡ 65;
  marked : (k : ℕ) → k < l.x → get_or l.text k 0 ≡ mark_of (points_of l.screen k l.y);
  end : get_or l.text 64 0 ≡ 10;
}
