-- A mark that is found for a frame has a place among the marks, with this frame.
use Rattle.c8_digest.proofs.MarkLemmas.{found}
use Rattle.c8_digest.proofs.laws.found_marks_are_kept.Goals as goal

pub returns : goal.returns
returns c = found
