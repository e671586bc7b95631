-- The last mark of a frame is the one that is found for it.
use Rattle.c8_digest.proofs.MarkLemmas.{kept_found}
use Rattle.c8_digest.proofs.laws.kept_marks_are_found.Goals as goal

pub returns : goal.returns
returns c = kept_found
