-- A frame without a place among the kept marks has no mark that could differ.
use Rattle.std.proofs.Common.{refl}
use Rattle.c8_audit.proofs.truth.has_mark.Goals as goal

pub returns-in-None : goal.returns-in-None
returns-in-None c = (λ e k within at. absurd (c.in-None.ensures k within at), λ has. refl)
