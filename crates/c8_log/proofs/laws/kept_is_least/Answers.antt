-- The first slot that is not open tells how many bodies are kept, so no other list of bodies is.
use Rattle.c8_log.proofs.Kept.{kept_is, only_kept}
use Rattle.c8_log.proofs.laws.kept_is_least.Goals as goal

pub returns-clause-is : goal.returns-clause-is
returns-clause-is c = kept_is

pub returns-clause-only : goal.returns-clause-only
returns-clause-only c = only_kept
