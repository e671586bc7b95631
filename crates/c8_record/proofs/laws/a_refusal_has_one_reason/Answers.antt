-- The reasons to refuse bodies exclude one another, and two first bad bodies are the same.
use Rattle.c8_record.specs.checked.RefusalLaws.{one_refusal}
use Rattle.c8_record.proofs.laws.a_refusal_has_one_reason.Goals as goal

pub returns : goal.returns
returns c = one_refusal
