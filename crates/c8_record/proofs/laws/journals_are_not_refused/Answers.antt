-- Each body of a journal is allowed, its HEAD among them, so no reason to refuse them applies.
use Rattle.c8_record.specs.checked.RefusalLaws.{not_refused}
use Rattle.c8_record.proofs.laws.journals_are_not_refused.Goals as goal

pub returns : goal.returns
returns c = not_refused
