-- The four digits of a code tell its one instruction, or that it has none.
use Rattle.c8_machine.specs.checked.DecodingLaws.{is_instruction_of, only_instruction}
use Rattle.c8_machine.proofs.laws.code_has_one_instruction.Goals as goal

pub returns : goal.returns
returns c = λ code. record { is_one = is_instruction_of code; is_only = only_instruction code }
