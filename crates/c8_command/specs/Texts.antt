-- Why the two texts of a command are not both read.
use Rattle.std.specs.Prelude.{Option, None, Some}
use Rattle.c8_command.specs.declared.error.TextError.{TextError}
use Rattle.c8_command.specs.declared.error.TextError.TheVariants.{Failed, Memory}
use Rattle.c8_command.specs.declared.error.TextsError.{TextsError}
use Rattle.c8_command.specs.declared.error.TextsError.TheVariants as texts

-- the error by those of the two texts: a file that cannot be read comes before out of memory, and the first text before
-- the second
abbrev pub error_of_texts : Option TextError → Option TextError → Option TextsError
error_of_texts None None = None
error_of_texts None (Some Failed) = Some texts.SecondFailed
error_of_texts None (Some Memory) = Some texts.SecondMemory
error_of_texts (Some Failed) second = Some texts.FirstFailed
error_of_texts (Some Memory) None = Some texts.FirstMemory
error_of_texts (Some Memory) (Some Failed) = Some texts.SecondFailed
error_of_texts (Some Memory) (Some Memory) = Some texts.FirstMemory
