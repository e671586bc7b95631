-- The numbers of the errors, as programs print them.
use Rattle.std.specs.Prelude.{ℕ}
use Rattle.c8_known.specs.declared.error.KnownError.{KnownError}
use Rattle.c8_known.specs.declared.error.KnownError.TheVariants as errors

abbrev pub number_of : KnownError → ℕ
number_of errors.Gap = 1
number_of errors.FromLeaver = 2
number_of errors.Differs = 3
number_of errors.Full = 4
