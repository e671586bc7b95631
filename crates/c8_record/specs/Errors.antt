-- The numbers that programs print for an opening that is refused for one of these reasons.
use Rattle.std.specs.Prelude.{ℕ}
use Rattle.c8_record.specs.declared.error.ReplayError.{ReplayError}
use Rattle.c8_record.specs.declared.error.ReplayError.TheVariants as errors

abbrev pub number_of : ReplayError → ℕ
number_of errors.WrongGame = 1
number_of errors.WrongPlayer = 2
number_of (errors.BadRecord n) = 3
number_of (errors.Disk why) = 6
