-- The numbers of the refusals, as a program prints them.
use Rattle.std.specs.Prelude.{ℕ}
use Rattle.c8_wire.specs.declared.error.WireError.{WireError}
use Rattle.c8_wire.specs.declared.error.WireError.TheVariants as errors

abbrev pub number_of : WireError → ℕ
number_of errors.Short = 1
number_of errors.Magic = 2
number_of errors.Version = 3
number_of errors.Kind = 4
number_of errors.Length = 5
number_of errors.Player = 6
number_of errors.Reserved = 7
number_of errors.Count = 8
number_of errors.Beyond = 9
number_of errors.Pairs = 10
