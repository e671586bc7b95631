-- The version of the library, whose three numbers are 0, 3 and 0: each has a byte, the first one the highest.
use Rattle.std.specs.Prelude.{ℕ}

abbrev pub version : ℕ
version = 768
