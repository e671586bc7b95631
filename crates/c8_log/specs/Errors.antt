-- The numbers of a log's errors.
use Rattle.std.specs.Prelude.{ℕ}
use Rattle.c8_log.specs.declared.error.LogError.{LogError}
use Rattle.c8_log.specs.declared.error.LogError.TheVariants.{Failed, Full, Down}

abbrev pub number_of : LogError → ℕ
number_of Failed = 1
number_of Full = 2
number_of Down = 3
