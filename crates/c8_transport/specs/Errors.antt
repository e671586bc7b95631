-- The number of each refusal of a secret.
use Rattle.std.specs.Prelude.{ℕ}
use Rattle.c8_transport.specs.declared.error.SecretError.{SecretError}
use Rattle.c8_transport.specs.declared.error.SecretError.TheVariants.{Bad, Same}

abbrev pub secret_error_number : SecretError → ℕ
secret_error_number Bad = 1
secret_error_number Same = 2
