-- What the command `secret` answers.
use Rattle.std.specs.Prelude.{◌≡◌, ℕ, List, [], ◌∷◌, ◌++◌, length, Option}
use Rattle.std.specs.Io.KnownBytes.{Appends}
use Rattle.hex.specs.Hex.{encode_lower}
use Rattle.c8_command.specs.declared.status.Status.{Status}
use Rattle.c8_command.specs.declared.status.Status.TheVariants.{Done, Refused, CommandLine, Failed}

-- Done with the digits of as many bytes as a secret has, on a line. Or the system gave no random bytes.
abbrev pub HasDrawn : Option (List ℕ) → Option (List ℕ) → Status → Type 0
HasDrawn old new Done = (bytes : List ℕ) × (length bytes ≡ 32) × Appends old new (encode_lower bytes ++ (10 ∷ []))
HasDrawn old new Refused = ⊥
HasDrawn old new CommandLine = ⊥
HasDrawn old new Failed = new ≡ old
