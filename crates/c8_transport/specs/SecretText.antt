-- The text of a secret.
use Rattle.std.specs.Prelude.{◌≡◌, ℕ, ◌-◌, ◌==◌, List, length, take, slice_index_or, if◌then◌else◌, Ok}
use Rattle.hex.specs.Hex.{decode_sized}
use Rattle.c8_transport.specs.declared.error.SecretError.{SecretError}
use Rattle.c8_transport.specs.declared.error.SecretError.TheVariants.{Bad}

-- the text without one line feed at its end
abbrev pub digits_of : List ℕ → List ℕ
digits_of text = if slice_index_or text (length text - 1) 0 == 0x0a then take (length text - 1) text else text

-- 64 hexadecimal digits, and perhaps a line feed after them, spell 32 bytes
abbrev pub IsSecretText : List ℕ → List ℕ → Type 0
IsSecretText text secret = decode_sized (digits_of text) 32 ≡ Ok secret

-- the text is that of no secret
pub record IsNoSecretText (text : List ℕ) (error : SecretError) : Type 0 where
  pub none : (secret : List ℕ) → IsSecretText text secret → ⊥
  pub bad : error ≡ Bad
