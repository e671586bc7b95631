-- Key sets by the digits of their keys.
use Rattle.std.specs.Prelude.{◌≡◌, ℕ, ◌<◌, ◌↔◌, true, List, length, Some, slice_index}
use Rattle.std.specs.List.{list_all}
use Rattle.hex.specs.Hex.{hex_digit_value, is_hex_digit}
use Rattle.c8_game.specs.Rules.{HasBit}

-- one of the digits is that of the key, in either case
pub record HasDigit (digits : List ℕ) (key : ℕ) : Type 0 where
  pub place : ℕ
  pub within : place < length digits
  pub names : hex_digit_value (slice_index digits place) ≡ Some key

-- the text has hexadecimal digits alone, and the set has exactly the keys that they name
pub record AreKeysOf (digits : List ℕ) (keys : ℕ) : Type 0 where
  pub hexadecimal : list_all is_hex_digit digits ≡ true
  pub named : (key : ℕ) → HasBit keys key ↔ HasDigit digits key
