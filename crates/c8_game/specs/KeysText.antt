-- How a text spells a key set: by four hexadecimal digits of either case, the most significant first.
use Rattle.std.specs.Prelude.{ℕ, Bool, List, [], is_ok}
use Rattle.std.specs.Int.{from_be_bytes, w16}
use Rattle.std.specs.Result.{result_unwrap_or}
use Rattle.hex.specs.Hex.{decode_sized}

abbrev pub is_keys_text : List ℕ → Bool
is_keys_text text = is_ok (decode_sized text 2)

abbrev pub keys_number : List ℕ → ℕ
keys_number text = from_be_bytes w16 (result_unwrap_or (decode_sized text 2) [])
