-- Which key of the keypad a key of the keyboard means.
use Rattle.std.specs.Prelude.{ℕ, ◌+◌, ◌&&◌, ◌==◌, nat_le, List, [], ◌∷◌, Option, Some, None, if◌then◌else◌}

-- a character, and the key of the keypad at its place
pub record Place : Type 0 where
  pub character : ℕ
  pub key : ℕ

abbrev pub at : ℕ → ℕ → Place
at character key = record { character = character; key = key }

-- the left block of a keyboard, by place:
--   1 2 3 4      1 2 3 C
--   q w e r      4 5 6 D
--   a s d f      7 8 9 E
--   z x c v      A 0 B F
abbrev pub places : List Place
places =
    at 0x31 0x1 ∷ at 0x32 0x2 ∷ at 0x33 0x3 ∷ at 0x34 0xC
    ∷ at 0x71 0x4 ∷ at 0x77 0x5 ∷ at 0x65 0x6 ∷ at 0x72 0xD
    ∷ at 0x61 0x7 ∷ at 0x73 0x8 ∷ at 0x64 0x9 ∷ at 0x66 0xE
    ∷ at 0x7A 0xA ∷ at 0x78 0x0 ∷ at 0x63 0xB ∷ at 0x76 0xF
    ∷ []

-- the key of the first place with this character
abbrev pub key_in : List Place → ℕ → Option ℕ
key_in [] character = None
key_in (place ∷ rest) character = if place.character == character then Some place.key else key_in rest character

-- a capital ASCII letter as a small one
abbrev pub small : ℕ → ℕ
small character = if nat_le 0x41 character && nat_le character 0x5A then character + 0x20 else character

-- the key that a character means
unfoldable pub key_of : ℕ → Option ℕ
key_of character = key_in places (small character)

-- the key that an arrow means, by the last byte of its sequence: A up, B down, C right, D left
abbrev pub arrow_key : ℕ → Option ℕ
arrow_key last =
    if last == 0x41 then Some 0x5
    else if last == 0x42 then Some 0x8
    else if last == 0x43 then Some 0x9
    else if last == 0x44 then Some 0x7
    else None
