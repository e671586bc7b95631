-- A text stands in another if that begins with it at this place, or has it behind; `contains` (page) needs it.
use Rattle.std.proofs.Common.{◌≡◌, ◌<◌, ◌||◌, ℕ, List, [], ◌∷◌, zero, suc, drop, length, nat_eq, refl, arith}
use Rattle.std.specs.List.{starts_with}
use Rattle.c8_relay_web.specs.Paths.{contains}

pub from_place : (text word : List ℕ) (place : ℕ) → place < length text
    → contains (drop place text) word ≡ (starts_with nat_eq (drop place text) word || contains (drop (suc place) text) word)
from_place [] word place below = absurd (omega (arith, below))
from_place (byte ∷ text) word zero below = refl
from_place (byte ∷ text) word (suc place) below = from_place text word place (omega (arith, below))
