-- What a queue passes on. It keeps the order and may lose items.
use Rattle.std.specs.Prelude.{◌≡◌, ◌⊎◌, ℕ, List, [], ◌∷◌, ◌++◌}

-- the first list is the second one with some elements left out
abbrev pub IsPart : List (List ℕ) → List (List ℕ) → Type 0
IsPart [] whole = Unit {0}
IsPart (one ∷ part) [] = ⊥
IsPart (one ∷ part) (first ∷ whole) = ((one ≡ first) × IsPart part whole) ⊎ IsPart (one ∷ part) whole

-- One list has grown, and the other has grown by a part of what the first one grew by.
pub record IsHandedOn (from from_now to to_now : List (List ℕ)) : Type 0 where
  pub came : List (List ℕ)
  pub went : List (List ℕ)
  pub from_is : from_now ≡ from ++ came
  pub to_is : to_now ≡ to ++ went
  pub part : IsPart went came
