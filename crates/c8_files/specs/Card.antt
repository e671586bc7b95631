-- What stands on a match card: the first line of its text that begins so.
use Rattle.std.specs.Prelude.{◌≡◌, ℕ, List, ◌∷◌, ◌++◌}
use Rattle.std.specs.List.{AllByRecursion}

-- none of these lines begins so
abbrev pub NoneBegins : List ℕ → List (List ℕ) → Type 0
NoneBegins begin lines = AllByRecursion (λ line. (rest : List ℕ) → ¬ (line ≡ begin ++ rest)) lines

-- the first of these lines that begins so goes on so
abbrev pub IsFirstBehind : List ℕ → List (List ℕ) → List ℕ → Type 0
IsFirstBehind begin lines rest =
    (before : List (List ℕ)) × (after : List (List ℕ)) × (lines ≡ before ++ (begin ++ rest) ∷ after) × NoneBegins begin before
