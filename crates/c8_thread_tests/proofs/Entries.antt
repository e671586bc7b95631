-- The last of an ether's entries.
use Rattle.std.proofs.Common.{◌≡◌, ℕ, List, [], ◌∷◌, ◌++◌, map, sym, ap, ◌∙◌}
use Rattle.std.specs.List.{range_with_len}
use Rattle.atomic_table.specs.Seated.{TableId}
use Rattle.c8_rig.specs.Tokens.{EntryValue, first_entries}

-- the last of a mapped list is the image of an element
last_made : {X Y : Type 0} (f : X → Y) (xs : List X) (front : List Y) (y : Y) → map f xs ≡ front ++ y ∷ [] → (x : X) × (f x ≡ y)
last_made f [] [] y e = absurd cc
last_made f [] (z ∷ front) y e = absurd cc
last_made f (x ∷ xs) [] y e = (x, cc)
last_made f (x ∷ xs) (z ∷ front) y e = last_made f xs front y cc

pub last_entry : (ether : TableId) (players : ℕ) (entries front : List EntryValue) (entry : EntryValue)
    → entries ≡ first_entries ether players → entries ≡ front ++ entry ∷ [] → entry.ether ≡ ether
last_entry ether players entries front entry are ends =
    let made = last_made (λ (p : ℕ). record { ether = ether; player = p; notes = [] }) (range_with_len 1 players) front entry (sym are ∙ ends) in
    sym (ap (λ (e : EntryValue). e.ether) made.1)
