-- Lines of which none begins so, with one more; and what follows the beginning of one.
use Rattle.std.proofs.Common.{◌≡◌, ℕ, List, [], ◌∷◌, ◌++◌, Option, None, Some, MatchOption, true, false, ap, ◌∙◌}
use Rattle.std.specs.Borrow.{Bor}
use Rattle.std.specs.Prelude.{is_some}
use Rattle.c8_files.specs.Card.{NoneBegins, IsFirstBehind}

pub none_more : (begin : List ℕ) (seen : List (List ℕ)) (line : List ℕ) → NoneBegins begin seen
    → ((rest : List ℕ) → ¬ (line ≡ begin ++ rest)) → NoneBegins begin (seen ++ line ∷ [])
none_more begin [] line none other = (other, tt)
none_more begin (x ∷ seen) line none other = (none.0, none_more begin seen line none.1 other)

-- what stands behind the beginning of a line, if it has it
abbrev pub Behind : List ℕ → List ℕ → Option (Bor (List ℕ)) → Type 0
Behind line begin found = MatchOption found ((rest : List ℕ) → ¬ (line ≡ begin ++ rest)) (λ x. line ≡ begin ++ x.now)

pub not_behind : (line begin : List ℕ) (found : Option (Bor (List ℕ))) → is_some found ≡ false → Behind line begin found
    → (rest : List ℕ) → ¬ (line ≡ begin ++ rest)
not_behind line begin None none what = what
not_behind line begin (Some x) none what = absurd (cc)

pub first_found : (line begin : List ℕ) (all seen left : List (List ℕ)) (found : Option (Bor (List ℕ))) → is_some found ≡ true
    → Behind line begin found → all ≡ seen ++ line ∷ left → NoneBegins begin seen
    → MatchOption found (NoneBegins begin all) (λ x. IsFirstBehind begin all x.now)
first_found line begin all seen left None some what cut none = absurd (cc)
first_found line begin all seen left (Some x) some what cut none =
    (seen, left, cut ∙ ap (λ (l : List ℕ). seen ++ l ∷ left) what, none)
