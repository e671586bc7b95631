-- The entries of an ether, one after another.
use Rattle.std.proofs.Common.{◌≡◌, ℕ, zero, suc, ◌+◌, List, [], ◌∷◌, ◌++◌, map, ap, ◌∙◌, arith}
use Rattle.std.specs.List.{range_with_len}
use Rattle.std.proofs.lemmas.List.{map-append}
use Rattle.atomic_table.specs.Seated.{TableId}
use Rattle.c8_rig.specs.Tokens.{EntryValue, first_entries}

range_last : (a n : ℕ) → range_with_len a (suc n) ≡ range_with_len a n ++ (a + n) ∷ []
range_last a zero = ap (λ (x : ℕ). x ∷ []) (let e : a ≡ a + 0 = omega arith in e)
range_last a (suc n) = ap (λ (xs : List ℕ). a ∷ xs)
    (range_last (a + 1) n ∙ ap (λ (x : ℕ). range_with_len (a + 1) n ++ x ∷ []) (let e : a + 1 + n ≡ a + suc n = omega arith in e))

pub entry_more : (ether : TableId) (n : ℕ)
    → first_entries ether (n + 1) ≡ first_entries ether n ++ record { ether = ether; player = n + 1; notes = [] } ∷ []
entry_more ether n =
    let entry : ℕ → EntryValue = λ p. record { ether = ether; player = p; notes = [] } in
    ap (λ (k : ℕ). first_entries ether k) (let e : n + 1 ≡ suc n = omega arith in e) ∙ ap (map entry) (range_last 1 n)
    ∙ map-append entry (range_with_len 1 n) ((1 + n) ∷ [])
    ∙ ap (λ (p : ℕ). first_entries ether n ++ entry p ∷ []) (let e : 1 + n ≡ n + 1 = omega arith in e)
