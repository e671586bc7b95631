-- The places of characters.
use Rattle.std.proofs.Common.{◌≡◌, ℕ, ◌<◌, ◌≤◌, Bool, true, false, cond, Some, None, List, [], ◌∷◌, refl, sym, ap, subst, ◌∙◌, inl, inr, arith}
use Rattle.std.specs.Prelude.{◌==◌, nat_lt, IfSome}
use Rattle.std.specs.List.{list_all}
use Rattle.std.proofs.lemmas.Bool.{cases_Bool, and_parts}
use Rattle.std.proofs.lemmas.Bool.Decides.{nat_tests}
use Rattle.c8_terminal.specs.Keyboard.{Place, key_in, key_of, places, small}

-- no place has a character beyond all of them
none_past : (ps : List Place) (c : ℕ) → list_all (λ p. nat_lt p.character 256) ps ≡ true → 256 ≤ c → key_in ps c ≡ None
none_past [] c all past = refl
none_past (p ∷ ps) c all past =
    let parts = and_parts (nat_lt p.character 256) _ all in
    let below : p.character < 256 = grind (arith, nat_tests, parts.0) in
    let other : (p.character == c) ≡ false = grind (arith, nat_tests) in
    ap (λ (b : Bool). cond b (Some p.key) (key_in ps c)) other ∙ none_past ps c parts.1 past

pub no_key_past : (c : ℕ) → 256 ≤ c → key_in places c ≡ None
no_key_past c past = none_past places c refl past

-- each place is of a key of the keypad
in_keypad : (ps : List Place) (c : ℕ) → list_all (λ p. nat_lt p.key 16) ps ≡ true → IfSome (key_in ps c) (λ k. k < 16)
in_keypad [] c all = tt
in_keypad (p ∷ ps) c all =
    let parts = and_parts (nat_lt p.key 16) _ all in
    let below : p.key < 16 = grind (arith, nat_tests, parts.0) in
    elim (cases_Bool (p.character == c)) [
      | inl same ↦ subst (λ (b : Bool). IfSome (cond b (Some p.key) (key_in ps c)) (λ k. k < 16)) (sym same) below
      | inr other ↦ subst (λ (b : Bool). IfSome (cond b (Some p.key) (key_in ps c)) (λ k. k < 16)) (sym other) (in_keypad ps c parts.1)
    ]

pub key_of-below : (c : ℕ) → IfSome (key_of c) (λ k. k < 16)
unfolding key_of
key_of-below c = in_keypad places (small c) refl
