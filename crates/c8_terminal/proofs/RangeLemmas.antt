-- Ranges of numbers with one more number, and a test of each number.
use Rattle.std.proofs.Common.{◌≡◌, ℕ, zero, suc, ◌+◌, ◌<◌, ◌≤◌, Bool, true, List, [], ◌∷◌, ◌++◌, refl, sym, ap, ◌∙◌, inl, inr, arith}
use Rattle.std.specs.List.{list_all, flat_map, range_with_len}
use Rattle.std.proofs.lemmas.Grind.{flat_map-append}
use Rattle.std.proofs.lemmas.List.{append_assoc, append-nil}
use Rattle.std.proofs.lemmas.Bool.{and_parts, and_from, cases_lt}

range_suc : (a n : ℕ) → range_with_len a (suc n) ≡ range_with_len a n ++ (a + n) ∷ []
range_suc a zero = let same : a ≡ a + 0 = omega arith in ap (λ (m : ℕ). m ∷ []) same
range_suc a (suc n) =
    let same : a + 1 + n ≡ a + suc n = omega arith in
    ap (λ (rest : List ℕ). a ∷ rest) (range_suc (a + 1) n ∙ ap (λ (m : ℕ). range_with_len (a + 1) n ++ m ∷ []) same)

pub range_more : (n : ℕ) → range_with_len 0 (n + 1) ≡ range_with_len 0 n ++ n ∷ []
range_more n =
    let one : n + 1 ≡ suc n = omega arith in
    let same : 0 + n ≡ n = omega arith in
    ap (range_with_len 0) one ∙ range_suc 0 n ∙ ap (λ (m : ℕ). range_with_len 0 n ++ m ∷ []) same

-- what the numbers spell, and what the next one spells
pub spelled_more : (f : ℕ → List ℕ) (before : List ℕ) (n : ℕ)
    → (before ++ flat_map f (range_with_len 0 n)) ++ f n ≡ before ++ flat_map f (range_with_len 0 (n + 1))
spelled_more f before n =
    append_assoc before (flat_map f (range_with_len 0 n)) (f n)
    ∙ ap (λ (bytes : List ℕ). before ++ bytes)
    (ap (λ (last : List ℕ). flat_map f (range_with_len 0 n) ++ last) (sym (append-nil (f n)))
    ∙ sym (flat_map-append f (range_with_len 0 n) (n ∷ [])) ∙ ap (flat_map f) (sym (range_more n)))

pub all_at : (p : ℕ → Bool) (a n x : ℕ) → list_all p (range_with_len a n) ≡ true → a ≤ x → x < a + n → p x ≡ true
all_at p a zero x all low high = absurd (omega arith)
all_at p a (suc n) x all low high =
    let parts = and_parts (p a) _ all in
    elim (cases_lt a x) [
      | inl below ↦ all_at p (a + 1) n x parts.1 (omega arith) (omega arith)
      | inr here ↦ let same : a ≡ x = omega arith in ap p (sym same) ∙ parts.0
    ]

pub all_from : (p : ℕ → Bool) (a n : ℕ) → ((x : ℕ) → a ≤ x → x < a + n → p x ≡ true) → list_all p (range_with_len a n) ≡ true
all_from p a zero each = refl
all_from p a (suc n) each = and_from (p a) _ (each a (omega arith) (omega arith))
    (all_from p (a + 1) n (λ x low high. each x (omega arith) (omega arith)))
