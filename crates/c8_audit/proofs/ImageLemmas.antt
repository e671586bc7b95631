-- What a reader gives, block by block.
use Rattle.std.proofs.Common.{◌≡◌, ℕ, zero, suc, ◌+◌, List, [], ◌∷◌, ◌++◌, take, drop, Option, None, Some, IfSome, refl, sym, ap, ◌∙◌, arith}
use Rattle.std.proofs.lemmas.List.{append_assoc, append-nil, take-append-drop}
use Rattle.std.specs.Io.KnownBytes.{Consumes, IsAtEnd}

abbrev nil : List ℕ
nil = []

take_none : (m : ℕ) → take m nil ≡ nil
take_none zero = refl
take_none (suc m) = refl

next : (n m : ℕ) → suc n + m ≡ suc (n + m)
next n m = omega arith

take_add : (n m : ℕ) (xs : List ℕ) → take (n + m) xs ≡ take n xs ++ take m (drop n xs)
take_add zero m xs = ap (λ (k : ℕ). take k xs) (omega arith)
take_add (suc n) m [] = ap (λ (k : ℕ). take k nil) (next n m) ∙ sym (take_none m)
take_add (suc n) m (x ∷ xs) = ap (λ (k : ℕ). take k (x ∷ xs)) (next n m) ∙ ap (λ (ys : List ℕ). x ∷ ys) (take_add n m xs)

pub consumes_both : (a b c : Option (List ℕ)) (xs ys : List ℕ) → Consumes a b xs → Consumes b c ys → Consumes a c (xs ++ ys)
consumes_both None b c xs ys one two = tt
consumes_both (Some us) None c xs ys one two = absurd one
consumes_both (Some us) (Some vs) None xs ys one two = absurd two
consumes_both (Some us) (Some vs) (Some ws) xs ys one two = one ∙ ap (λ (zs : List ℕ). xs ++ zs) two ∙ sym (append_assoc xs ys ws)

pub consumes_more : (a b c : Option (List ℕ)) (n m end : ℕ) (bytes : List ℕ) → n + m ≡ end → Consumes a b (take n bytes)
    → Consumes b c (take m (drop n bytes)) → Consumes a c (take end bytes)
consumes_more a b c n m end bytes ends one two =
    rw (ap (λ (k : ℕ). take k bytes) (sym ends) ∙ take_add n m bytes) (consumes_both a b c (take n bytes) (take m (drop n bytes)) one two)

pub all_consumed : (a b : Option (List ℕ)) (bytes : List ℕ) → Consumes a b bytes → IsAtEnd b → IfSome a (λ left. left ≡ bytes)
all_consumed None b bytes one none = tt
all_consumed (Some us) None bytes one none = absurd one
all_consumed (Some us) (Some vs) bytes one none = one ∙ ap (λ (zs : List ℕ). bytes ++ zs) none ∙ append-nil bytes

pub consumes_rest : (a b c : Option (List ℕ)) (n : ℕ) (bytes : List ℕ) → Consumes a b (take n bytes) → Consumes b c (drop n bytes)
    → Consumes a c bytes
consumes_rest a b c n bytes one two = rw (sym (take-append-drop n bytes)) (consumes_both a b c (take n bytes) (drop n bytes) one two)
