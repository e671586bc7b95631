-- Checked, not believed: lists that are the beginning of others.
use Rattle.std.proofs.Common.{◌≡◌, ℕ, zero, suc, ◌-◌, ◌≤◌, List, [], ◌∷◌, ◌++◌, length, take, drop, false, Some, refl, sym, ap, subst, ◌∙◌}
use Rattle.std.proofs.Common.{append_assoc, arith}
use Rattle.std.specs.List.{slice_get}
use Rattle.std.proofs.lemmas.Bool.{eq-eqb}
use Rattle.std.proofs.lemmas.List.{append-nil, length-append}
use Rattle.c8_known.specs.Growth.{Begins}
use Rattle.c8_known.specs.Fresh.{differ}

pub begins_same : {X : Type 0} (xs : List X) → Begins xs xs
begins_same xs = record { rest = []; is = sym (append-nil xs) }

pub begins_more : {X : Type 0} (xs ys zs : List X) → Begins xs ys → Begins ys zs → Begins xs zs
begins_more {X = X} xs ys zs one two = record {
  rest = one.rest ++ two.rest;
  is = two.is ∙ ap (λ (early : List X). early ++ two.rest) one.is ∙ append_assoc xs one.rest two.rest;
}

pub begins_append : {X : Type 0} (xs ys : List X) → Begins xs (xs ++ ys)
begins_append xs ys = record { rest = ys; is = refl }

pub begins_longer : {X : Type 0} (xs ys more : List X) → Begins xs ys → Begins xs (ys ++ more)
begins_longer xs ys more begins = begins_more xs ys (ys ++ more) begins (begins_append ys more)

pub begins_take : {X : Type 0} (n : ℕ) (xs : List X) → Begins (take n xs) xs
begins_take zero xs = record { rest = xs; is = refl }
begins_take (suc n) [] = record { rest = []; is = refl }
begins_take {X = X} (suc n) (x ∷ xs) = let tail = begins_take n xs in record { rest = tail.rest; is = ap (λ (ys : List X). x ∷ ys) tail.is }

pub begins_none : {X : Type 0} (ys : List X) → Begins [] ys
begins_none ys = record { rest = ys; is = refl }

drop_none : {X : Type 0} (n : ℕ) → drop {A = X} n [] ≡ []
drop_none zero = refl
drop_none (suc n) = refl

pub begins_drop : {X : Type 0} (n : ℕ) (xs ys : List X) → Begins xs ys → Begins (drop n xs) (drop n ys)
begins_drop zero xs ys begins = begins
begins_drop {X = X} (suc n) [] ys begins = begins_none (drop (suc n) ys)
begins_drop {X = X} (suc n) (x ∷ xs) ys begins =
    subst (λ (zs : List X). Begins (drop n xs) (drop (suc n) zs)) (sym begins.is)
    (begins_drop n xs (xs ++ begins.rest) (begins_append xs begins.rest))

pub begins_length : {X : Type 0} (xs ys : List X) → Begins xs ys → length xs ≤ length ys
begins_length {X = X} xs ys begins = omega (arith, ap (λ (zs : List X). length zs) begins.is, length-append xs begins.rest)

get_left : {X : Type 0} (xs ys : List X) (i : ℕ) (x : X) → slice_get xs i ≡ Some x → slice_get (xs ++ ys) i ≡ Some x
get_left [] ys i x is = absurd cc
get_left (y ∷ xs) ys zero x is = is
get_left (y ∷ xs) ys (suc i) x is = get_left xs ys i x is

pub begins_get : {X : Type 0} (xs ys : List X) (i : ℕ) (x : X) → Begins xs ys → slice_get xs i ≡ Some x → slice_get ys i ≡ Some x
begins_get {X = X} xs ys i x begins is = subst (λ (zs : List X). slice_get zs i ≡ Some x) (sym begins.is) (get_left xs begins.rest i x is)

-- two beginnings of one list do not differ
same_front : (xs ys more rest : List ℕ) → xs ++ more ≡ ys ++ rest → differ xs ys ≡ false
unfolding differ
same_front [] ys more rest e = refl
same_front (x ∷ xs) [] more rest e = refl
same_front (x ∷ xs) (y ∷ ys) more rest e =
    let head : x ≡ y = cc in
    let tail : xs ++ more ≡ ys ++ rest = cc in
    rw (eq-eqb x y head) (same_front xs ys more rest tail)

pub begin_one : (xs ys zs : List ℕ) → Begins xs zs → Begins ys zs → differ xs ys ≡ false
begin_one xs ys zs one two = same_front xs ys one.rest two.rest (sym one.is ∙ two.is)

-- The held part of a list goes on with the fresh part of a run that is in the list.
goes_on : (held rest words : List ℕ) (start : ℕ) → start ≤ length held → Begins words (drop start (held ++ rest))
    → Begins (held ++ drop (length held - start) words) (held ++ rest)
goes_on [] rest words start from stands =
    let zero_is : start ≡ 0 = omega (arith, from) in
    subst (λ (n : ℕ). Begins (drop (0 - n) words) rest) (sym zero_is) (subst (λ (n : ℕ). Begins words (drop n rest)) zero_is stands)
goes_on (x ∷ held) rest [] zero from stands =
    let same : x ∷ held ++ drop (length (x ∷ held) - 0) [] ≡ x ∷ held = rw (drop_none {X = ℕ} (length (x ∷ held) - 0)) (append-nil (x ∷ held)) in
    record { rest = rest; is = ap (λ (ys : List ℕ). ys ++ rest) (sym same) }
goes_on (x ∷ held) rest (w ∷ words) zero from stands =
    let tail : held ++ rest ≡ words ++ stands.rest = cc (stands.is) in
    let more = goes_on held rest words 0 (omega arith) (record { rest = stands.rest; is = tail }) in
    let none : length held - 0 ≡ length held = omega arith in
    let here : Begins (held ++ drop (length held) words) (held ++ rest) = subst (λ (n : ℕ). Begins (held ++ drop n words) (held ++ rest)) none more in
    let whole : suc (length held) - 0 ≡ suc (length held) = omega arith in
    record { rest = here.rest; is = ap (λ (ys : List ℕ). x ∷ ys) here.is ∙ ap (λ (n : ℕ). x ∷ (held ++ drop n (w ∷ words)) ++ here.rest) (sym whole) }
goes_on (x ∷ held) rest words (suc start) from stands =
    let more = goes_on held rest words start (omega (arith, from)) stands in
    let same : suc (length held) - suc start ≡ length held - start = omega arith in
    record {
      rest = more.rest;
      is = ap (λ (n : ℕ). x ∷ (held ++ rest)) same ∙ ap (λ (ys : List ℕ). x ∷ ys) more.is
          ∙ ap (λ (n : ℕ). x ∷ (held ++ drop n words) ++ more.rest) (sym same);
    }

pub begins_fresh : (held words own : List ℕ) (start : ℕ) → Begins held own → start ≤ length held → Begins words (drop start own)
    → Begins (held ++ drop (length held - start) words) own
begins_fresh held words own start begins from stands =
    subst (λ (all : List ℕ). Begins (held ++ drop (length held - start) words) all) (sym begins.is)
    (goes_on held begins.rest words start from (subst (λ (all : List ℕ). Begins words (drop start all)) begins.is stands))
