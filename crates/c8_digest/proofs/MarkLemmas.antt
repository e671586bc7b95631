-- The last mark for a frame, with one more mark.
use Rattle.std.proofs.Common.{◌≡◌, ◌≢◌, ◌⊎◌, inl, inr, ⊎_elim, ℕ, zero, suc, ◌+◌, ◌-◌, ◌≤◌, List, [], ◌∷◌, ◌++◌, length, take, drop, Bool}
use Rattle.std.proofs.Common.{true, false, Option, Some, None, refl, sym, ap, ◌∙◌, arith}
use Rattle.std.specs.List.{slice_get}
use Rattle.std.proofs.lemmas.List.{take_more, length-append, length-drop, drop-append-le}
use Rattle.std.proofs.lemmas.Option.{slice_get_within, get_or_from_slice_get}
use Rattle.std.specs.Prelude.{◌==◌, if◌then◌else◌, fold}
use Rattle.std.proofs.lemmas.Bool.{eqb-true, eq-eqb, ne_eqb}
use Rattle.std.proofs.lemmas.List.Sums.{fold-append}
use Rattle.c8_digest.specs.declared.marks.FrameMark.{FrameMark}
use Rattle.c8_digest.specs.Marks.{kept, mark_at, newest_of, IsLastFor}

pub mark_none : (frame : ℕ) → mark_at frame [] ≡ None
unfolding mark_at
mark_none frame = refl

mark_more : (frame : ℕ) (marks : List FrameMark) (m : FrameMark)
    → mark_at frame (marks ++ m ∷ []) ≡ (if m.frame == frame then Some m.mark else mark_at frame marks)
unfolding mark_at
mark_more frame marks m = fold-append (λ (found : Option (List ℕ)) (one : FrameMark). if one.frame == frame then Some one.mark else found)
    None marks (m ∷ [])

pub mark_next : (frame : ℕ) (marks : List FrameMark) (n : ℕ) (m : FrameMark) (found : Option (List ℕ)) → slice_get marks n ≡ Some m
    → found ≡ mark_at frame (take n marks)
    → (if m.frame == frame then Some m.mark else found) ≡ mark_at frame (take (n + 1) marks)
mark_next frame marks n m found here is =
    let next : take (n + 1) marks ≡ take n marks ++ m ∷ [] =
    take_more marks n m (slice_get_within marks n m here)
    ∙ ap (λ (one : FrameMark). take n marks ++ one ∷ []) (get_or_from_slice_get marks n m m here) in
    ap (λ (before : Option (List ℕ)). if m.frame == frame then Some m.mark else before) is ∙ sym (mark_more frame (take n marks) m)
    ∙ ap (mark_at frame) (sym next)

-- ---- laws

pub few : (put : List FrameMark) → length (kept put) ≤ 16
few put = omega (arith, length-drop (length put - 16) put)

here : (xs : List FrameMark) (m : FrameMark) → slice_get (xs ++ m ∷ []) (length xs) ≡ Some m
here [] m = refl
here (x ∷ xs) m = here xs m

newest_here : (xs : List FrameMark) (m : FrameMark) → newest_of (xs ++ m ∷ []) ≡ Some m
newest_here xs m =
    let seam : length (xs ++ m ∷ []) - 1 ≡ length xs = omega (arith, length-append xs (m ∷ [])) in
    ap (slice_get (xs ++ m ∷ [])) seam ∙ here xs m

pub newest : (put : List FrameMark) (m : FrameMark) → newest_of (kept (put ++ m ∷ [])) ≡ Some m
newest put m =
    let gone : ℕ = length (put ++ m ∷ []) - 16 in
    ap newest_of (drop-append-le gone put (m ∷ []) (omega (arith, length-append put (m ∷ [])))) ∙ newest_here (drop gone put) m

-- a mark that is found is the first item's, or was found before
found_first : (test : Bool) (frame : ℕ) (mark : List ℕ) (before : Option (List ℕ)) (m : FrameMark) → (m.frame == frame) ≡ test
    → (if test then Some m.mark else before) ≡ Some mark
    → (before ≡ Some mark) ⊎ (m ≡ record { frame = frame; mark = mark })
found_first true frame mark before m same is =
    let place : m.frame ≡ frame = eqb-true m.frame frame same in
    let marks : m.mark ≡ mark = cc in
    inr (λ i. record { frame = place i; mark = marks i })
found_first false frame mark before m same is = inl is

-- where a mark was found, before the list or in it
found_in : (frame : ℕ) (mark : List ℕ) (before : Option (List ℕ)) (marks : List FrameMark)
    → fold (λ (found : Option (List ℕ)) (m : FrameMark). if m.frame == frame then Some m.mark else found) before marks ≡ Some mark
    → (before ≡ Some mark) ⊎ ((place : ℕ) × slice_get marks place ≡ Some (record { frame = frame; mark = mark }))
found_in frame mark before [] is = inl is
found_in frame mark before (m ∷ marks) is =
    ⊎_elim
    (λ first. ⊎_elim (λ earlier. inl earlier) (λ same. inr (0, ap Some same)) (found_first (m.frame == frame) frame mark before m refl first))
    (λ later. inr (suc later.0, later.1))
    (found_in frame mark (if m.frame == frame then Some m.mark else before) marks is)

pub found : (marks : List FrameMark) (frame : ℕ) (mark : List ℕ) → mark_at frame marks ≡ Some mark
    → (place : ℕ) × slice_get marks place ≡ Some (record { frame = frame; mark = mark })
unfolding mark_at
found marks frame mark is = ⊎_elim (λ none. absurd cc) (λ place. place) (found_in frame mark None marks is)

-- a list without a mark of the frame changes nothing of what was found
found_before : (frame : ℕ) (before : Option (List ℕ)) (marks : List FrameMark)
    → ((place : ℕ) (m : FrameMark) → slice_get marks place ≡ Some m → m.frame ≢ frame)
    → fold (λ (found : Option (List ℕ)) (m : FrameMark). if m.frame == frame then Some m.mark else found) before marks ≡ before
found_before frame before [] none = refl
found_before frame before (m ∷ marks) none =
    let other : (m.frame == frame) ≡ false = ne_eqb m.frame frame (none 0 m refl) in
    let step : (if m.frame == frame then Some m.mark else before) ≡ before = rw other refl in
    found_before frame (if m.frame == frame then Some m.mark else before) marks (λ place x is. none (suc place) x is) ∙ step

found_last : (m : FrameMark) (before : Option (List ℕ)) (marks : List FrameMark) (place : ℕ) → slice_get marks place ≡ Some m
    → IsLastFor marks place m.frame
    → fold (λ (found : Option (List ℕ)) (x : FrameMark). if x.frame == m.frame then Some x.mark else found) before marks ≡ Some m.mark
found_last m before [] place is last = absurd cc
found_last m before (x ∷ marks) zero is last =
    let same : x ≡ m = cc in
    let own : (m.frame == m.frame) ≡ true = eq-eqb m.frame m.frame refl in
    let first : (if x.frame == m.frame then Some x.mark else before) ≡ Some m.mark = rw (same, own) refl in
    found_before m.frame (if x.frame == m.frame then Some x.mark else before) marks (λ place n here. last (suc place) n (omega arith) here) ∙ first
found_last m before (x ∷ marks) (suc place) is last =
    found_last m (if x.frame == m.frame then Some x.mark else before) marks place is
    (λ later n after here. last (suc later) n (omega (arith, after)) here)

pub kept_found : (marks : List FrameMark) (place : ℕ) (m : FrameMark) → slice_get marks place ≡ Some m → IsLastFor marks place m.frame
    → mark_at m.frame marks ≡ Some m.mark
unfolding mark_at
kept_found marks place m is last = found_last m None marks place is last
