-- The marks of a checkpoint, one by one.
use Rattle.std.proofs.Common.{◌≡◌, ℕ, zero, suc, ◌+◌, ◌-◌, ◌*◌, ◌/◌, ◌<◌, List, ◌++◌, length, map, drop, min, refl, sym, ap, ◌∙◌, arith}
use Rattle.std.specs.List.{range_with_len}
use Rattle.std.proofs.lemmas.List.{map-append}
use Rattle.std.proofs.lemmas.List.FromFn.{length-map-range_with_len}
use Rattle.std.proofs.Math.Seq.{drop-append_seam}
use Rattle.c8_game.specs.Rules.{Rules}
use Rattle.c8_machine.specs.Serial.{serial}
use Rattle.c8_digest.specs.declared.marks.FrameMark.{FrameMark}
use Rattle.c8_digest.specs.StateBytes.{mark_of}
use Rattle.c8_digest.specs.Marks.{mark_step, most_marks, marks_after, forgotten_after, kept, marks_in}
use Rattle.c8_known.specs.Known.{KnownValue}
use Rattle.c8_known.specs.Confirmed.{rows_below}
use Rattle.c8_known.specs.checked.ConfirmedLaws.{range_more}
use Rattle.c8_roll.specs.Roll.{mark_after, marks_up_to}
use Rattle.c8_audit.specs.Marked.{HaveMarksBelow}

-- ---- maps over two ranges

map_shift : {X : Type 0} (f g : ℕ → X) (a b n : ℕ) → ((i : ℕ) → i < n → f (a + i) ≡ g (b + i))
    → map f (range_with_len a n) ≡ map g (range_with_len b n)
map_shift f g a b zero same = refl
map_shift f g a b (suc n) same =
    let at_a : a ≡ a + 0 = omega arith in
    let at_b : b + 0 ≡ b = omega arith in
    let head : f a ≡ g b = ap f at_a ∙ same 0 (omega arith) ∙ ap g at_b in
    let tail : map f (range_with_len (a + 1) n) ≡ map g (range_with_len (b + 1) n) = map_shift f g (a + 1) (b + 1) n (λ i below.
    let from : a + 1 + i ≡ a + (i + 1) = omega arith in
    let to : b + (i + 1) ≡ b + 1 + i = omega arith in
    ap f from ∙ same (i + 1) (omega (arith, below)) ∙ ap g to) in
    rw (head, tail) refl

map_unshift : {X : Type 0} (f g : ℕ → X) (a b n : ℕ) → map f (range_with_len a n) ≡ map g (range_with_len b n) → (i : ℕ) → i < n
    → f (a + i) ≡ g (b + i)
map_unshift f g a b zero same i below = absurd (omega (arith, below))
map_unshift f g a b (suc n) same zero below =
    let at_a : a + 0 ≡ a = omega arith in
    let at_b : b ≡ b + 0 = omega arith in
    let head : f a ≡ g b = cc in
    ap f at_a ∙ head ∙ ap g at_b
map_unshift f g a b (suc n) same (suc i) below =
    let tail : map f (range_with_len (a + 1) n) ≡ map g (range_with_len (b + 1) n) = cc in
    let from : a + suc i ≡ a + 1 + i = omega arith in
    let to : b + 1 + i ≡ b + suc i = omega arith in
    ap f from ∙ map_unshift f g (a + 1) (b + 1) n tail i (omega (arith, below)) ∙ ap g to

-- the last sixteen of a range
kept_last : (g : ℕ → FrameMark) (n : ℕ) → kept (map g (range_with_len 0 n)) ≡ map g (range_with_len (n - min most_marks n) (min most_marks n))
kept_last g n =
    let first : ℕ = n - min most_marks n in
    let last : ℕ = min most_marks n in
    let all : first + last ≡ n = omega arith in
    let long : length (map g (range_with_len 0 n)) ≡ n = length-map-range_with_len g 0 n in
    let gone : length (map g (range_with_len 0 n)) - most_marks ≡ first = omega (arith, long) in
    let some : length (map g (range_with_len 0 first)) ≡ first = length-map-range_with_len g 0 first in
    let at : 0 + first ≡ first = omega arith in
    let parts : map g (range_with_len 0 n) ≡ map g (range_with_len 0 first) ++ map g (range_with_len first last) =
    ap (λ (m : ℕ). map g (range_with_len 0 m)) (sym all) ∙ ap (map g) (range_more 0 first last)
    ∙ map-append g (range_with_len 0 first) (range_with_len (0 + first) last)
    ∙ ap (λ (m : ℕ). map g (range_with_len 0 first) ++ map g (range_with_len m last)) at in
    ap (λ (m : ℕ). drop m (map g (range_with_len 0 n))) gone ∙ ap (λ (m : ℕ). drop m (map g (range_with_len 0 n))) (sym some)
    ∙ ap (λ (xs : List FrameMark). drop (length (map g (range_with_len 0 first))) xs) parts
    ∙ drop-append_seam (map g (range_with_len 0 first)) (map g (range_with_len first last))

-- ---- the marks of a checkpoint

up_to_is : (rules : Rules) (k : KnownValue) (frames : ℕ)
    → marks_up_to rules k frames ≡ map (λ m. mark_after rules k (mark_step * m)) (range_with_len (forgotten_after frames) (marks_after frames))
up_to_is rules k frames = kept_last (λ m. mark_after rules k (mark_step * m)) (frames / mark_step + 1)

-- the marks are those of the serial run, if each of them is
pub marks_from : (rules : Rules) (k : KnownValue) (frames : ℕ) (bytes : List ℕ) → HaveMarksBelow rules k frames bytes (frames + 1)
    → marks_in frames bytes ≡ marks_up_to rules k frames
unfolding marks_in
marks_from rules k frames bytes have =
    map_shift _ (λ m. mark_after rules k (mark_step * m)) 0 (forgotten_after frames) (marks_after frames) (λ i below.
    let here : 0 + i ≡ i = omega arith in
    let within : mark_step * (forgotten_after frames + i) < frames + 1 = omega (arith, below) in
    let mark = have (mark_step * (forgotten_after frames + i)) within i below refl in
    rw here (λ j. record { frame = mark_step * (forgotten_after frames + i); mark = mark j }))
    ∙ sym (up_to_is rules k frames)

-- and only then
pub marks_then : (rules : Rules) (k : KnownValue) (frames : ℕ) (bytes : List ℕ) (end : ℕ)
    → marks_in frames bytes ≡ marks_up_to rules k frames → HaveMarksBelow rules k frames bytes end
unfolding marks_in
marks_then rules k frames bytes end same frame within i below at =
    let each = map_unshift _ (λ m. mark_after rules k (mark_step * m)) 0 (forgotten_after frames) (marks_after frames)
    (same ∙ up_to_is rules k frames) i below in
    let here : 0 + i ≡ i = omega arith in
    let mark = ap (λ (m : FrameMark). m.mark) (rw here at each) in
    mark ∙ ap (λ (n : ℕ). mark_of (serial rules (rows_below k n))) at
