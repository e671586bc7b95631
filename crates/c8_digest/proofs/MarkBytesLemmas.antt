-- Marks as bytes, with one more mark.
use Rattle.std.proofs.Common.{◌≡◌, inl, inr, ℕ, zero, suc, ◌+◌, ◌-◌, ◌*◌, ◌/◌, ◌≤◌, ◌<◌, List, [], ◌∷◌, ◌++◌, length, map, get_or, take}
use Rattle.std.proofs.Common.{drop, true, Some, refl, sym, ap, ◌∙◌, append_assoc, arith}
use Rattle.std.specs.Prelude.{replicate, ◌==◌}
use Rattle.std.specs.List.{slice_get, flat_map, range_with_len, list_all}
use Rattle.std.proofs.lemmas.Bool.{cases_eq}
use Rattle.std.proofs.lemmas.List.{take_more, take_all, take-replicate, take-append-le, append-nil, length-append, length-drop}
use Rattle.std.proofs.lemmas.List.{drop-append-le, drop-drop, same_lists}
use Rattle.std.proofs.lemmas.List.FromFn.{length-map-range_with_len, get_or-map-range_with_len}
use Rattle.std.proofs.lemmas.Grind.{flat_map-append}
use Rattle.std.proofs.lemmas.Option.{slice_get_within, slice_get-get_or, get_or_from_slice_get}
use Rattle.c8_digest.specs.declared.marks.FrameMark.{FrameMark}
use Rattle.c8_digest.specs.Marks.{kept, marks_after, marks_in, marks_bytes, are_marks, mark_step, forgotten_after, AreMarksAfter}

-- ---- spelling

pub bytes_next : (marks : List FrameMark) (n : ℕ) (m : FrameMark) (out new : List ℕ) → slice_get marks n ≡ Some m
    → out ≡ flat_map (λ one. one.mark) (take n marks) → new ≡ out ++ m.mark → new ≡ flat_map (λ one. one.mark) (take (n + 1) marks)
bytes_next marks n m out new here so_far put =
    let mark : FrameMark → List ℕ = λ one. one.mark in
    let next : take (n + 1) marks ≡ take n marks ++ m ∷ [] =
    take_more marks n m (slice_get_within marks n m here)
    ∙ ap (λ (one : FrameMark). take n marks ++ one ∷ []) (get_or_from_slice_get marks n m m here) in
    put ∙ ap (λ (bytes : List ℕ). bytes ++ m.mark) so_far ∙ ap (λ (last : List ℕ). flat_map mark (take n marks) ++ last) (sym (append-nil m.mark))
    ∙ sym (flat_map-append mark (take n marks) (m ∷ [])) ∙ ap (flat_map mark) (sym next)

pub bytes_end : (marks : List FrameMark) (n room : ℕ) (out new : List ℕ) → length marks ≤ n → n ≤ length marks → room ≡ 128 - 8 * n
    → out ≡ flat_map (λ one. one.mark) (take n marks) → new ≡ out ++ take room (replicate 128 0) → new ≡ marks_bytes marks
unfolding marks_bytes
bytes_end marks n room out new all within left so_far put =
    let mark : FrameMark → List ℕ = λ one. one.mark in
    let same : room ≡ 128 - 8 * length marks = omega (arith, left, all, within) in
    put ∙ ap (λ (zeros : List ℕ). out ++ zeros) (take-replicate {X = ℕ} room 128 0 (omega (arith, left)) ∙ ap (λ (k : ℕ). replicate k 0) same)
    ∙ ap (λ (bytes : List ℕ). bytes ++ replicate (128 - 8 * length marks) 0) (so_far ∙ ap (flat_map mark) (take_all n marks all))

-- ---- reading

last_kept : (put : List FrameMark) (m : FrameMark) → kept (kept put ++ m ∷ []) ≡ kept (put ++ m ∷ [])
last_kept put m =
    let gone : ℕ = length put - 16 in
    let all = length-append put (m ∷ []) in
    let left = length-append (drop gone put) (m ∷ []) in
    let short = length-drop gone put in
    let twice : gone + (length (drop gone put ++ m ∷ []) - 16) ≡ length (put ++ m ∷ []) - 16 = omega (arith, all, left, short) in
    ap (drop (length (drop gone put ++ m ∷ []) - 16)) (sym (drop-append-le gone put (m ∷ []) (omega arith)))
    ∙ drop-drop (length (drop gone put ++ m ∷ []) - 16) gone (put ++ m ∷ []) ∙ ap (λ (n : ℕ). drop n (put ++ m ∷ [])) twice

-- the first k of the marks were put
pub record ArePut (before now marks : List FrameMark) (k : ℕ) : Type 0 where
  pub none : k ≡ 0 → now ≡ before
  pub some : 1 ≤ k → now ≡ kept (before ++ take k marks)

pub one_put : (before now new marks : List FrameMark) (k : ℕ) (m : FrameMark) → ArePut before now marks k
    → take (k + 1) marks ≡ take k marks ++ m ∷ [] → new ≡ kept (now ++ m ∷ []) → ArePut before new marks (k + 1)
one_put before now new marks k m so_far next put = record {
  none = λ not. absurd (omega (arith, not));
  some = λ more. put ∙ elim (cases_eq k 0) [
    | inl first ↦ ap (λ (old : List FrameMark). kept (old ++ m ∷ [])) (so_far.none first)
        ∙ ap (λ (ms : List FrameMark). kept (before ++ ms)) (sym (next ∙ ap (λ (n : ℕ). take n marks ++ m ∷ []) first))
    | inr later ↦ ap (λ (old : List FrameMark). kept (old ++ m ∷ [])) (so_far.some (omega (arith, later))) ∙ last_kept (before ++ take k marks) m
        ∙ ap kept (append_assoc before (take k marks) (m ∷ [])) ∙ ap (λ (ms : List FrameMark). kept (before ++ ms)) (sym next)
  ];
}

abbrev mark_of_frame : ℕ → List ℕ → FrameMark
mark_of_frame frame mark = record { frame = frame; mark = mark }

pub mark_is : (frames k count : ℕ) (mark bytes : List ℕ) → count ≡ marks_after frames → mark ≡ take 8 (drop (8 * k) bytes)
    → mark_of_frame (32 * (frames / 32 + 1 - count + k)) mark ≡ mark_of_frame (mark_step * (forgotten_after frames + k)) (take 8 (drop (8 * k) bytes))
mark_is frames k count mark bytes many is = λ i. mark_of_frame (32 * (frames / 32 + 1 - many i + k)) (is i)

pub next_in : (frames k : ℕ) (bytes : List ℕ) (m : FrameMark) → k < marks_after frames
    → m ≡ record { frame = mark_step * (forgotten_after frames + k); mark = take 8 (drop (8 * k) bytes) }
    → take (k + 1) (marks_in frames bytes) ≡ take k (marks_in frames bytes) ++ m ∷ []
unfolding marks_in
next_in frames k bytes m within is =
    let one : ℕ → FrameMark = λ j. record { frame = mark_step * (forgotten_after frames + j); mark = take 8 (drop (8 * j) bytes) } in
    let all : List FrameMark = map one (range_with_len 0 (marks_after frames)) in
    take_more all k m (omega (arith, within, length-map-range_with_len one 0 (marks_after frames)))
    ∙ ap (λ (last : FrameMark). take k all ++ last ∷ []) (get_or-map-range_with_len one 0 (marks_after frames) k k m within (omega arith) ∙ sym is)

pub all_put : (frames : ℕ) (bytes : List ℕ) (before now : List FrameMark) → ArePut before now (marks_in frames bytes) (marks_after frames)
    → now ≡ kept (before ++ marks_in frames bytes)
unfolding marks_in
all_put frames bytes before now put =
    let one : ℕ → FrameMark = λ j. record { frame = mark_step * (forgotten_after frames + j); mark = take 8 (drop (8 * j) bytes) } in
    put.some (omega arith) ∙ ap (λ (ms : List FrameMark). kept (before ++ ms))
    (take_all (marks_after frames) (map one (range_with_len 0 (marks_after frames)))
    (omega (arith, length-map-range_with_len one 0 (marks_after frames))))

-- ---- read again

AreLong : List FrameMark → Type 0
AreLong marks = (k : ℕ) (m : FrameMark) → slice_get marks k ≡ Some m → length m.mark ≡ 8

past_front : (xs ys : List ℕ) (n : ℕ) → drop (length xs + n) (xs ++ ys) ≡ drop n ys
past_front [] ys n = let none : 0 + n ≡ n = omega arith in ap (λ (k : ℕ). drop k ys) none
past_front (x ∷ xs) ys n = let one : length (x ∷ xs) + n ≡ suc (length xs + n) = omega arith in
    ap (λ (k : ℕ). drop k (x ∷ xs ++ ys)) one ∙ past_front xs ys n

pub front_of : (n : ℕ) (xs ys : List ℕ) → length xs ≡ n → take n (xs ++ ys) ≡ xs
front_of n xs ys long = take-append-le n xs ys (omega (arith, long)) ∙ take_all n xs (omega (arith, long))

mark_in_place : (marks : List FrameMark) (zeros : List ℕ) (k : ℕ) (m : FrameMark) → AreLong marks → slice_get marks k ≡ Some m
    → take 8 (drop (8 * k) (flat_map (λ one. one.mark) marks ++ zeros)) ≡ m.mark
unfolding AreLong
mark_in_place [] zeros k m long is = absurd cc
mark_in_place (x ∷ marks) zeros zero m long is =
    let here : x ≡ m = cc in
    ap (take 8) (append_assoc x.mark (flat_map (λ one. one.mark) marks) zeros)
    ∙ front_of 8 x.mark (flat_map (λ one. one.mark) marks ++ zeros) (long 0 x refl) ∙ ap (λ (one : FrameMark). one.mark) here
mark_in_place (x ∷ marks) zeros (suc k) m long is =
    let far : 8 * suc k ≡ length x.mark + 8 * k = omega (arith, long 0 x refl) in
    ap (λ (n : ℕ). take 8 (drop n (flat_map (λ one. one.mark) (x ∷ marks) ++ zeros))) far
    ∙ ap (λ (bytes : List ℕ). take 8 (drop (length x.mark + 8 * k) bytes)) (append_assoc x.mark (flat_map (λ one. one.mark) marks) zeros)
    ∙ ap (take 8) (past_front x.mark (flat_map (λ one. one.mark) marks ++ zeros) (8 * k))
    ∙ mark_in_place marks zeros k m (λ j n there. long (suc j) n there) is

all_long : (frames : ℕ) (marks : List FrameMark) → AreMarksAfter frames marks → AreLong marks
unfolding AreLong
all_long frames marks are = λ k m there. (are.each k m there).long

same_mark : (marks : List FrameMark) (frames k : ℕ) (d : FrameMark) → AreMarksAfter frames marks → k < marks_after frames
    → mark_of_frame (mark_step * (forgotten_after frames + k)) (take 8 (drop (8 * k) (marks_bytes marks))) ≡ get_or marks k d
unfolding marks_bytes AreLong
same_mark marks frames k d are within =
    let here : slice_get marks k ≡ Some (get_or marks k d) = slice_get-get_or marks k d (omega (arith, within, are.count)) in
    let frame = (are.each k (get_or marks k d) here).frame_is in
    let mark = mark_in_place marks (replicate (128 - 8 * length marks) 0) k (get_or marks k d) (all_long frames marks are) here in
    λ i. mark_of_frame (sym frame i) (mark i)

pub read_again : (frames : ℕ) (marks : List FrameMark) → AreMarksAfter frames marks → marks_in frames (marks_bytes marks) ≡ marks
unfolding marks_in
read_again frames marks are =
    let one : ℕ → FrameMark = λ j. mark_of_frame (mark_step * (forgotten_after frames + j)) (take 8 (drop (8 * j) (marks_bytes marks))) in
    let many = length-map-range_with_len one 0 (marks_after frames) in
    same_lists (map one (range_with_len 0 (marks_after frames))) marks (omega (arith, many, are.count))
    (λ k d below. get_or-map-range_with_len one 0 (marks_after frames) k k d (omega (arith, below, many)) (omega arith)
    ∙ same_mark marks frames k d are (omega (arith, below, many)))

length_marks : (marks : List FrameMark) → AreLong marks → length (flat_map (λ one. one.mark) marks) ≡ 8 * length marks
unfolding AreLong
length_marks [] long = refl
length_marks (x ∷ marks) long = omega (
  arith,
  length-append x.mark (flat_map (λ one. one.mark) marks),
  long 0 x refl,
  length_marks marks (λ k m there. long (suc k) m there),
)

all_zeros : (n : ℕ) → list_all (λ byte. byte == 0) (replicate n 0) ≡ true
all_zeros zero = refl
all_zeros (suc n) = all_zeros n

pub zeros_again : (frames : ℕ) (marks : List FrameMark) → AreMarksAfter frames marks → are_marks frames (marks_bytes marks) ≡ true
unfolding marks_bytes AreLong
zeros_again frames marks are =
    let front : List ℕ = flat_map (λ one. one.mark) marks in
    let zeros : List ℕ = replicate (128 - 8 * length marks) 0 in
    let far : 8 * marks_after frames ≡ length front + 0 = omega (arith, length_marks marks (all_long frames marks are), are.count) in
    ap (λ (n : ℕ). list_all (λ byte. byte == 0) (drop n (front ++ zeros))) far
    ∙ ap (list_all (λ byte. byte == 0)) (past_front front zeros 0) ∙ all_zeros (128 - 8 * length marks)

-- before the first frame one mark is kept
pub one_mark : (bytes mark : List ℕ) → take 8 bytes ≡ mark → marks_in 0 bytes ≡ mark_of_frame 0 mark ∷ []
unfolding marks_in
one_mark bytes mark is = ap (λ (m : List ℕ). mark_of_frame 0 m ∷ []) is

-- and zeros follow its bytes
pub one_mark_bytes : (mark : List ℕ) → marks_bytes (mark_of_frame 0 mark ∷ []) ≡ mark ++ replicate 120 0
unfolding marks_bytes
one_mark_bytes mark = ap (λ (front : List ℕ). front ++ replicate 120 0) (append-nil mark)
