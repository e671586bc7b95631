-- What an image keeps, by the number of its open slots.
use Rattle.std.proofs.Common.{◌≡◌, ◌≢◌, inl, inr, ◌<◌, ◌≤◌, ℕ, zero, suc, ◌+◌, ◌*◌, nat_le, ◌==◌, not, Bool, true, false, List, [], ◌∷◌}
use Rattle.std.proofs.Common.{length, take, drop, slice_index, slice_get, Some, refl, sym, ◌∙◌, ap, subst, arith}
use Rattle.std.proofs.lemmas.Bool.{cases_lt, cases_order, leb-true, eqb-true, le-leb, lt-leb, lt-ltb, eq-eqb, ne_eqb, and_parts, and_from}
use Rattle.std.proofs.lemmas.Bool.{and_left, and_right, not-true, not-false, true≢false}
use Rattle.std.proofs.lemmas.List.{get_or_append_left, get_or_push, drop-take, drop-drop, length_push}
use Rattle.std.proofs.lemmas.Option.{slice_get-get_or, get_or_from_slice_get}
use Rattle.c8_log.specs.Slots.{is_open, body_of, least, kept_count, first_bodies, kept, IsKept}
use Rattle.c8_log.specs.Log.{has_closed_gate_at}
use Rattle.c8_log.proofs.Least.{least_is}

-- the slots below n are open, and slot n is not
pub record IsFront (image : List ℕ) (n : ℕ) : Type 0 where
  pub below : (m : ℕ) → m < n → is_open image m ≡ true
  pub at : is_open image n ≡ false

pub whole : (image : List ℕ) (n : ℕ) → is_open image n ≡ true → 144 * n + 144 ≤ length image
whole image n opens = leb-true _ _ (and_parts (nat_le (144 * n + 144) (length image)) (slice_index image (144 * n) == 0xa5) opens).0

pub gate : (image : List ℕ) (n : ℕ) → is_open image n ≡ true → slice_index image (144 * n) ≡ 0xa5
gate image n opens = eqb-true _ _ (and_parts (nat_le (144 * n + 144) (length image)) (slice_index image (144 * n) == 0xa5) opens).1

pub opens : (image : List ℕ) (n : ℕ) → 144 * n + 144 ≤ length image → slice_index image (144 * n) ≡ 0xa5 → is_open image n ≡ true
opens image n whole is = and_from _ _ (le-leb _ _ whole) (eq-eqb _ _ is)

pub shut_by_gate : (image : List ℕ) (n : ℕ) → slice_index image (144 * n) ≢ 0xa5 → is_open image n ≡ false
shut_by_gate image n shut = and_right _ _ (ne_eqb _ _ shut)

pub shut_by_end : (image : List ℕ) (n : ℕ) → length image < 144 * n + 144 → is_open image n ≡ false
shut_by_end image n short = and_left _ _ (lt-leb _ _ short)

pub both : {b : Bool} → b ≡ true → b ≡ false → ⊥
both passes fails = true≢false (sym passes ∙ fails)

-- the number of open slots has these properties, and no other number
pub front_of : (image : List ℕ) → IsFront image (kept_count image)
unfolding kept_count
front_of image =
    let is = least_is (λ n. not (is_open image n)) (length image) in
    record {
      below = λ m lt. not-false _ (is.below m lt);
      at = elim (cases_order (least (λ n. not (is_open image n)) (length image)) (length image)) [
        | inl same ↦ shut_by_end image _ (omega arith)
        | inr apart ↦ elim apart [ inl less ↦ not-true _ (is.at less) | inr more ↦ shut_by_end image _ (omega arith) ]
      ];
    }

pub front_unique : (image : List ℕ) (m n : ℕ) → IsFront image m → IsFront image n → m ≡ n
front_unique image m n one other = elim (cases_order m n) [
  | inl same ↦ same
  | inr apart ↦ elim apart [ inl less ↦ absurd (both (other.below m less) one.at) | inr more ↦ absurd (both (one.below n more) other.at) ]
]

pub length-first_bodies : (image : List ℕ) (n : ℕ) → length (first_bodies image n) ≡ n
length-first_bodies image zero = refl
length-first_bodies image (suc n) = omega (arith, length_push (first_bodies image n) (body_of image n), length-first_bodies image n)

pub kept_from : (image : List ℕ) (n : ℕ) → IsFront image n → kept image ≡ first_bodies image n
unfolding kept
kept_from image n front = ap (first_bodies image) (front_unique image (kept_count image) n (front_of image) front)

pub length-kept : (image : List ℕ) (n : ℕ) → IsFront image n → length (kept image) ≡ n
length-kept image n front = ap length (kept_from image n front) ∙ length-first_bodies image n

-- the definition by relation is that by the least number
pub kept_is : (image : List ℕ) → IsKept image (kept image)
unfolding kept
kept_is image =
    let size : length (kept image) ≡ kept_count image = length-first_bodies image (kept_count image) in
    record {
      each = λ n lt. (front_of image).below n (omega (arith, size));
      same = ap (first_bodies image) (sym size);
      next = subst (λ (n : ℕ). is_open image n ≡ false) (sym size) (front_of image).at;
    }

pub only_kept : (image : List ℕ) (bodies : List (List ℕ)) → IsKept image bodies → bodies ≡ kept image
only_kept image bodies is = is.same ∙ sym (kept_from image (length bodies) (record { below = is.each; at = is.next }))

-- a whole slot that is not open has a closed gate
pub closed_here : (image : List ℕ) (n : ℕ) → 144 * n + 144 ≤ length image → is_open image n ≡ false → has_closed_gate_at image n ≡ true
closed_here image n whole shut =
    and_from _ _ (lt-ltb _ _ (omega arith)) (ap not (ne_eqb _ _ (λ a5. both (opens image n whole a5) shut)))

-- the kept bodies by number
nth_body : (image : List ℕ) (n count : ℕ) → n < count → slice_get (first_bodies image count) n ≡ Some (body_of image n)
nth_body image n zero lt = absurd (omega arith)
nth_body image n (suc count) lt = elim (cases_lt n count) [
  | inl below ↦
      let size = length-first_bodies image count in
      let here = slice_get-get_or (first_bodies image (suc count)) n [] (omega (arith, length-first_bodies image (suc count))) in
      let there = get_or_append_left (first_bodies image count) (body_of image count ∷ []) [] n (omega (arith, size)) in
      here ∙ ap Some (there ∙ get_or_from_slice_get (first_bodies image count) n (body_of image n) [] (nth_body image n count below))
  | inr last ↦
      let same : count ≡ n = omega arith in
      let here = slice_get-get_or (first_bodies image (suc count)) n [] (omega (arith, length-first_bodies image (suc count))) in
      here ∙ ap Some (get_or_push (first_bodies image count) (body_of image count) [] n (length-first_bodies image count ∙ same)
      ∙ ap (body_of image) same)
]

pub kept_at : (image : List ℕ) (n : ℕ) → n < kept_count image → slice_get (kept image) n ≡ Some (body_of image n)
unfolding kept
kept_at image n lt = nth_body image n (kept_count image) lt

-- what a read of a slot leaves behind the gate
pub body_read : (image : List ℕ) (n : ℕ) → drop 1 (take 144 (drop (144 * n) image)) ≡ body_of image n
body_read image n = drop-take 1 143 (drop (144 * n) image) ∙ ap (λ (l : List ℕ). take 143 l) (drop-drop 1 (144 * n) image)
