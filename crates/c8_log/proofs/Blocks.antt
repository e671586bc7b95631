-- What the blocks of an image tell of it, one after the other.
use Rattle.std.proofs.Common.{◌≡◌, inl, inr, ◌<◌, ◌≤◌, ℕ, ◌+◌, ◌-◌, ◌*◌, min, nat_le, nat_lt, ◌==◌, ◌&&◌, not, true, List, length, take}
use Rattle.std.proofs.Common.{drop, slice_index, sym, ◌∙◌, ap, subst, arith}
use Rattle.std.proofs.lemmas.Bool.{cases_lt, le-leb, lt-leb, lt-ltb, le-ltb}
use Rattle.std.proofs.lemmas.List.{length-take, length-drop, get_or-take, get_or-drop, take_all, take-take, drop-take, drop-drop}
use Rattle.c8_log.specs.Slots.{is_open, body_of, kept_count}
use Rattle.c8_log.specs.Log.{has_closed_gate, has_closed_gate_at}
use Rattle.c8_log.proofs.Kept.{front_of, front_unique, both}

-- the bytes of block k, which the end may cut short
abbrev pub block : List ℕ → ℕ → List ℕ
block image k = take 4608 (drop (4608 * k) image)

size : (image : List ℕ) (k : ℕ) → length (block image k) ≡ min 4608 (length image - 4608 * k)
size image k = length-take 4608 (drop (4608 * k) image) ∙ ap (min 4608) (length-drop (4608 * k) image)

place : (k i : ℕ) → 4608 * k + 144 * i ≡ 144 * (32 * k + i)
place k i = omega arith

module _ (image : List ℕ) (k i : ℕ) (here : i < 32) where
  same_gate : slice_index (block image k) (144 * i) ≡ slice_index image (144 * (32 * k + i))
  same_gate =
      get_or-take 4608 (drop (4608 * k) image) (144 * i) 0 (omega (arith, here)) ∙ get_or-drop (4608 * k) image (144 * i) 0
      ∙ ap (slice_index image) (place k i)

  -- a slot of the block is whole where it is whole in the image
  same_whole : nat_le (144 * i + 144) (length (block image k)) ≡ nat_le (144 * (32 * k + i) + 144) (length image)
  same_whole =
      let many = size image k in
      elim (cases_lt (length image) (144 * (32 * k + i) + 144)) [
        | inl short ↦ lt-leb _ _ (omega (arith, here, many, short)) ∙ sym (lt-leb _ _ short)
        | inr fits ↦ le-leb _ _ (omega (arith, here, many, fits)) ∙ sym (le-leb _ _ fits)
      ]

  -- and begins there
  same_there : nat_lt (144 * i) (length (block image k)) ≡ nat_lt (144 * (32 * k + i)) (length image)
  same_there =
      let many = size image k in
      elim (cases_lt (144 * (32 * k + i)) (length image)) [
        | inl there ↦ lt-ltb _ _ (omega (arith, here, many, there)) ∙ sym (lt-ltb _ _ there)
        | inr past ↦ le-ltb _ _ (omega (arith, here, many, past)) ∙ sym (le-ltb _ _ past)
      ]

  pub same_open : is_open (block image k) i ≡ is_open image (32 * k + i)
  same_open = λ j. same_whole j && (same_gate j == 0xa5)

  pub same_closed : has_closed_gate_at (block image k) i ≡ has_closed_gate_at image (32 * k + i)
  same_closed = λ j. same_there j && not (same_gate j == 0xa5)

-- all slots below one are open
abbrev pub AreOpen : List ℕ → ℕ → Type 0
AreOpen image n = (m : ℕ) → m < n → is_open image m ≡ true

-- The kept slots of a block that ends them.
module _ (image : List ℕ) (k : ℕ) (below : AreOpen image (32 * k)) (ends : kept_count (block image k) < 32) where
  pub count_there : 32 * k + kept_count (block image k) ≡ kept_count image
  count_there =
      let front = front_of (block image k) in
      front_unique image (32 * k + kept_count (block image k)) (kept_count image)
      (record {
        below = λ m lt. elim (cases_lt m (32 * k)) [
          | inl before ↦ below m before
          | inr past ↦
              let i : ℕ = m - 32 * k in
              let place : 32 * k + i ≡ m = omega (arith, past) in
              let here : i < 32 = omega (arith, lt, place, ends) in
              subst (λ (n : ℕ). is_open image n ≡ true) place (sym (same_open image k i here) ∙ front.below i (omega (arith, lt, place)))
        ];
        at = sym (same_open image k (kept_count (block image k)) ends) ∙ front.at;
      })
      (front_of image)

  pub closed_there : has_closed_gate (block image k) ≡ has_closed_gate image
  closed_there = same_closed image k (kept_count (block image k)) ends ∙ ap (has_closed_gate_at image) count_there

-- a block that ends none
pub all_open : (image : List ℕ) (k : ℕ) → AreOpen image (32 * k) → 32 ≤ kept_count (block image k) → AreOpen image (32 * (k + 1))
all_open image k below full = λ m lt. elim (cases_lt m (32 * k)) [
  | inl before ↦ below m before
  | inr past ↦
      let i : ℕ = m - 32 * k in
      let place : 32 * k + i ≡ m = omega (arith, past) in
      let here : i < 32 = omega (arith, lt, place) in
      subst (λ (n : ℕ). is_open image n ≡ true) place
      (sym (same_open image k i here) ∙ (front_of (block image k)).below i (omega (arith, here, full)))
]

-- the first open slots are all kept
pub few : (image : List ℕ) (n : ℕ) → AreOpen image n → n ≤ kept_count image
few image n below = elim (cases_lt (kept_count image) n) [
  | inl less ↦ absurd (both (below (kept_count image) less) (front_of image).at)
  | inr le ↦ le
]

-- what is read of a block at the end of an image
pub cut_block : (image : List ℕ) (at n : ℕ) → n ≡ min (length image - at) 4608 → take n (drop at image) ≡ take 4608 (drop at image)
cut_block image at n is =
    let long = length-drop at image in
    elim (cases_lt (length image - at) 4608) [
      | inl short ↦ take_all n (drop at image) (omega (arith, long, is, short)) ∙ sym (take_all 4608 (drop at image) (omega (arith, long, short)))
      | inr full ↦ let whole_read : n ≡ 4608 = omega (arith, is, full) in ap (λ (m : ℕ). take m (drop at image)) whole_read
    ]

-- the body of a slot that was read with others
pub body_there : (image : List ℕ) (n many i : ℕ) → i < many → body_of (take (144 * many) (drop (144 * n) image)) i ≡ body_of image (n + i)
body_there image n many i lt =
    let rest : ℕ = 144 * many - (144 * i + 1) in
    let size : 144 * many ≡ (144 * i + 1) + rest = omega (arith, lt) in
    let start : 144 * n + (144 * i + 1) ≡ 144 * (n + i) + 1 = omega arith in
    ap (λ (m : ℕ). take 143 (drop (144 * i + 1) (take m (drop (144 * n) image)))) size
    ∙ ap (λ (l : List ℕ). take 143 l) (drop-take (144 * i + 1) rest (drop (144 * n) image))
    ∙ take-take 143 rest (drop (144 * i + 1) (drop (144 * n) image)) (omega (arith, lt))
    ∙ ap (λ (l : List ℕ). take 143 l) (drop-drop (144 * i + 1) (144 * n) image)
    ∙ ap (λ (m : ℕ). take 143 (drop m image)) start
