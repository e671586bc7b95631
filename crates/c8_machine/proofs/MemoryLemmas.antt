-- The memory before the first frame, by what was written where.
use Rattle.std.proofs.Common.{◌≡◌, ℕ, ◌+◌, ◌-◌, ◌%◌, ◌<◌, ◌≤◌, List, map, take, length, get_or, false, cond, ◌&&◌, nat_eq, nat_le, nat_lt}
use Rattle.std.proofs.Common.{ap, replicate, sym, ◌∙◌, inl, inr, arith}
use Rattle.std.proofs.Math.Path.{fun_ext}
use Rattle.std.proofs.lemmas.Bool.{cases_lt, cases_Bool, and_parts, leb-true, ltb-true, cond-true, cond-false, le-leb, lt-leb}
use Rattle.std.proofs.lemmas.List.{get_or-replicate, get_or_past, length-replicate, length-take-le, get_or-take}
use Rattle.std.proofs.lemmas.List.FromFn.{length-map-range_with_len, get_or-map-range_with_len}
use Rattle.std.specs.Int.{bit_at}
use Rattle.std.specs.List.{range_with_len}
use Rattle.c8_screen.specs.Points.{sprite}
use Rattle.c8_machine.specs.State.{first_memory, digit_patterns}

zeros : (n k : ℕ) → get_or {A = ℕ} (replicate n 0) k 0 ≡ 0
zeros n k = elim (cases_lt k n) [
  | inl within ↦ get_or-replicate n k 0 0 within
  | inr past ↦ get_or_past {X = ℕ} (replicate n 0) k 0 (simp length-replicate past)
]

-- the bytes were written from an address on, and nothing else changed
pub record Places (from : ℕ) (bytes old new : List ℕ) : Type 0 where
  pub placed : (k : ℕ) → k < length bytes → get_or new (from + k) 0 ≡ get_or bytes k 0
  pub before : (k : ℕ) → k < from → get_or new k 0 ≡ get_or old k 0
  pub after : (k : ℕ) → from + length bytes ≤ k → get_or new k 0 ≡ get_or old k 0

module _ (program patterned full : List ℕ) (patterns : Places 0x50 digit_patterns (replicate 4096 0) patterned)
    (code : Places 0x200 program patterned full) where
  at_program : (k : ℕ) → 0x200 ≤ k → get_or full k 0 ≡ get_or program (k - 0x200) 0
  at_program k past =
      let back : 0x200 + (k - 0x200) ≡ k = omega arith in
      elim (cases_lt (k - 0x200) (length program)) [
        | inl within ↦ rw back at (code.placed (k - 0x200) within)
        | inr beyond ↦ code.after k (omega arith) ∙ patterns.after k (omega arith) ∙ zeros 4096 k ∙ sym (get_or_past program (k - 0x200) 0 beyond)
      ]

  at_patterns : (k : ℕ) → 0x50 ≤ k → k < 0x200 → get_or full k 0 ≡ get_or digit_patterns (k - 0x50) 0
  at_patterns k past low =
      let back : 0x50 + (k - 0x50) ≡ k = omega arith in
      code.before k low ∙ elim (cases_lt (k - 0x50) 80) [
        | inl within ↦ rw back at (patterns.placed (k - 0x50) within)
        | inr beyond ↦ patterns.after k (omega arith) ∙ zeros 4096 k ∙ sym (get_or_past digit_patterns (k - 0x50) 0 beyond)
      ]

  pub first_memory_is : (λ k. get_or full k 0) ≡ first_memory program
  first_memory_is = fun_ext (λ k. elim (cases_lt k 0x200) [
    | inr past ↦ at_program k past ∙ sym (cond-true _ _ _ (le-leb 0x200 k past))
    | inl low ↦ sym (cond-false _ _ _ (lt-leb 0x200 k low) ∙ elim (cases_lt k 0x50) [
      | inr past ↦ cond-true _ _ _ (le-leb 0x50 k past) ∙ sym (at_patterns k past low)
      | inl lowest ↦ cond-false _ _ _ (lt-leb 0x50 k lowest) ∙ sym (code.before k low ∙ patterns.before k lowest ∙ zeros 4096 k)
    ])
  ])

-- ---- bytes stored from an address on, with address 0 after the last

-- the first k bytes are stored
pub record IsStored (bytes old new : List ℕ) (from k : ℕ) : Type 0 where
  pub size : length new ≡ 0x1000
  pub there : (at : ℕ) → at < 0x1000 → (at + 0x1000 - from) % 0x1000 < k → get_or new at 0 ≡ get_or bytes ((at + 0x1000 - from) % 0x1000) 0
  pub others : (at : ℕ) → at < 0x1000 → k ≤ (at + 0x1000 - from) % 0x1000 → get_or new at 0 ≡ get_or old at 0

-- ---- bytes drawn

sprites_agree : (n : ℕ) (f g : ℕ → ℕ) (left top : ℕ) → ((k : ℕ) → k < n → f k ≡ g k) → sprite n f left top ≡ sprite n g left top
sprites_agree n f g left top same = fun_ext (λ x. fun_ext (λ y.
    elim (cases_Bool ((nat_le left x && nat_lt x (left + 8)) && (nat_le top y && nat_lt y (top + n)))) [
      | inl within ↦
          let tests = and_parts (nat_le left x && nat_lt x (left + 8)) (nat_le top y && nat_lt y (top + n)) within in
          let rows = and_parts (nat_le top y) (nat_lt y (top + n)) tests.1 in
          let low : top ≤ y = leb-true top y rows.0 in
          let high : y < top + n = ltb-true y (top + n) rows.1 in
          ap (λ byte. cond ((nat_le left x && nat_lt x (left + 8)) && (nat_le top y && nat_lt y (top + n)))
          (nat_eq (bit_at byte (7 - (x - left))) 1) false) (same (y - top) (omega arith))
      | inr outside ↦ cond-false _ _ _ outside ∙ sym (cond-false _ _ _ outside)
    ]))

-- drawing the first n loaded bytes is drawing those in memory
pub sprite_loaded : (f : ℕ → ℕ) (bytes : List ℕ) (m n left top : ℕ) → m ≡ n → n < 16 → bytes ≡ map f (range_with_len 0 15)
    → sprite (length (take m bytes)) (λ k. get_or (take m bytes) k 0) left top ≡ sprite n f left top
sprite_loaded f bytes m n left top same few loaded =
    let size : length bytes ≡ 15 = ap length loaded ∙ length-map-range_with_len f 0 15 in
    let drawn : length (take m bytes) ≡ n = length-take-le m bytes (omega (arith, size)) ∙ same in
    rw drawn (sprites_agree n (λ k. get_or (take m bytes) k 0) f left top
    (λ k h. get_or-take m bytes k 0 (omega arith) ∙ ap (λ (xs : List ℕ). get_or xs k 0) loaded
    ∙ get_or-map-range_with_len f 0 15 k k 0 (omega arith) (omega arith)))
