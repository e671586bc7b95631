-- What is kept of an image after a write, whole or torn.
use Rattle.std.proofs.Common.{◌≡◌, ◌≢◌, ◌⊎◌, inl, inr, ◌<◌, ◌≤◌, ℕ, zero, suc, ◌+◌, ◌*◌, true, false, List, [], ◌∷◌, ◌++◌, length, take}
use Rattle.std.proofs.Common.{drop, get_or, slice_index, refl, sym, ◌∙◌, ap, subst, arith, length-take}
use Rattle.std.proofs.lemmas.Bool.{cases_eq, cases_lt}
use Rattle.std.proofs.lemmas.List.{get_or-take, get_or-drop, drop-take, take-take}
use Rattle.c8_disk.specs.Disk.{Torn}
use Rattle.c8_log.specs.Slots.{is_open, body_of, first_bodies, kept, kept_count}
use Rattle.c8_log.specs.Log.{has_closed_gate}
use Rattle.c8_log.proofs.Kept.{IsFront, whole, gate, opens, shut_by_gate, shut_by_end, kept_from, both, closed_here, front_of}

-- two images that begin alike have the same slots there
module _ (old new : List ℕ) (size : ℕ) (same : take size new ≡ take size old) where
  byte : (at : ℕ) → at < size → slice_index new at ≡ slice_index old at
  byte at lt = sym (get_or-take size new at 0 lt) ∙ ap (λ (l : List ℕ). get_or l at 0) same ∙ get_or-take size old at 0 lt

  front : (at : ℕ) → at ≤ size → take at new ≡ take at old
  front at le = sym (take-take at size new le) ∙ ap (λ (l : List ℕ). take at l) same ∙ take-take at size old le

  open_too : (n : ℕ) → 144 * n + 144 ≤ size → is_open old n ≡ true → is_open new n ≡ true
  open_too n le is =
      opens new n (omega (arith, ap length same, length-take size new, length-take size old, whole old n is))
      (byte (144 * n) (omega arith) ∙ gate old n is)

  same_body : (n : ℕ) → 144 * n + 144 ≤ size → body_of new n ≡ body_of old n
  same_body n le =
      sym (drop-take (144 * n + 1) 143 new) ∙ ap (λ (l : List ℕ). drop (144 * n + 1) l) (front (144 * n + 1 + 143) (omega arith))
      ∙ drop-take (144 * n + 1) 143 old

  pub open_below : (n : ℕ) → 144 * n ≤ size → ((m : ℕ) → m < n → is_open old m ≡ true) → (m : ℕ) → m < n → is_open new m ≡ true
  open_below n le below m lt = open_too m (omega arith) (below m lt)

  pub same_bodies : (n : ℕ) → 144 * n ≤ size → first_bodies new n ≡ first_bodies old n
  same_bodies zero le = refl
  same_bodies (suc n) le =
      ap (λ (l : List (List ℕ)). l ++ body_of new n ∷ []) (same_bodies n (omega arith))
      ∙ ap (λ (l : List ℕ). first_bodies old n ++ l ∷ []) (same_body n (omega arith))

-- an image that keeps one body more
pub record HasOneMore (old : List ℕ) (n : ℕ) (body : List ℕ) (new : List ℕ) : Type 0 where
  pub front : IsFront new (suc n)
  pub bodies : kept new ≡ kept old ++ body ∷ []
  pub shut : slice_index new (144 * suc n) ≢ 0xa5

-- an image with n open slots
module _ (old : List ℕ) (n : ℕ) (is : IsFront old n) where
  -- behind a gate that stands closed, anything may stand
  pub behind_the_gate : (new : List ℕ) → slice_index old (144 * n) ≢ 0xa5 → take (144 * n + 1) new ≡ take (144 * n + 1) old → kept new ≡ kept old
  behind_the_gate new shut same =
      let closed : slice_index new (144 * n) ≢ 0xa5 =
      subst (λ (b : ℕ). b ≢ 0xa5) (sym (byte old new (144 * n + 1) same (144 * n) (omega arith))) shut in
      let now : IsFront new n = record { below = open_below old new (144 * n + 1) same n (omega arith) is.below; at = shut_by_gate new n closed } in
      kept_from new n now ∙ same_bodies old new (144 * n + 1) same n (omega arith) ∙ sym (kept_from old n is)

  -- a slot that is not whole may have any gate
  pub at_the_end : (new : List ℕ) → length old < 144 * n + 144 → Torn (144 * n) 1 old new → kept new ≡ kept old
  at_the_end new short torn =
      let now : IsFront new n = record {
        below = open_below old new (144 * n) torn.before n (omega arith) is.below;
        at = shut_by_end new n (omega (arith, torn.no_longer));
      } in
      kept_from new n now ∙ same_bodies old new (144 * n) torn.before n (omega arith) ∙ sym (kept_from old n is)

  -- a body and a closed gate stand behind the open slots, and now the gate before the body is written
  module _ (body : List ℕ) (written : List ℕ) (same : take (144 * n) written ≡ take (144 * n) old) (there : body_of written n ≡ body)
      (long : 144 * n + 144 < length written) (next : slice_index written (144 * n + 144) ≢ 0xa5) where
    -- it is open: the body counts, and a closed gate stands behind it
    pub with_it : (new : List ℕ) → Torn (144 * n) 1 written new → slice_index new (144 * n) ≡ 0xa5 → HasOneMore old n body new
    with_it new torn is_a5 =
        let begins : take (144 * n) new ≡ take (144 * n) old = torn.before ∙ same in
        let last : slice_index new (144 * n + 1 + 143) ≡ slice_index written (144 * n + 1 + 143) =
        sym (get_or-drop (144 * n + 1) new 143 0) ∙ ap (λ (l : List ℕ). get_or l 143 0) torn.after ∙ get_or-drop (144 * n + 1) written 143 0 in
        let at_last : 144 * n + 144 ≡ 144 * n + 1 + 143 = omega arith in
        let at_next : 144 * n + 1 + 143 ≡ 144 * suc n = omega arith in
        let shut : slice_index new (144 * suc n) ≢ 0xa5 =
        λ opened. next (ap (λ (at : ℕ). slice_index written at) at_last ∙ sym last ∙ ap (λ (at : ℕ). slice_index new at) at_next ∙ opened) in
        let here : is_open new n ≡ true = opens new n (omega (arith, torn.no_shorter)) is_a5 in
        let now : IsFront new (suc n) = record {
          below = λ m lt. elim (cases_eq m n) [
            | inl at_n ↦ subst (λ (k : ℕ). is_open new k ≡ true) (sym at_n) here
            | inr below ↦ open_below old new (144 * n) begins n (omega arith) is.below m (omega arith)
          ];
          at = shut_by_gate new (suc n) shut;
        } in
        let added : body_of new n ≡ body = ap (λ (l : List ℕ). take 143 l) torn.after ∙ there in
        record {
          front = now;
          bodies = kept_from new (suc n) now
              ∙ ap (λ (l : List (List ℕ)). l ++ body_of new n ∷ []) (same_bodies old new (144 * n) begins n (omega arith) ∙ sym (kept_from old n is))
              ∙ ap (λ (l : List ℕ). kept old ++ l ∷ []) added;
          shut = shut;
        }

    -- whatever it is
    pub with_or_without : (new : List ℕ) → Torn (144 * n) 1 written new → (kept new ≡ kept old) ⊎ (kept new ≡ kept old ++ body ∷ [])
    with_or_without new torn = elim (cases_eq (slice_index new (144 * n)) 0xa5) [
      | inl is_a5 ↦ inr (with_it new torn is_a5).bodies
      | inr shut ↦
          let begins : take (144 * n) new ≡ take (144 * n) old = torn.before ∙ same in
          let now : IsFront new n = record { below = open_below old new (144 * n) begins n (omega arith) is.below; at = shut_by_gate new n shut } in
          inl (kept_from new n now ∙ same_bodies old new (144 * n) begins n (omega arith) ∙ sym (kept_from old n is))
    ]

-- the end of the kept slots, where the gate is missing or open
pub short_end : (image : List ℕ) → has_closed_gate image ≡ false → length image < 144 * kept_count image + 144
short_end image open_or_missing = elim (cases_lt (length image) (144 * kept_count image + 144)) [
  | inl short ↦ short
  | inr long ↦ absurd (both (closed_here image (kept_count image) long (front_of image).at) open_or_missing)
]

-- the repair of the gate, whole or torn, changes nothing of what is kept
pub repair_keeps : (old new : List ℕ) → has_closed_gate old ≡ false → Torn (144 * kept_count old) 1 old new → kept new ≡ kept old
repair_keeps old new open_or_missing torn = at_the_end old (kept_count old) (front_of old) new (short_end old open_or_missing) torn
