-- What the two writes of an append leave, whole or torn.
use Rattle.std.proofs.Common.{◌≡◌, ◌≢◌, inl, ⊎_elim, ◌<◌, ◌≤◌, ℕ, suc, ◌+◌, ◌*◌, ◌^◌, nat_lt, not, ◌==◌, true, List, [], ◌∷◌, ◌++◌, length}
use Rattle.std.proofs.Common.{take, drop, get_or, slice_index, sym, ◌∙◌, ap, subst, arith, append_assoc, length-append}
use Rattle.std.proofs.lemmas.Bool.{and_from, and_parts, lt-ltb, ltb-true, ne_eqb, eq-eqb, true≢false}
use Rattle.std.proofs.lemmas.List.{get_or-drop, get_or_at, take_at, take-take}
use Rattle.c8_disk.specs.Disk.{overwritten, Torn, Only}
use Rattle.c8_disk.specs.declared.disk.Disk.{Ghosts}
use Rattle.c8_log.specs.Slots.{body_of, kept_count, kept}
use Rattle.c8_log.specs.Log.{has_closed_gate, has_closed_gate_at, IsUp, KeepsWithOrWithout}
use Rattle.c8_log.specs.checked.Written.{IsBeforeOrTorn}
use Rattle.c8_log.proofs.Writes.{WritesLaw}
use Rattle.c8_log.proofs.Kept.{IsFront, front_of, front_unique}
use Rattle.c8_log.proofs.Crash.{HasOneMore, behind_the_gate, with_it, with_or_without}

-- a gate that is there and closed
pub gate_there : (image : List ℕ) (n : ℕ) → has_closed_gate_at image n ≡ true → 144 * n < length image
gate_there image n closed = ltb-true _ _ (and_parts (nat_lt (144 * n) (length image)) (not (slice_index image (144 * n) == 0xa5)) closed).0

pub gate_shut : (image : List ℕ) (n : ℕ) → has_closed_gate_at image n ≡ true → slice_index image (144 * n) ≢ 0xa5
gate_shut image n closed is_a5 =
    let shut = (and_parts (nat_lt (144 * n) (length image)) (not (slice_index image (144 * n) == 0xa5)) closed).1 in
    true≢false (sym shut ∙ ap not (eq-eqb _ _ is_a5))

closed_there : (image : List ℕ) (n : ℕ) → 144 * n < length image → slice_index image (144 * n) ≢ 0xa5 → has_closed_gate_at image n ≡ true
closed_there image n there shut = and_from _ _ (lt-ltb _ _ there) (ap not (ne_eqb _ _ shut))

-- the byte that a write of one byte puts
overwritten_byte : WritesLaw → (old : List ℕ) (at byte : ℕ) → at ≤ length old → slice_index (overwritten old at (byte ∷ [])) at ≡ byte
overwritten_byte law old at byte within =
    let new = overwritten old at (byte ∷ []) in
    let here : at ≡ at + 0 = omega arith in
    ap (λ (i : ℕ). slice_index new i) here ∙ sym (get_or-drop at new 0 0) ∙ ap (λ (l : List ℕ). get_or l 0 0) (law old at (byte ∷ []) within).here

-- a write, and one of the byte before it, are one write
pub two_writes : WritesLaw → (old : List ℕ) (at byte : ℕ) (bytes : List ℕ) → at + 1 ≤ length old
    → overwritten (overwritten old (at + 1) bytes) at (byte ∷ []) ≡ overwritten old at (byte ∷ bytes)
two_writes law old at byte bytes within =
    let first = overwritten old (at + 1) bytes in
    let after = drop (at + 1 + length bytes) old in
    let order : at ≤ at + 1 = omega arith in
    let front : take at first ≡ take at old =
    sym (take-take at (at + 1) first order) ∙ ap (λ (l : List ℕ). take at l) (law old (at + 1) bytes within).before
    ∙ take-take at (at + 1) old order in
    let ends : at + 1 + length bytes ≡ at + length (byte ∷ bytes) = omega arith in
    ap (λ (l : List ℕ). (l ++ byte ∷ []) ++ drop (at + 1) first) front
    ∙ ap (λ (l : List ℕ). (take at old ++ byte ∷ []) ++ l) (law old (at + 1) bytes within).here
    ∙ append_assoc (take at old) (byte ∷ []) (bytes ++ after)
    ∙ sym (append_assoc (take at old) (byte ∷ bytes) after)
    ∙ ap (λ (k : ℕ). (take at old ++ (byte ∷ bytes)) ++ drop k old) ends

-- a body and a closed gate stand behind the closed gate of the kept slots
pub record IsStaged (old : List ℕ) (n : ℕ) (body written : List ℕ) : Type 0 where
  pub same : take (144 * n) written ≡ take (144 * n) old
  pub there : body_of written n ≡ body
  pub long : 144 * n + 144 < length written
  pub next : slice_index written (144 * n + 144) ≢ 0xa5

pub staged : WritesLaw → (old : List ℕ) (n : ℕ) (body : List ℕ) → length body ≡ 143 → 144 * n + 1 ≤ length old
    → IsStaged old n body (overwritten old (144 * n + 1) (body ++ 0 ∷ []))
staged law old n body size within =
    let at = 144 * n + 1 in
    let slot = body ++ 0 ∷ [] in
    let written = overwritten old at slot in
    let after = drop (at + length slot) old in
    let rest : drop at written ≡ body ++ (0 ∷ after) = (law old at slot within).here ∙ append_assoc body (0 ∷ []) after in
    let order : 144 * n ≤ at = omega arith in
    let at_next : 144 * n + 144 ≡ at + 143 = omega arith in
    let zero_next : slice_index written (144 * n + 144) ≡ 0 =
    ap (λ (i : ℕ). slice_index written i) at_next ∙ sym (get_or-drop at written 143 0) ∙ ap (λ (l : List ℕ). get_or l 143 0) rest
    ∙ get_or_at body 0 after 0 143 size in
    record {
      same = sym (take-take (144 * n) at written order) ∙ ap (λ (l : List ℕ). take (144 * n) l) (law old at slot within).before
          ∙ take-take (144 * n) at old order;
      there = ap (λ (l : List ℕ). take 143 l) rest ∙ take_at body (0 ∷ after) 143 size;
      long = omega (arith, (law old at slot within).size, length-append body (0 ∷ []), size);
      next = λ a5. let apart : 0 ≡ 0xa5 = sym zero_next ∙ a5 in absurd (omega arith);
    }

module _ (law : WritesLaw) (none : (old : List ℕ) (at count : ℕ) → Torn at count old old) (images : List ℕ → Type 0) (old : List ℕ) (n : ℕ)
    (body : List ℕ) (counts : n ≡ kept_count old) (closed : has_closed_gate old ≡ true) (only : Only old images) where
  front : IsFront old n
  front = subst (IsFront old) (sym counts) (front_of old)

  closed_at : has_closed_gate_at old n ≡ true
  closed_at = ap (has_closed_gate_at old) counts ∙ closed

  -- the first write leaves the bodies as they were
  pub first_keeps : (count : ℕ) (new : List ℕ) → IsBeforeOrTorn (144 * n + 1) count images new → KeepsWithOrWithout (kept old) body new
  first_keeps count new = ⊎_elim (λ left. inl (ap kept (only new left))) (λ torn.
      let here = subst (λ (l : List ℕ). Torn (144 * n + 1) count l new) (only torn.0 torn.1) torn.2 in
      inl (behind_the_gate old n front new (gate_shut old n closed_at) here.before))

  module _ (written : List ℕ) (is : IsStaged old n body written) where
    -- the second leaves them with the new one or without
    pub second_keeps : (later : List ℕ → Type 0) → Only written later → (new : List ℕ) → IsBeforeOrTorn (144 * n) 1 later new
        → KeepsWithOrWithout (kept old) body new
    second_keeps later only_written new = ⊎_elim (λ left.
        let same = only_written new left in
        subst (KeepsWithOrWithout (kept old) body) (sym same)
        (with_or_without old n front body written is.same is.there is.long is.next written (none written (144 * n) 1))) (λ torn.
        let here = subst (λ (l : List ℕ). Torn (144 * n) 1 l new) (only_written torn.0 torn.1) torn.2 in
        with_or_without old n front body written is.same is.there is.long is.next new here)

    -- and then the log has the new one
    pub one_more : HasOneMore old n body (overwritten written (144 * n) (0xa5 ∷ []))
    one_more =
        let within : 144 * n ≤ length written = omega (arith, is.long) in
        with_it old n front body written is.same is.there is.long is.next (overwritten written (144 * n) (0xa5 ∷ []))
        (law written (144 * n) (0xa5 ∷ []) within).torn (overwritten_byte law written (144 * n) 0xa5 within)

    pub up_with_it : {D : Type 0} (g : Ghosts D) (disk : D) → g.seen disk ≡ overwritten written (144 * n) (0xa5 ∷ [])
        → Only (g.seen disk) (g.may_leave disk) → 144 * (n + 1) + 1 < 2 ^ 32
        → IsUp g disk (n + 1) × (kept (g.seen disk) ≡ kept old ++ body ∷ [])
    up_with_it g disk holds only_now fits =
        let new = overwritten written (144 * n) (0xa5 ∷ []) in
        let within : 144 * n ≤ length written = omega (arith, is.long) in
        let next_is : suc n ≡ n + 1 = omega arith in
        let counts_now : n + 1 ≡ kept_count new = sym next_is ∙ front_unique new (suc n) (kept_count new) one_more.front (front_of new) in
        let there : 144 * suc n < length new = omega (arith, (law written (144 * n) (0xa5 ∷ []) within).size, is.long) in
        let shut : has_closed_gate new ≡ true = ap (has_closed_gate_at new) (sym counts_now ∙ sym next_is)
        ∙ closed_there new (suc n) there one_more.shut in (
          record { count_is = counts_now ∙ sym (ap kept_count holds); closed = ap has_closed_gate holds ∙ shut; durable = only_now; fits = fits },
          ap kept holds ∙ one_more.bodies,
        )
