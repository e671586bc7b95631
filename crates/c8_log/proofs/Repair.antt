-- What the repair of an image's end leaves.
use Rattle.std.proofs.Common.{◌≡◌, inl, inr, ◌<◌, ◌≤◌, ℕ, zero, suc, ◌+◌, ◌*◌, ◌^◌, not, true, false, List, [], ◌∷◌, length, get_or}
use Rattle.std.proofs.Common.{slice_index, refl, sym, ◌∙◌, ap, subst, arith}
use Rattle.std.proofs.lemmas.Bool.{cases_Bool, and_from, lt-ltb, ne_eqb, cond-true, cond-false}
use Rattle.std.proofs.lemmas.List.{get_or-drop}
use Rattle.c8_disk.specs.Disk.{overwritten, Only}
use Rattle.c8_disk.specs.declared.disk.Disk.{Ghosts}
use Rattle.c8_log.specs.Slots.{is_open, kept_count, kept}
use Rattle.c8_log.specs.Log.{LogValue, has_closed_gate, has_closed_gate_at, repaired, IsUp, IsAtRest}
use Rattle.c8_log.proofs.Writes.{WritesLaw}
use Rattle.c8_log.proofs.Kept.{front_of, whole, length-kept}
use Rattle.c8_log.proofs.Crash.{repair_keeps}

-- the kept slots are whole
pub kept_within : (image : List ℕ) → 144 * kept_count image ≤ length image
kept_within image = whole_below image (kept_count image) (front_of image).below
  where
    whole_below : (image : List ℕ) (n : ℕ) → ((m : ℕ) → m < n → is_open image m ≡ true) → 144 * n ≤ length image
    whole_below image zero below = omega arith
    whole_below image (suc n) below = omega (arith, whole image n (below n (omega arith)))

pub length_of_kept : (image : List ℕ) → length (kept image) ≡ kept_count image
length_of_kept image = length-kept image (kept_count image) (front_of image)

-- the new image keeps what the old one kept, and a closed gate stands behind it
pub record IsRepair (old new : List ℕ) : Type 0 where
  pub bodies : kept new ≡ kept old
  pub count : kept_count new ≡ kept_count old
  pub closed : has_closed_gate new ≡ true

module _ (law : WritesLaw) where
  closes : (image : List ℕ) → has_closed_gate image ≡ false → IsRepair image (overwritten image (144 * kept_count image) (0 ∷ []))
  closes image open_or_missing =
      let gate = 144 * kept_count image in
      let new = overwritten image gate (0 ∷ []) in
      let is = law image gate (0 ∷ []) (kept_within image) in
      let same : kept new ≡ kept image = repair_keeps image new open_or_missing is.torn in
      let counts : kept_count new ≡ kept_count image = sym (length_of_kept new) ∙ ap length same ∙ length_of_kept image in
      let there : gate < length new = omega (arith, is.size) in
      let at_gate : gate + 0 ≡ gate = omega arith in
      let zero_there : slice_index new gate ≡ 0 =
      ap (λ (at : ℕ). slice_index new at) (sym at_gate) ∙ sym (get_or-drop gate new 0 0) ∙ ap (λ (l : List ℕ). get_or l 0 0) is.here in
      let closed : has_closed_gate_at new (kept_count image) ≡ true =
      and_from _ _ (lt-ltb _ _ there) (ap not (ne_eqb _ _ (λ a5. let apart : 0 ≡ 0xa5 = sym zero_there ∙ a5 in absurd (omega arith)))) in
      record { bodies = same; count = counts; closed = ap (has_closed_gate_at new) counts ∙ closed }

  pub repairs : (image : List ℕ) → IsRepair image (repaired image)
  repairs image = elim (cases_Bool (has_closed_gate image)) [
    | inl closed ↦ subst (IsRepair image) (sym
        (cond-true (has_closed_gate image) image (overwritten image (144 * kept_count image) (0 ∷ [])) closed))
        (record { bodies = refl; count = refl; closed = closed })
    | inr open_or_missing ↦ subst (IsRepair image)
        (sym (cond-false (has_closed_gate image) image (overwritten image (144 * kept_count image) (0 ∷ [])) open_or_missing))
        (closes image open_or_missing)
  ]

  -- what was repaired is up
  pub up_from_repair : {D : Type 0} (g : Ghosts D) (disk : D) (count : ℕ) (image : List ℕ) → g.seen disk ≡ repaired image
      → count ≡ kept_count image → Only (g.seen disk) (g.may_leave disk) → 144 * count < 2 ^ 32 → IsUp g disk count
  up_from_repair g disk count image is counts only fits = record {
    count_is = counts ∙ sym (repairs image).count ∙ sym (ap kept_count is);
    closed = ap has_closed_gate is ∙ (repairs image).closed;
    durable = only;
    fits = omega (arith, fits);
  }

pub rests : {D : Type 0} (g : Ghosts D) (log : LogValue D) → IsUp g log.disk log.count → IsAtRest g log
rests g log up = record { count = up.count_is ∙ sym (length_of_kept (g.seen log.disk)); durable = λ image left. ap kept (up.durable image left) }

-- and stays so while it is only read
pub still_up : {D : Type 0} (g : Ghosts D) (old new : D) (count : ℕ) → IsUp g old count → g.seen new ≡ g.seen old
    → ((image : List ℕ) → g.may_leave new image → g.may_leave old image) → IsUp g new count
still_up g old new count up same none = record {
  count_is = up.count_is ∙ sym (ap kept_count same);
  closed = ap has_closed_gate same ∙ up.closed;
  durable = λ image left. up.durable image (none image left) ∙ sym same;
  fits = up.fits;
}
