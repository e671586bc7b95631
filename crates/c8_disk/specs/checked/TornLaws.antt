-- Checked, not believed: what a write leaves, whole or torn.
use Rattle.std.proofs.Common.{◌≡◌, ◌≤◌, ℕ, ◌+◌, ◌-◌, max, List, ◌++◌, length, take, drop, refl, sym, ◌∙◌, ap, arith, append_assoc}
use Rattle.std.proofs.Common.{length-append, length-take-le, length-drop}
use Rattle.std.proofs.lemmas.List.{take_at, drop_at, drop-drop}
use Rattle.c8_disk.specs.Disk.{overwritten, Torn, IsOverwritten}

module _ (old : List ℕ) (at : ℕ) (bytes : List ℕ) (within : at ≤ length old) where
  front : length (take at old) ≡ at
  front = length-take-le at old within

  pub overwritten_front : take at (overwritten old at bytes) ≡ take at old
  overwritten_front =
      let parts : take at (overwritten old at bytes) ≡ take at (take at old ++ (bytes ++ drop (at + length bytes) old)) =
      ap (λ (l : List ℕ). take at l) (append_assoc (take at old) bytes (drop (at + length bytes) old)) in
      parts ∙ take_at (take at old) (bytes ++ drop (at + length bytes) old) at front

  pub overwritten_rest : drop at (overwritten old at bytes) ≡ bytes ++ drop (at + length bytes) old
  overwritten_rest =
      let parts : drop at (overwritten old at bytes) ≡ drop at (take at old ++ (bytes ++ drop (at + length bytes) old)) =
      ap (λ (l : List ℕ). drop at l) (append_assoc (take at old) bytes (drop (at + length bytes) old)) in
      parts ∙ drop_at (take at old) (bytes ++ drop (at + length bytes) old) at front

  pub overwritten_back : drop (at + length bytes) (overwritten old at bytes) ≡ drop (at + length bytes) old
  overwritten_back = drop_at (take at old ++ bytes) (drop (at + length bytes) old) (at + length bytes)
      (omega (arith, length-append (take at old) bytes, front))

  pub length-overwritten : length (overwritten old at bytes) ≡ max (length old) (at + length bytes)
  length-overwritten =
      omega (
        arith,
        length-append (take at old ++ bytes) (drop (at + length bytes) old),
        length-append (take at old) bytes,
        front,
        length-drop (at + length bytes) old,
      )

  -- a whole write counts as a torn one
  pub overwritten_is_torn : Torn at (length bytes) old (overwritten old at bytes)
  overwritten_is_torn = record {
    before = overwritten_front;
    after = overwritten_back;
    no_shorter = omega (arith, length-overwritten);
    no_longer = omega (arith, length-overwritten);
  }

  pub overwritten_is : IsOverwritten at bytes old (overwritten old at bytes)
  overwritten_is = record { before = overwritten_front; here = overwritten_rest; size = length-overwritten; torn = overwritten_is_torn }

-- and so does no write
pub untouched : (at count : ℕ) (bytes : List ℕ) → Torn at count bytes bytes
untouched at count bytes = record { before = refl; after = refl; no_shorter = omega arith; no_longer = omega arith }

-- a wider write can do the same
pub torn_wider : (at less more : ℕ) (old new : List ℕ) → less ≤ more → Torn at less old new → Torn at more old new
torn_wider at less more old new le torn =
    let steps : drop (at + more) new ≡ drop (at + more) old = further torn.after in
    record { before = torn.before; after = steps; no_shorter = torn.no_shorter; no_longer = omega (arith, torn.no_longer) }
  where
    reach : at + less + (more - less) ≡ at + more
    reach = omega arith

    further : drop (at + less) new ≡ drop (at + less) old → drop (at + more) new ≡ drop (at + more) old
    further same =
        ap (λ (n : ℕ). drop n new) (sym reach) ∙ sym (drop-drop (more - less) (at + less) new) ∙ ap (λ (l : List ℕ). drop (more - less) l) same
        ∙ drop-drop (more - less) (at + less) old ∙ ap (λ (n : ℕ). drop n old) reach
