-- What becomes of the marks of a window when a counter is taken.
use Rattle.std.proofs.Common.{◌≡◌, ◌≢◌, ◌+◌, ◌<◌, ◌≤◌, ◌%◌, inl, inr, ℕ, Bool, true, false, List, [], ◌∷◌, ◌++◌, length, slice_index_or}
use Rattle.std.proofs.Common.{slice_set, replicate, sym, ap, ◌∙◌, subst, refl, arith}
use Rattle.std.proofs.lemmas.Bool.{cases_lt}
use Rattle.std.proofs.lemmas.List.{get_or-set_same, get_or-set_other, get_or-replicate}
use Rattle.std.proofs.lemmas.List.Elements.{Contains-append_left, Contains-push, Contains-push_cases}
use Rattle.std.proofs.Math.Nat.{eq-or-lt_of_le}
use Rattle.std.specs.List.{Contains}
use Rattle.c8_transport.specs.Counters.{IsNew}
use Rattle.c8_transport.specs.SeenBits.{mark_of, AreMarked}

-- counters within a window have places of their own
other_place : (a b : ℕ) → a < b → b < a + 1024 → a % 1024 ≢ b % 1024
other_place a b less near same = omega arith

pub other_place_back : (a b : ℕ) → a < b → b < a + 1024 → b % 1024 ≢ a % 1024
other_place_back a b less near same = omega arith

-- the marks with that of one more counter
module _ (marks : List Bool) (counter : ℕ) (size : length marks ≡ 1024) where
  marked_itself : mark_of (slice_set marks (counter % 1024) true) counter ≡ true
  marked_itself = get_or-set_same marks (counter % 1024) true false (omega (arith, size))

  marked_other : (c : ℕ) → c % 1024 ≢ counter % 1024 → mark_of (slice_set marks (counter % 1024) true) c ≡ mark_of marks c
  marked_other c other = get_or-set_other marks (counter % 1024) (c % 1024) true false other

not_false : (b : Bool) → b ≡ true → b ≡ false → ⊥
not_false b is_true is_false = let both : true ≡ false = sym is_true ∙ is_false in (cc)

-- the mark at the place of a counter
pub mark_at : (marks : List Bool) (counter place : ℕ) (b : Bool) → place ≡ counter % 1024 → slice_index_or marks place false ≡ b
    → mark_of marks counter ≡ b
mark_at marks counter place b is read = ap (λ (i : ℕ). slice_index_or marks i false) (sym is) ∙ read

-- what another counter's mark says stays
module _ (taken : List ℕ) (counter c : ℕ) (marks : List Bool) (size : length marks ≡ 1024) where
  pub stays : c ≢ counter → c % 1024 ≢ counter % 1024 → ((mark_of marks c ≡ true → Contains taken c) × (Contains taken c → mark_of marks c ≡ true))
      → (mark_of (slice_set marks (counter % 1024) true) c ≡ true → Contains (taken ++ counter ∷ []) c)
      × (Contains (taken ++ counter ∷ []) c → mark_of (slice_set marks (counter % 1024) true) c ≡ true)
  stays other place says = (
    λ set. Contains-append_left taken (counter ∷ []) c (says.0 (sym (marked_other marks counter size c place) ∙ set)),
    λ has. elim (Contains-push_cases taken counter c has)
        [ inl old ↦ marked_other marks counter size c place ∙ says.1 old | inr same ↦ absurd (other (sym same)) ],
  )

  pub itself : c ≡ counter → (mark_of (slice_set marks (counter % 1024) true) c ≡ true → Contains (taken ++ counter ∷ []) c)
      × (Contains (taken ++ counter ∷ []) c → mark_of (slice_set marks (counter % 1024) true) c ≡ true)
  itself same =
      let P : ℕ → Type 0 = λ (x : ℕ). (mark_of (slice_set marks (counter % 1024) true) x ≡ true → Contains (taken ++ counter ∷ []) x)
      × (Contains (taken ++ counter ∷ []) x → mark_of (slice_set marks (counter % 1024) true) x ≡ true) in
      subst P (sym same) (λ set. Contains-push taken counter, λ has. marked_itself marks counter size)

-- ---- a counter within the window that was not taken

module _ (greatest counter : ℕ) (marks : List Bool) (taken : List ℕ) (seen : AreMarked greatest marks taken) (below : counter ≤ greatest)
    (near : greatest < counter + 1024) where
  pub is_new : mark_of marks counter ≡ false → IsNew taken counter
  is_new unset c has = (
    λ same. not_false (mark_of marks counter) ((seen.marked counter below near).1 (subst (Contains taken) same has)) unset,
    let most = seen.upper c has in omega (arith, most, near),
  )

  pub was_taken : mark_of marks counter ≡ true → IsNew taken counter → ⊥
  was_taken set new = (new counter ((seen.marked counter below near).0 set)).0 refl

  pub older : length marks ≡ 1024 → AreMarked greatest (slice_set marks (counter % 1024) true) (taken ++ counter ∷ [])
  older size = record {
    reached = Contains-append_left taken (counter ∷ []) greatest seen.reached;
    upper = λ c has. elim (Contains-push_cases taken counter c has) [ inl old ↦ seen.upper c old | inr same ↦ omega (arith, same, below) ];
    marked = λ c few close. elim (cases_lt c counter) [
      | inl less ↦ stays taken counter c marks size (λ same. omega (arith, same, less))
          (other_place c counter less (omega (arith, below, close))) (seen.marked c few close)
      | inr most ↦ elim (eq-or-lt_of_le most) [
        | inl same ↦ itself taken counter c marks size (sym same)
        | inr less ↦ stays taken counter c marks size (λ same. omega (arith, same, less))
            (other_place_back counter c less (omega (arith, few, near))) (seen.marked c few close)
      ]
    ];
  }

-- a counter below the window
pub too_old : (greatest counter : ℕ) (marks : List Bool) (taken : List ℕ) → AreMarked greatest marks taken → counter + 1024 ≤ greatest
    → IsNew taken counter → ⊥
too_old greatest counter marks taken seen far new = let few = (new greatest seen.reached).1 in omega (arith, few, far)

-- ---- a counter above all others, whose place and those passed over were cleared

module _ (greatest counter : ℕ) (marks after : List Bool) (taken : List ℕ) (seen : AreMarked greatest marks taken) (above : greatest < counter) where
  pub is_newer : IsNew taken counter
  is_newer c has = (
    λ same. let most = seen.upper c has in omega (arith, most, above, same),
    let most = seen.upper c has in
        omega (arith, most, above),
  )

  pub newer : length after ≡ 1024 → ((c : ℕ) → greatest < c → c ≤ counter → counter < c + 1024 → mark_of after c ≡ false)
      → ((c : ℕ) → c ≤ greatest → counter < c + 1024 → mark_of after c ≡ mark_of marks c)
      → AreMarked counter (slice_set after (counter % 1024) true) (taken ++ counter ∷ [])
  newer size cleared kept = record {
    reached = Contains-push taken counter;
    upper = λ c has. elim (Contains-push_cases taken counter c has)
        [ inl old ↦ (let most = seen.upper c old in omega (arith, most, above)) | inr same ↦ omega (arith, same) ];
    marked = λ c few close. elim (eq-or-lt_of_le few) [
      | inl same ↦ itself taken counter c after size same
      | inr less ↦ stays taken counter c after size (λ same. omega (arith, same, less)) (other_place c counter less close)
          (elim (cases_lt greatest c) [
            | inl passed ↦ (
              λ set. absurd (not_false (mark_of after c) set (cleared c passed few close)),
              λ has. absurd (let most = seen.upper c has in omega (arith, most, passed)),
            )
            | inr within ↦ (
              λ set. (seen.marked c within (omega (arith, above, close))).0 (sym (kept c within close) ∙ set),
              λ has. kept c within close ∙ (seen.marked c within (omega (arith, above, close))).1 has,
            )
          ])
    ];
  }

-- ---- the first counter

pub none_yet : (counter : ℕ) → IsNew [] counter
none_yet counter c has = absurd (let few = has.1 in omega (arith, few))

pub first : (counter : ℕ) (marks : List Bool) → length marks ≡ 1024 → ((c : ℕ) → mark_of marks c ≡ false)
    → AreMarked counter (slice_set marks (counter % 1024) true) ([] ++ counter ∷ [])
first counter marks size unset = record {
  reached = Contains-push [] counter;
  upper = λ c has. elim (Contains-push_cases [] counter c has)
      [ inl old ↦ absurd (let few = old.1 in omega (arith, few)) | inr same ↦ omega (arith, same) ];
  marked = λ c few close. elim (eq-or-lt_of_le few) [
    | inl same ↦ itself [] counter c marks size same
    | inr less ↦ stays [] counter c marks size (λ same. omega (arith, same, less)) (other_place c counter less close)
        (λ set. absurd (not_false (mark_of marks c) set (unset c)), λ has. absurd (let none = has.1 in omega (arith, none)))
  ];
}

-- the marks before the first counter
pub no_mark : (c : ℕ) → mark_of (replicate 1024 false) c ≡ false
no_mark c = get_or-replicate 1024 (c % 1024) false false (omega arith)
