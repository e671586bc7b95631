-- A terminal that has read a painting shows its points.
use Rattle.std.proofs.Common.{◌≡◌, ◌≢◌, ◌⊎◌, ℕ, zero, suc, ◌+◌, ◌*◌, ◌<◌, ◌≤◌, Bool, true, false, cond, List, [], ◌∷◌, ◌++◌, Option, Some}
use Rattle.std.proofs.Common.{None, refl, sym, ap, subst, ◌∙◌, inl, inr, arith}
use Rattle.std.specs.List.{flat_map, filter, range_with_len}
use Rattle.std.proofs.lemmas.Grind.{flat_map-append}
use Rattle.std.proofs.lemmas.List.{append-nil}
use Rattle.std.proofs.lemmas.List.Elements.{filter-append}
use Rattle.std.proofs.lemmas.Bool.{cases_Bool, cases_lt, not-false, and_parts, and_from, not_from_true}
use Rattle.c8_screen.specs.Points.{Points}
use Rattle.c8_terminal.specs.Terminal.{Ready, Terminal, after}
use Rattle.c8_terminal.specs.Picture.{character, Agrees, Repaints}
use Rattle.c8_terminal.specs.Painting.{line, is_due, painting}
use Rattle.c8_terminal.proofs.RangeLemmas.{range_more}
use Rattle.c8_terminal.proofs.RowLemmas.{same_points, same_with_itself}
use Rattle.c8_terminal.proofs.ByteLemmas.{after-append}
use Rattle.c8_terminal.proofs.CellLemmas.{character_at, after-line}

-- the rows of text before one that differ
abbrev pub rows_before : Option Points → Points → ℕ → List ℕ
rows_before known points n = flat_map (line points) (filter (is_due known points) (range_with_len 0 n))

last_row : (f : ℕ → List ℕ) (p : ℕ → Bool) (n : ℕ) (b : Bool) → p n ≡ b → flat_map f (filter p (n ∷ [])) ≡ cond b (f n) []
last_row f p n true e = ap (λ (c : Bool). flat_map f (cond c (n ∷ []) [])) e ∙ append-nil (f n)
last_row f p n false e = ap (λ (c : Bool). flat_map f (cond c (n ∷ []) [])) e

one_row : (f : ℕ → List ℕ) (p : ℕ → Bool) (n : ℕ) (b : Bool) → p n ≡ b
    → flat_map f (filter p (range_with_len 0 n)) ++ cond b (f n) [] ≡ flat_map f (filter p (range_with_len 0 (n + 1)))
one_row f p n b e =
    let front : List ℕ = filter p (range_with_len 0 n) in
    ap (λ (last : List ℕ). flat_map f front ++ last) (sym (last_row f p n b e)) ∙ sym (flat_map-append f front (filter p (n ∷ [])))
    ∙ ap (flat_map f) (sym (filter-append p (range_with_len 0 n) (n ∷ []))) ∙ ap (λ (ns : List ℕ). flat_map f (filter p ns)) (sym (range_more n))

pub row_due : (known : Option Points) (points : Points) (n : ℕ) → is_due known points n ≡ true
    → rows_before known points n ++ line points n ≡ rows_before known points (n + 1)
row_due known points n e = one_row (line points) (is_due known points) n true e

pub row_not_due : (known : Option Points) (points : Points) (n : ℕ) → is_due known points n ≡ false
    → rows_before known points n ≡ rows_before known points (n + 1)
row_not_due known points n e = sym (append-nil (rows_before known points n)) ∙ one_row (line points) (is_due known points) n false e

-- u is t after the first n rows of text were painted
record HasRows (points : Points) (n : ℕ) (t u : Terminal) : Type 0 where
  mode : u.mode ≡ Ready
  shown : (x y : ℕ) → x < 64 → y < n → u.cells (y + 1) (x + 1) ≡ character_at points y x
  rest : (row column : ℕ) → (n < row) ⊎ (64 < column) → u.cells row column ≡ t.cells row column

is_ready : (known : Option Points) (t : Terminal) → Agrees known t → t.mode ≡ Ready
is_ready None t h = h
is_ready (Some points) t h = h.0

-- a row of text that is not due is shown
shown_before : (known : Option Points) (points : Points) (y x : ℕ) (t : Terminal) → Agrees known t → is_due known points y ≡ false → y < 16 → x < 64
    → t.cells (y + 1) (x + 1) ≡ character_at points y x
shown_before None points y x t h same row column = absurd cc
shown_before (Some known) points y x t h same row column =
    let parts = and_parts _ _ (not-false _ same) in
    h.1 x y column row ∙ ap (λ (upper : Bool). character upper (known x (2 * y + 1))) (same_points known points (2 * y) x parts.0 column)
    ∙ ap (λ (lower : Bool). character (points x (2 * y)) lower) (same_points known points (2 * y + 1) x parts.1 column)

module _ (known : Option Points) (points : Points) (t : Terminal) (agrees : Agrees known t) where
  with_row : (n : ℕ) → n < 16 → HasRows points n t (after (rows_before known points n) t) → is_due known points n ≡ true
      → HasRows points (n + 1) t (after (rows_before known points (n + 1)) t)
  with_row n within h due =
      let u : Terminal = after (rows_before known points n) t in
      let read : after (rows_before known points (n + 1)) t ≡ after (line points n) u =
      ap (λ (bytes : List ℕ). after bytes t) (sym (row_due known points n due)) ∙ after-append (rows_before known points n) (line points n) t in
      let l = after-line points n u within h.mode in
      let made : HasRows points (n + 1) t (after (line points n) u) =
      record {
        mode = l.mode;
        shown = λ x y column row.
            elim (cases_lt y n) [
              | inl before ↦
                  let other : y + 1 ≢ n + 1 = λ e. omega (arith, e, before) in
                  l.rest (y + 1) (x + 1) (inl other) ∙ h.shown x y column before
              | inr last ↦
                  let here : n ≡ y = omega arith in
                  subst (λ (k : ℕ). (after (line points n) u).cells (k + 1) (x + 1) ≡ character_at points k x) here (l.shown x column)
            ];
        rest = λ row column far.
            elim far [
              | inl below ↦
                  let other : row ≢ n + 1 = λ e. omega (arith, e, below) in
                  let past : n < row = omega arith in
                  l.rest row column (inl other) ∙ h.rest row column (inl past)
              | inr right ↦ l.rest row column (inr right) ∙ h.rest row column (inr right)
            ];
      } in
      subst (λ (v : Terminal). HasRows points (n + 1) t v) (sym read) made

  without_row : (n : ℕ) → n < 16 → HasRows points n t (after (rows_before known points n) t) → is_due known points n ≡ false
      → HasRows points (n + 1) t (after (rows_before known points (n + 1)) t)
  without_row n within h same =
      let u : Terminal = after (rows_before known points n) t in
      let made : HasRows points (n + 1) t u =
      record {
        mode = h.mode;
        shown = λ x y column row.
            elim (cases_lt y n) [
              | inl before ↦ h.shown x y column before
              | inr last ↦
                  let here : n ≡ y = omega arith in
                  let past : n < y + 1 = omega arith in
                  h.rest (y + 1) (x + 1) (inl past)
                  ∙ subst (λ (k : ℕ). t.cells (k + 1) (x + 1) ≡ character_at points k x) here
                  (shown_before known points n x t agrees same within column)
            ];
        rest = λ row column far.
            elim far [
              | inl below ↦ let past : n < row = omega arith in h.rest row column (inl past)
              | inr right ↦ h.rest row column (inr right)
            ];
      } in
      subst (λ (bytes : List ℕ). HasRows points (n + 1) t (after bytes t)) (row_not_due known points n same) made

  first_rows : (n : ℕ) → n ≤ 16 → HasRows points n t (after (rows_before known points n) t)
  unfolding after
  first_rows zero within = record { mode = is_ready known t agrees; shown = λ x y column none. absurd (omega arith); rest = λ row column far. refl }
  first_rows (suc n) within =
      let one : n + 1 ≡ suc n = omega arith in
      let h = first_rows n (omega arith) in
      subst (λ (m : ℕ). HasRows points m t (after (rows_before known points m) t)) one
      (elim (cases_Bool (is_due known points n)) [ inl due ↦ with_row n (omega arith) h due | inr same ↦ without_row n (omega arith) h same ])

  all_rows : HasRows points 16 t (after (painting known points) t)
  unfolding painting
  all_rows = first_rows 16 (omega arith)

pub repaints : (known : Option Points) (points : Points) → Repaints known (painting known points) points
repaints known points t agrees = let h = all_rows known points t agrees in ((h.mode, h.shown), h.rest)

none_due : (p : ℕ → Bool) (a n : ℕ) → ((k : ℕ) → p k ≡ false) → filter p (range_with_len a n) ≡ []
none_due p a zero h = refl
none_due p a (suc n) h = ap (λ (b : Bool). cond b (a ∷ filter p (range_with_len (a + 1) n)) (filter p (range_with_len (a + 1) n))) (h a)
    ∙ none_due p (a + 1) n h

pub nothing_new : (points : Points) → painting (Some points) points ≡ []
unfolding painting
nothing_new points =
    ap (flat_map (line points))
    (none_due (is_due (Some points) points) 0 16
    (λ k. not_from_true _ (and_from _ _ (same_with_itself points (2 * k)) (same_with_itself points (2 * k + 1)))))

pub all_are : (known : Option Points) (points : Points) (n : ℕ) → n ≡ 16 → rows_before known points n ≡ painting known points
unfolding painting
all_are known points n all = ap (rows_before known points) all
