-- What a terminal shows after it has read a row of text.
use Rattle.std.proofs.Common.{◌≡◌, ◌≢◌, ◌⊎◌, ℕ, zero, suc, ◌+◌, ◌*◌, ◌<◌, ◌&&◌, nat_eq, List, [], ◌++◌, refl, sym, ap, subst, ◌∙◌, inl, inr, arith}
use Rattle.std.specs.List.{flat_map, range_with_len}
use Rattle.std.proofs.lemmas.Bool.{cases_lt, cond-true, cond-false, and_from, and_left, and_right, eq-eqb, ne_eqb}
use Rattle.c8_screen.specs.Points.{Points}
use Rattle.c8_terminal.specs.Terminal.{Ready, Terminal, printed, after}
use Rattle.c8_terminal.specs.Picture.{character}
use Rattle.c8_terminal.specs.Painting.{cell_at, move, line}
use Rattle.c8_terminal.proofs.RangeLemmas.{spelled_more}
use Rattle.c8_terminal.proofs.ByteLemmas.{after-append, ready, after-move, after-cell}

abbrev pub character_at : Points → ℕ → ℕ → ℕ
character_at points y x = character (points x (2 * y)) (points x (2 * y + 1))

printed_here : (n row column : ℕ) (t : Terminal) → row ≡ t.row → column ≡ t.column → (printed n t).cells row column ≡ n
printed_here n row column t r c = cond-true (nat_eq row t.row && nat_eq column t.column) n (t.cells row column)
    (and_from _ _ (eq-eqb row t.row r) (eq-eqb column t.column c))

printed_elsewhere : (n row column : ℕ) (t : Terminal) → (row ≢ t.row) ⊎ (column ≢ t.column) → (printed n t).cells row column ≡ t.cells row column
printed_elsewhere n row column t (inl r) =
    cond-false (nat_eq row t.row && nat_eq column t.column) n (t.cells row column) (and_left _ _ (ne_eqb row t.row r))
printed_elsewhere n row column t (inr c) =
    cond-false (nat_eq row t.row && nat_eq column t.column) n (t.cells row column) (and_right _ _ (ne_eqb column t.column c))

-- u is t after the first n cells of a row of text were printed
record HasCells (points : Points) (y n : ℕ) (t u : Terminal) : Type 0 where
  mode : u.mode ≡ Ready
  row : u.row ≡ y + 1
  column : u.column ≡ n + 1
  shown : (x : ℕ) → x < n → u.cells (y + 1) (x + 1) ≡ character_at points y x
  rest : (row column : ℕ) → (row ≢ y + 1) ⊎ (n < column) → u.cells row column ≡ t.cells row column

one_cell : (points : Points) (y n : ℕ) (t u : Terminal) → HasCells points y n t u → HasCells points y (n + 1) t (printed (character_at points y n) u)
one_cell points y n t u h = record {
  mode = refl;
  row = h.row;
  column = ap (λ (c : ℕ). c + 1) h.column;
  shown = λ x within.
      elim (cases_lt x n) [
        | inl before ↦
            let apart : x + 1 ≢ u.column = λ e. omega (arith, h.column, e, before) in
            printed_elsewhere (character_at points y n) (y + 1) (x + 1) u (inr apart) ∙ h.shown x before
        | inr last ↦
            let here : n ≡ x = omega arith in
            let at : x + 1 ≡ u.column = omega (arith, h.column, here) in
            printed_here (character_at points y n) (y + 1) (x + 1) u (sym h.row) at ∙ ap (character_at points y) here
      ];
  rest = λ row column far.
      elim far [
        | inl other ↦ printed_elsewhere (character_at points y n) row column u (inl (λ e. other (e ∙ h.row))) ∙ h.rest row column (inl other)
        | inr past ↦
            let apart : column ≢ u.column = λ e. omega (arith, h.column, e, past) in
            let behind : n < column = omega arith in
            printed_elsewhere (character_at points y n) row column u (inr apart) ∙ h.rest row column (inr behind)
      ];
}

cells_more : (points : Points) (y n : ℕ) (t : Terminal) → HasCells points y n t (after (flat_map (cell_at points y) (range_with_len 0 n)) t)
    → HasCells points y (n + 1) t (after (flat_map (cell_at points y) (range_with_len 0 (n + 1))) t)
cells_more points y n t h =
    let front : List ℕ = flat_map (cell_at points y) (range_with_len 0 n) in
    let read : after (flat_map (cell_at points y) (range_with_len 0 (n + 1))) t ≡ printed (character_at points y n) (after front t) =
    ap (λ (bytes : List ℕ). after bytes t) (sym (spelled_more (cell_at points y) [] n)) ∙ after-append front (cell_at points y n) t
    ∙ after-cell (points n (2 * y)) (points n (2 * y + 1)) (after front t) h.mode in
    subst (λ (u : Terminal). HasCells points y (n + 1) t u) (sym read) (one_cell points y n t (after front t) h)

first_cells : (points : Points) (y n : ℕ) (cells : ℕ → ℕ → ℕ)
    → HasCells points y n (ready (y + 1) 1 cells) (after (flat_map (cell_at points y) (range_with_len 0 n)) (ready (y + 1) 1 cells))
unfolding after
first_cells points y zero cells = record {
  mode = refl;
  row = refl;
  column = refl;
  shown = λ x none. absurd (omega arith);
  rest = λ row column far. refl;
}
first_cells points y (suc n) cells =
    let one : n + 1 ≡ suc n = omega arith in
    subst (λ (m : ℕ). HasCells points y m (ready (y + 1) 1 cells)
    (after (flat_map (cell_at points y) (range_with_len 0 m)) (ready (y + 1) 1 cells))) one
    (cells_more points y n (ready (y + 1) 1 cells) (first_cells points y n cells))

-- u is t after a row of text was read
pub record HasLine (points : Points) (y : ℕ) (t u : Terminal) : Type 0 where
  pub mode : u.mode ≡ Ready
  pub shown : (x : ℕ) → x < 64 → u.cells (y + 1) (x + 1) ≡ character_at points y x
  pub rest : (row column : ℕ) → (row ≢ y + 1) ⊎ (64 < column) → u.cells row column ≡ t.cells row column

pub after-line : (points : Points) (y : ℕ) (t : Terminal) → y < 16 → t.mode ≡ Ready → HasLine points y t (after (line points y) t)
unfolding line
after-line points y t within is =
    let cells : List ℕ = flat_map (cell_at points y) (range_with_len 0 64) in
    let read : after (move (y + 1) ++ cells) t ≡ after cells (ready (y + 1) 1 t.cells) =
    after-append (move (y + 1)) cells t ∙ ap (after cells) (after-move y t within is) in
    let h = first_cells points y 64 t.cells in
    subst (λ (u : Terminal). HasLine points y t u) (sym read) (record { mode = h.mode; shown = h.shown; rest = h.rest })
