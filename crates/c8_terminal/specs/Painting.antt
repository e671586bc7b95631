-- The bytes of a painting.
use Rattle.std.specs.Prelude.{ℕ, ◌+◌, ◌*◌, ◌/◌, ◌%◌, ◌&&◌, Bool, true, false, not, nat_lt, List, [], ◌∷◌, ◌++◌, Option, Some, None, if◌then◌else◌}
use Rattle.std.specs.List.{flat_map, filter, list_all, range_with_len}
use Rattle.c8_screen.specs.Points.{Points}

-- the UTF-8 of the character of two points, one above the other
abbrev pub cell : Bool → Bool → List ℕ
cell false false = 0x20 ∷ []
cell true false = 0xE2 ∷ 0x96 ∷ 0x80 ∷ []
cell false true = 0xE2 ∷ 0x96 ∷ 0x84 ∷ []
cell true true = 0xE2 ∷ 0x96 ∷ 0x88 ∷ []

-- a number of one or two digits
abbrev pub decimal : ℕ → List ℕ
decimal n = if nat_lt n 10 then (48 + n) ∷ [] else (48 + n / 10) ∷ (48 + n % 10) ∷ []

-- ESC [ row ; 1 H, which moves the cursor to the first column of a row, counted from 1
abbrev pub move : ℕ → List ℕ
move row = 0x1B ∷ 0x5B ∷ (decimal row ++ (0x3B ∷ 0x31 ∷ 0x48 ∷ []))

-- the cell in column x of row y of the text, both counted from 0
abbrev pub cell_at : Points → ℕ → ℕ → List ℕ
cell_at points y x = cell (points x (2 * y)) (points x (2 * y + 1))

-- a row of text: 64 cells, at its place
unfoldable pub line : Points → ℕ → List ℕ
line points y = move (y + 1) ++ flat_map (cell_at points y) (range_with_len 0 64)

abbrev pub alike : Bool → Bool → Bool
alike true b = b
alike false b = not b

-- whether two sets have the same points in a row
unfoldable pub same_row : Points → Points → ℕ → Bool
same_row a b y = list_all (λ x. alike (a x y) (b x y)) (range_with_len 0 64)

-- a row of text differs from what is known to be shown
abbrev pub is_due : Option Points → Points → ℕ → Bool
is_due None points y = true
is_due (Some known) points y = not (same_row known points (2 * y) && same_row known points (2 * y + 1))

-- the rows of text that differ, from the uppermost on
unfoldable pub painting : Option Points → Points → List ℕ
painting known points = flat_map (line points) (filter (is_due known points) (range_with_len 0 16))
