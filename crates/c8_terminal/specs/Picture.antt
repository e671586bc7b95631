-- A set of points as a terminal shows it: a row of text shows two rows of points.
use Rattle.std.specs.Prelude.{◌≡◌, ℕ, ◌+◌, ◌*◌, ◌<◌, ◌⊎◌, Bool, true, false, List, Option, Some, None}
use Rattle.c8_screen.specs.Points.{Points}
use Rattle.c8_terminal.specs.Terminal.{Ready, Terminal, after}

-- the character of two points, one above the other: a space, or the upper half, the lower half or all of a block
abbrev pub character : Bool → Bool → ℕ
character false false = 0x20
character true false = 0x2580
character false true = 0x2584
character true true = 0x2588

-- the upper left 16 rows of 64 cells show the points
abbrev pub Shows : Points → Terminal → Type 0
Shows points t = (x y : ℕ) → x < 64 → y < 16 → t.cells (y + 1) (x + 1) ≡ character (points x (2 * y)) (points x (2 * y + 1))

-- the terminal is between two commands, and shows these points, if any are known
abbrev pub Agrees : Option Points → Terminal → Type 0
Agrees None t = t.mode ≡ Ready
Agrees (Some points) t = (t.mode ≡ Ready) × Shows points t

-- nothing is written right of the 64 cells or below the 16 rows
abbrev pub KeepsTheRest : Terminal → Terminal → Type 0
KeepsTheRest t u = (row column : ℕ) → (16 < row) ⊎ (64 < column) → u.cells row column ≡ t.cells row column

-- each terminal that agrees with what is known shows the points after it has read the bytes, and its other cells do not
-- change
abbrev pub Repaints : Option Points → List ℕ → Points → Type 0
Repaints known bytes points = (t : Terminal) → Agrees known t → Agrees (Some points) (after bytes t) × KeepsTheRest t (after bytes t)
