-- A screen as the set of its lit points.
use Rattle.std.specs.Prelude.{◌≡◌, ℕ, ◌+◌, ◌-◌, ◌<◌, ◌==◌, ◌&&◌, Bool, true, false, not, nat_le, nat_lt, List, slice_index, if◌then◌else◌}
use Rattle.std.specs.List.{list_any, range_with_len}
use Rattle.std.specs.Int.{bit_at}
use Rattle.c8_screen.specs.declared.Screen.{Screen}

-- the number of points in a row, and of rows on a screen
abbrev pub width : ℕ
width = 64

abbrev pub height : ℕ
height = 32

-- a set of points: whether it has the point in column x of row y, counted from the upper left
abbrev pub Points : Type 0
Points = ℕ → ℕ → Bool

-- the empty set of points
abbrev pub no_points : Points
no_points x y = false

-- whether a row of 64 points, its highest bit leftmost, has the point in column x
abbrev pub row_has : ℕ → ℕ → Bool
row_has row x = bit_at row (63 - x) == 1

-- the points of these rows, within 64 columns and 32 rows
abbrev pub points_in : List ℕ → Points
points_in rows x y = if nat_lt x width && nat_lt y height then row_has (slice_index rows y) x else false

-- the lit points of a screen
abbrev pub points_of : Screen → Points
points_of screen = points_in screen.rows

-- the points of a sprite of n rows of 8 points, whose upper left point is in column `left` of row `top`; a row is a
-- byte, its highest bit leftmost
abbrev pub sprite : ℕ → (ℕ → ℕ) → ℕ → ℕ → Points
sprite n bytes left top x y =
    if (nat_le left x && nat_lt x (left + 8)) && (nat_le top y && nat_lt y (top + n)) then bit_at (bytes (y - top)) (7 - (x - left)) == 1 else false

-- the points of a set that lie on the screen
abbrev pub clipped : Points → Points
clipped points x y = if nat_lt x width && nat_lt y height then points x y else false

-- all points of the set lie on the screen
abbrev pub AreOnScreen : Points → Type 0
AreOnScreen points = (x y : ℕ) → points x y ≡ true → (x < width) × (y < height)

-- the points that are in exactly one of two sets
abbrev pub exclusive_or : Points → Points → Points
exclusive_or a b x y = if b x y then not (a x y) else a x y

-- whether a point of the screen is in both sets
unfoldable pub meets : Points → Points → Bool
meets a b = list_any (λ y. list_any (λ x. a x y && b x y) (range_with_len 0 width)) (range_with_len 0 height)
