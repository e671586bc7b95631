-- A small terminal: what it shows, and what it does with the bytes that it reads. It knows the printable characters of
-- ASCII, those of UTF-8 from U+1000 to U+CFFF (three bytes, taken as one cell wide), and the command that moves the
-- cursor. Its window has room for everything that is printed, so nothing is wrapped or scrolled.
use Rattle.std.specs.Prelude.{ℕ, ◌+◌, ◌-◌, ◌*◌, ◌%◌, ◌==◌, ◌&&◌, Bool, max, nat_le, List, [], ◌∷◌, if◌then◌else◌}

-- the part of a character or command that a terminal has read
pub data Mode : Type 0 where
  -- nothing: the last one is complete
  Ready : Mode
  -- the first bytes of a character: their bits, and how many bytes are missing
  Character : (bits missing : ℕ) → Mode
  -- ESC
  Escape : Mode
  -- ESC [ and digits of the row's number
  Row : (row : ℕ) → Mode
  -- ESC [, the row's number, ; and digits of the column's number
  Column : (row column : ℕ) → Mode
  -- something that it does not know
  Lost : Mode

-- Rows and columns are counted from 1. A cell holds the number of its character in Unicode.
pub record Terminal : Type 0 where
  pub mode : Mode
  pub row : ℕ
  pub column : ℕ
  pub cells : ℕ → ℕ → ℕ

abbrev pub in_mode : Mode → Terminal → Terminal
in_mode mode t = record { mode = mode; row = t.row; column = t.column; cells = t.cells }

-- the cell at the cursor gets the character, and the cursor moves one to the right
abbrev pub printed : ℕ → Terminal → Terminal
printed character t =
    record {
      mode = Ready;
      row = t.row;
      column = t.column + 1;
      cells = λ row column. if row == t.row && column == t.column then character else t.cells row column;
    }

-- the cursor moves there; 0 means 1
abbrev pub moved : ℕ → ℕ → Terminal → Terminal
moved row column t = record { mode = Ready; row = max 1 row; column = max 1 column; cells = t.cells }

abbrev pub is_digit : ℕ → Bool
is_digit b = nat_le 48 b && nat_le b 57

-- a number with one more digit
abbrev pub with_digit : ℕ → ℕ → ℕ
with_digit n b = 10 * n + (b - 48)

-- one of the missing bytes of a character, the last or another
abbrev pub with_bits : ℕ → ℕ → Terminal → Terminal
with_bits bits missing t = if missing == 1 then printed bits t else in_mode (Character bits (missing - 1)) t

-- what a terminal does with one byte
abbrev pub after_byte : Mode → ℕ → Terminal → Terminal
after_byte Ready b t =
    if b == 0x1B then in_mode Escape t
    else if nat_le 0x20 b && nat_le b 0x7E then printed b t
    else if nat_le 0xE1 b && nat_le b 0xEC then in_mode (Character (b % 16) 2) t
    else in_mode Lost t
after_byte (Character bits missing) b t =
    if nat_le 0x80 b && nat_le b 0xBF then with_bits (64 * bits + b % 64) missing t else in_mode Lost t
after_byte Escape b t = if b == 0x5B then in_mode (Row 0) t else in_mode Lost t
after_byte (Row row) b t =
    if is_digit b then in_mode (Row (with_digit row b)) t
    else if b == 0x3B then in_mode (Column row 0) t
    else in_mode Lost t
after_byte (Column row column) b t =
    if is_digit b then in_mode (Column row (with_digit column b)) t
    else if b == 0x48 then moved row column t
    else in_mode Lost t
after_byte Lost b t = t

-- what a terminal does with bytes in order
unfoldable pub after : List ℕ → Terminal → Terminal
after [] t = t
after (b ∷ bytes) t = after bytes (after_byte t.mode b t)
