-- Key lines: the rows that a text spells, or the fault that refuses it.
use Rattle.std.specs.Prelude.{◌≡◌, ℕ, ◌+◌, ◌-◌, ◌*◌, ◌==◌, ◌&&◌, ◌||◌, Bool, not, nat_le, List, ◌++◌, length, map, take, drop, replicate}
use Rattle.std.specs.Prelude.{slice_index, Option, Some, None, if◌then◌else◌}
use Rattle.std.specs.List.{list_all, range_with_len}
use Rattle.std.specs.Str.Lines.{lines}
use Rattle.c8_game.specs.Faults.{AreFaultless, IsFirstFault}
use Rattle.c8_game.specs.KeysText.{is_keys_text, keys_number}
use Rattle.c8_game.specs.Rules.{Rules}
use Rattle.c8_game.specs.declared.row.Keys.{Keys}
use Rattle.c8_game.specs.declared.row.Row.{Row}
use Rattle.c8_machine.specs.Serial.{serial}
use Rattle.c8_machine.specs.State.{state}
use Rattle.c8_texts.specs.declared.error.KeysError.{KeysError}
use Rattle.c8_texts.specs.declared.error.KeysError.TheVariants.{Line, Long}
use Rattle.c8_texts.specs.declared.lines.Played.{Played}

-- a line has four digits for each player, player 1's at place 0, and one space between two players
abbrev pub digits_at : List ℕ → ℕ → List ℕ
digits_at line place = take 4 (drop (5 * place) line)

-- whether a player's four bytes are digits, with a space before them unless they are player 1's
abbrev pub are_keys_at : List ℕ → ℕ → Bool
are_keys_at line place =
    (place == 0 || slice_index line (5 * place - 1) == 32) && is_keys_text (digits_at line place)

abbrev pub is_key_line : ℕ → List ℕ → Bool
is_key_line players line =
    length line + 1 == 5 * players && list_all (are_keys_at line) (range_with_len 0 players)

-- the set that a player's digits spell
abbrev pub keys_at : List ℕ → ℕ → Keys
keys_at line place = record { 0 = keys_number (digits_at line place) }

-- the row of a line; places without a player have no keys
abbrev pub row_of : ℕ → List ℕ → Row
row_of players line = record {
  sets = map (keys_at line) (range_with_len 0 players) ++ replicate (4 - players) (record { 0 = 0 });
}

-- the fault of a line after these: it comes after the last frame's line, or it is no key line
abbrev pub key_line_fault : Rules → List (List ℕ) → List ℕ → Option KeysError
key_line_fault rules before line =
    if nat_le rules.frames (length before) then Some Long
    else if not (is_key_line rules.players line) then Some Line
    else None

-- this is the first fault of the text, that of its first faulty line
abbrev pub IsFaultOf : Rules → List ℕ → KeysError → Type 0
IsFaultOf rules text fault = IsFirstFault (key_line_fault rules) (lines text) fault

-- no line of the text has a fault, and the machine is that of the serial run of its rows, one a frame
pub record IsRunOf (rules : Rules) (text : List ℕ) (played : Played) : Type 0 where
  pub faultless : AreFaultless (key_line_fault rules) (lines text)
  pub frames : played.frames ≡ length (lines text)
  pub machine : state played.machine ≡ serial rules (map (row_of rules.players) (lines text))
