-- The keys of one player: a text with one key set a line.
use Rattle.std.specs.Prelude.{◌≡◌, ℕ, true, false, List, map, Option, Some, None, if◌then◌else◌}
use Rattle.std.specs.List.{list_all}
use Rattle.std.specs.Str.Lines.{lines}
use Rattle.c8_game.specs.KeysText.{is_keys_text, keys_number}
use Rattle.c8_game.specs.declared.row.Keys.{Keys}
use Rattle.c8_texts.specs.declared.error.KeysError.{KeysError}
use Rattle.c8_texts.specs.declared.error.KeysError.TheVariants.{Line, Long, Memory}

-- the set that a line's four digits spell
abbrev pub set_of : List ℕ → Keys
set_of line = record { 0 = keys_number line }

-- each line is four digits, and these are the sets that they spell
pub record AreSetsOf (text : List ℕ) (sets : List Keys) : Type 0 where
  pub spelled : list_all is_keys_text (lines text) ≡ true
  pub spell : sets ≡ map set_of (lines text)

-- a line is not four digits; or memory ran out
abbrev pub IsFaultOfSets : List ℕ → KeysError → Type 0
IsFaultOfSets text Line = list_all is_keys_text (lines text) ≡ false
IsFaultOfSets text Memory = Unit {0}
IsFaultOfSets text Long = ⊥

-- the fault of a line, whatever comes before it
abbrev pub set_fault : List (List ℕ) → List ℕ → Option KeysError
set_fault before line = if is_keys_text line then None else Some Line
