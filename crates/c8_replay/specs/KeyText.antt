-- Rows as key lines, one line a row.
use Rattle.std.specs.Prelude.{◌≡◌, ◌<◌, ◌^◌, ℕ, List, [], ◌∷◌, ◌++◌, map, take}
use Rattle.std.specs.Int.{to_be_bytes, w16}
use Rattle.std.specs.List.{flat_map}
use Rattle.std.specs.Str.Lines.{lines}
use Rattle.hex.specs.Hex.{encode_lower}
use Rattle.c8_game.specs.Faults.{AreFaultless}
use Rattle.c8_game.specs.Rules.{Rules}
use Rattle.c8_game.specs.declared.row.Keys.{Keys}
use Rattle.c8_game.specs.declared.row.Row.{Row}
use Rattle.c8_texts.specs.KeyLines.{key_line_fault, row_of}

-- a set has sixteen keys
abbrev pub IsSet : Keys → Type 0
IsSet keys = keys.0 < 2 ^ 16

-- a set in four lower-case digits, the most significant first
abbrev pub set_text : Keys → List ℕ
set_text keys = encode_lower (to_be_bytes w16 keys.0)

-- some sets, one space between two
unfoldable pub sets_text : List Keys → List ℕ
sets_text [] = []
sets_text (set ∷ []) = set_text set
sets_text (set ∷ next ∷ more) = set_text set ++ 32 ∷ sets_text (next ∷ more)

-- the line of a row: the sets of the game's players, as entered
abbrev pub line_of : ℕ → Row → List ℕ
line_of players row = sets_text (take players row.sets)

-- all lines, each with its line feed
abbrev pub keys_text : ℕ → List Row → List ℕ
keys_text players rows = flat_map (λ row. line_of players row ++ 10 ∷ []) rows

-- The lines of a text are key lines of the game, and spell these rows.
pub record SpellRows (rules : Rules) (text : List ℕ) (rows : List Row) : Type 0 where
  pub faultless : AreFaultless (key_line_fault rules) (lines text)
  pub rows_are : map (row_of rules.players) (lines text) ≡ rows
