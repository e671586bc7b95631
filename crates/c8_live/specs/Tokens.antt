-- What clauses see of a pen and of a viewer.
use Rattle.std.specs.Prelude.{◌≡◌, ℕ, ◌+◌, Bool, false, List, ◌++◌}
use Rattle.atomic_table.specs.Seated.{TableId}
use Rattle.c8_game.specs.Rules.{Rules}
use Rattle.c8_game.specs.declared.row.Row.{Row}
use Rattle.c8_live.specs.Starts.{StartValue, origin_from}
use Rattle.c8_live.specs.Words.{LookValue, look_of}

-- the early rows are the beginning of the late ones
pub record Begins (early late : List Row) : Type 0 where
  pub rest : List Row
  pub is : late ≡ early ++ rest

-- a pen: its board, the game, where the run begins, and the rows that it published last
pub record PenValue : Type 0 where
  pub board : TableId
  pub game : Rules
  pub from : StartValue
  pub rows : List Row

-- a viewer: its board, the game, where the run begins, the rows that it saw last, whether it has asked for the end of
-- the match, and how often it has loaded what the pen publishes
pub record ViewerValue : Type 0 where
  pub board : TableId
  pub game : Rules
  pub from : StartValue
  pub seen : List Row
  pub asked : Bool
  pub loads : ℕ

-- a viewer that has done nothing yet; it has seen what the pen had published when the viewer was made
abbrev pub new_viewer : TableId → Rules → StartValue → List Row → ViewerValue
new_viewer board game from rows = record { board = board; game = game; from = from; seen = rows; asked = false; loads = 0 }

-- One load by a viewer: it now has seen rows that begin with all that it saw before, and the look is at these rows.
pub record SeesMore (old : ViewerValue) (found : LookValue) (new : ViewerValue) : Type 0 where
  pub begins : Begins old.seen new.seen
  pub finds : found ≡ look_of old.game (origin_from old.from) new.seen
  pub one_more : new.loads ≡ old.loads + 1
  pub same_board : new.board ≡ old.board
  pub same_game : new.game ≡ old.game
  pub same_from : new.from ≡ old.from
  pub same_asked : new.asked ≡ old.asked
