-- What the pen of a board shows of a watcher.
use Rattle.std.specs.Prelude.{◌≡◌}
use Rattle.atomic_table.specs.Seated.{TableId}
use Rattle.c8_game.specs.Rules.{Rules}
use Rattle.c8_digest.specs.Origin.{first_origin}
use Rattle.c8_live.specs.Starts.{StartValue, start_of}
use Rattle.c8_live.specs.Tokens.{PenValue, Begins}
use Rattle.c8_spectator.specs.Watching.{WatchValue}

-- a watcher's run begins before the first frame
abbrev pub beginning : Rules → StartValue
beginning rules = start_of (first_origin rules)

-- The pen can show the watcher: it has the same game, its run begins before the first frame, and the watcher's rows
-- begin with those that it published.
pub record MayShow (w : WatchValue) (pen : PenValue) : Type 0 where
  pub game : pen.game ≡ w.rules
  pub from : pen.from ≡ beginning w.rules
  pub rows : Begins pen.rows w.rows

-- the pen has published the watcher's rows
abbrev pub IsShown : WatchValue → PenValue → PenValue → Type 0
IsShown w old new = new ≡ record old { rows = w.rows }

-- the pen of a new board that shows a watcher
abbrev pub pen_at : TableId → WatchValue → PenValue
pen_at board w = record { board = board; game = w.rules; from = beginning w.rules; rows = w.rows }
