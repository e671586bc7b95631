-- A desk as a caller sees it: the keyboard, the text written to the screen, and the points that it shows.
use Rattle.std.specs.Prelude.{◌≡◌, ◌⊎◌, ℕ, true, List, ◌++◌, Option, None, Some}
use Rattle.c8_screen.specs.Points.{Points}
use Rattle.c8_terminal.specs.Decoder.{read_by}
use Rattle.c8_terminal.specs.Held.{press_at, hold_of}
use Rattle.c8_terminal.specs.Painter.{known_to}
use Rattle.c8_terminal.specs.Picture.{Repaints}
use Rattle.c8_play.specs.declared.console.Console.{Ghosts}
use Rattle.c8_play.specs.declared.desk.Desk.{Desk}
use Rattle.c8_play.specs.Typing.{Typing}

abbrev pub typing : {C : Type 0} → Ghosts C → Desk C → Typing
typing console desk = record { typed = console.typed desk.console; read = read_by desk.decoder; hold = hold_of desk.held; press = press_at desk.held }

-- the points that the desk knows to be on the screen, if it knows any
abbrev pub seen_at : {C : Type 0} → Desk C → Option Points
seen_at desk = known_to desk.painter

abbrev pub drawn_at : {C : Type 0} → Ghosts C → Desk C → List ℕ
drawn_at console desk = console.drawn desk.console

-- Nothing came from the keys, and nothing was written.
pub record IsSameDesk {C : Type 0} (console : Ghosts C) (old new : Desk C) : Type 0 where
  pub typing_is : typing console new ≡ typing console old
  pub seen : seen_at new ≡ seen_at old
  pub drawn : drawn_at console new ≡ drawn_at console old

-- the desk may have forgotten what the screen shows
abbrev pub MayForget : {C : Type 0} → Desk C → Desk C → Type 0
MayForget old new = (seen_at new ≡ seen_at old) ⊎ (seen_at new ≡ None)

-- A painting of the points was written, and then the status row. A terminal that showed what the desk knew shows these
-- points once it has read the painting.
pub record HasPainted {C : Type 0} (console : Ghosts C) (points : Points) (old new : Desk C) : Type 0 where
  pub painting : List ℕ
  pub row : List ℕ
  pub repaints : Repaints (seen_at old) painting points
  pub drawn : drawn_at console new ≡ drawn_at console old ++ (painting ++ row)
  pub seen : seen_at new ≡ Some points

-- or the person has left
abbrev pub HasShown : {C : Type 0} → Ghosts C → Points → Desk C → Desk C → Type 0
HasShown console points old new = (new.has_left ≡ true) ⊎ HasPainted console points old new
