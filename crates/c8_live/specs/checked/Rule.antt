-- Checked, not believed: what the pen and the viewers know of a board, and the invariant that ties it to the board's
-- words.
use Rattle.std.specs.Prelude.{◌≡◌, ◌⊎◌, ℕ, ◌+◌, true, false, List, [], ◌∷◌}
use mathlib.Core.Option.{some}
use lib.ListN.{get_elem?}
use Rattle.atomic_table.specs.Table.{State, Me}
use Rattle.c8_game.specs.Rules.{Rules}
use Rattle.c8_game.specs.declared.row.Row.{Row}
use Rattle.c8_live.specs.declared.views.Watch.{Watch}
use Rattle.c8_live.specs.declared.views.View.{View}
use Rattle.c8_live.specs.declared.views.View.TheVariants.{Blank, Alone, Joined, Watching, Spent}
use Rattle.c8_live.specs.Starts.{StartValue, origin_from}
use Rattle.c8_live.specs.Words.{word}
use Rattle.c8_live.specs.Tokens.{Begins}

-- A viewer has the pen's game and start, and has seen a beginning of the pen's rows; if it has asked, the stop word is
-- 1.
pub record FitsWatch (game : Rules) (from : StartValue) (rows : List Row) (stop : ℕ) (w : Watch) : Type 0 where
  pub game_is : w.game ≡ game
  pub from_is : w.from ≡ from
  pub begins : Begins w.seen rows
  pub has_asked : w.asked ≡ true → stop ≡ 1

-- The first seat is the pen's, with the game, the start and these rows. Each other seat is a viewer's, also the view
-- that is with the pen; a spent seat knows nothing. No seat is blank.
abbrev pub Fits : Rules → StartValue → List Row → ℕ → ℕ → View → Type 0
Fits game from rows stop seat (Blank g) = ⊥
Fits game from rows stop seat (Alone g f r) = (seat ≡ 0) × (g ≡ game) × (f ≡ from) × (r ≡ rows)
Fits game from rows stop seat (Joined g f r w) = (seat ≡ 0) × (g ≡ game) × (f ≡ from) × (r ≡ rows) × FitsWatch game from rows stop w
Fits game from rows stop seat (Watching w) = FitsWatch game from rows stop w
Fits game from rows stop seat Spent = Unit

-- The invariant after the pen has published: the first word is that of the pen's game, start and rows, the second is 0
-- or 1, and each view fits these.
pub record Shows {S : Type 0} (s : State S View) : Type 0 where
  pub game : Rules
  pub from : StartValue
  pub rows : List Row
  pub stop : ℕ
  pub words : s.words ≡ word game (origin_from from) rows ∷ stop ∷ []
  pub stops : (stop ≡ 0) ⊎ (stop ≡ 1)
  pub fits : (seat : ℕ) (v : View) → get_elem? s.views seat ≡ some v → Fits game from rows stop seat v

-- before that there is one seat, and no viewer has asked
abbrev pub IsBlank : {S : Type 0} → State S View → Type 0
IsBlank {S} s = (game : Rules) × (first : ℕ) × (s.words ≡ first ∷ 0 ∷ []) × (s.views ≡ Blank game ∷ [])

abbrev pub Keeps : {S : Type 0} → State S View → Type 0
Keeps {S} s = IsBlank s ⊎ Shows s

-- ---- the steps: the view and the slots of a seat, before and after

-- the first store: the blank seat becomes the pen's
abbrev pub begin_view : StartValue → List Row → View → View
begin_view from rows (Blank game) = Alone game from rows
begin_view from rows (Alone game f old) = Alone game f old
begin_view from rows (Joined game f old w) = Joined game f old w
begin_view from rows (Watching w) = Watching w
begin_view from rows Spent = Spent

-- a store by the pen
abbrev pub publish_view : List Row → View → View
publish_view rows (Blank game) = Blank game
publish_view rows (Alone game from old) = Alone game from rows
publish_view rows (Joined game from old w) = Joined game from rows w
publish_view rows (Watching w) = Watching w
publish_view rows Spent = Spent

-- a new viewer is split off the pen alone
abbrev pub newcomer_of : View → View
newcomer_of (Blank game) = Spent
newcomer_of (Alone game from rows) = Watching (record { game = game; from = from; seen = rows; asked = false; loads = 0 })
newcomer_of (Joined game from rows w) = Spent
newcomer_of (Watching w) = Spent
newcomer_of Spent = Spent

-- the pen together with a viewer's view
abbrev pub join_views : View → View → View
join_views (Alone game from rows) (Watching w) = Joined game from rows w
join_views v w = v

-- the pen alone again
abbrev pub pen_of : View → View
pen_of (Joined game from rows w) = Alone game from rows
pen_of v = v

-- the viewer whose view was with the pen, after it has seen the pen's rows
abbrev pub viewer_of : View → View
viewer_of (Joined game from rows w) = Watching (record { game = game; from = from; seen = rows; asked = w.asked; loads = w.loads })
viewer_of v = Spent

-- a viewer asks for the end of the match
abbrev pub ask_view : View → View
ask_view (Watching w) = Watching (record { game = w.game; from = w.from; seen = w.seen; asked = true; loads = w.loads })
ask_view (Blank game) = Blank game
ask_view (Alone game from rows) = Alone game from rows
ask_view (Joined game from rows w) = Joined game from rows w
ask_view Spent = Spent

-- a viewer's look: one more load, and rows that begin with all that it saw and that have the word found
pub record LooksAs (w : Watch) (found : ℕ) (now : Watch) : Type 0 where
  pub same_game : now.game ≡ w.game
  pub same_from : now.from ≡ w.from
  pub begins : Begins w.seen now.seen
  pub finds : found ≡ word w.game (origin_from w.from) now.seen
  pub same_asked : now.asked ≡ w.asked
  pub one_more : now.loads ≡ w.loads + 1

-- what a look tells a viewer
abbrev pub TellsViewer : View → ℕ → Watch → Type 0
TellsViewer (Watching w) found now = LooksAs w found now
TellsViewer (Blank game) found now = Unit
TellsViewer (Alone game from rows) found now = Unit
TellsViewer (Joined game from rows w) found now = Unit
TellsViewer Spent found now = Unit

abbrev pub Looks : {S : Type 0} → Me S View → ℕ → Me S View → Type 0
Looks {S} before found after = (now : Watch) × (after ≡ (Watching now, before.1)) × TellsViewer before.0 found now

-- what a look tells the pen with a viewer: the viewer's rows begin its own, which have the word found
abbrev pub TellsPen : View → ℕ → Type 0
TellsPen (Joined game from rows w) found = (found ≡ word game (origin_from from) rows) × (w.game ≡ game) × (w.from ≡ from) × Begins w.seen rows
TellsPen (Blank game) found = Unit
TellsPen (Alone game from rows) found = Unit
TellsPen (Watching w) found = Unit
TellsPen Spent found = Unit

abbrev pub Compares : {S : Type 0} → Me S View → ℕ → Me S View → Type 0
Compares {S} before found after = (after ≡ before) × TellsPen before.0 found
