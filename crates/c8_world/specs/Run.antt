-- Runs of real peers, and their moments.
use Rattle.std.specs.Prelude.{◌≡◌, ◌≢◌, ◌⊎◌, ℕ, List, [], ◌∷◌, ◌++◌, Err}
use Rattle.c8_game.specs.Rules.{Rules}
use Rattle.c8_game.specs.declared.row.Player.{Player}
use Rattle.c8_refusals.specs.declared.error.OpenError.TheVariants as opens
use Rattle.c8_world.specs.declared.answer.Answer as codes
use Rattle.c8_world.specs.declared.answer.Answer.TheVariants as answers
use Rattle.c8_world.specs.declared.event.Act.TheVariants as acts
use Rattle.c8_world.specs.declared.event.Event.TheVariants as happenings
use Rattle.c8_world.specs.declared.error.RunError.{RunError}
use Rattle.c8_world.specs.declared.error.RunError.TheVariants as errors
use Rattle.c8_world.specs.declared.event.Event as asked
use Rattle.c8_world.specs.World.{World, start, Open, player_of, act_inside, Happening, Answer, CanHappen}
use Rattle.c8_world.specs.Events.{event_of}
use Rattle.c8_world.specs.Table.{TableValue, Holds, reported, HadMemory, TakesMemory, IsLeftBy}

-- Events that lead from one world to another. Each can happen with property P, and has this reported answer.
abbrev pub RunsBy : (Happening → Type 0) → Rules → ℕ → World → List asked.Event → List codes.Answer → World → Type 0
RunsBy P rules room w [] [] v = v ≡ w
RunsBy P rules room w [] (answer ∷ answers) v = ⊥
RunsBy P rules room w (event ∷ events) [] v = ⊥
RunsBy P rules room w (event ∷ events) (answer ∷ answers) v =
    (told : Answer) × (u : World) × (can : CanHappen rules room w (event_of event) told u) × P can.happening
    × (answer ≡ reported rules (player_of (act_inside (event_of event))) u told)
    × RunsBy P rules room u events answers v

-- the same without a property
abbrev pub Runs : Rules → ℕ → World → List asked.Event → List codes.Answer → World → Type 0
Runs = RunsBy (λ h. Unit {0})

-- the same if memory was there for all events
abbrev pub RunsWithMemory : Rules → ℕ → World → List asked.Event → List codes.Answer → World → Type 0
RunsWithMemory = RunsBy HadMemory

-- ---- a world of real peers

-- what its nodes and its pool hold, and the events of its life with their answers; among them each opening that ended a
-- run because memory was refused
pub record WorldValue : Type 0 where
  pub table : TableValue
  pub events : List asked.Event
  pub answers : List codes.Answer

-- The events of the world's life lead to what its table holds.
pub record IsLived (w : WorldValue) : Type 0 where
  pub now : World
  pub runs : Runs w.table.rules w.table.room (start w.table.rules) w.events w.answers now
  pub holds : Holds w.table now

-- Events have been run, from the world that a table held to the one that it holds now.
pub record HasRun (old : TableValue) (w : World) (events : List asked.Event) (answers : List codes.Answer) (new : TableValue) : Type 0 where
  pub world : World
  pub runs : RunsWithMemory old.rules old.room w events answers world
  pub holds : Holds new world

-- Memory was refused, for the report before all events, or at an event that takes memory. The events before it have
-- been run, and it has not happened.
pub record HasRunOut (old : TableValue) (w : World) (events : List asked.Event) (answers : List codes.Answer) (new : TableValue) : Type 0 where
  pub before : List asked.Event
  pub event : asked.Event
  pub after : List asked.Event
  pub at : events ≡ before ++ event ∷ after
  pub takes : (before ≡ []) ⊎ TakesMemory (act_inside (event_of event))
  pub then : World
  pub runs : RunsWithMemory old.rules old.room w before answers then
  pub now : World
  pub left : IsLeftBy (act_inside (event_of event)) then now
  pub holds : Holds new now

-- What an event adds to a life if memory was refused at it. An opening adds an opening that was answered with Memory,
-- any other act adds nothing.
abbrev pub IsAdded : asked.Event → List asked.Event → List codes.Answer → Type 0
IsAdded event more told =
    (((p : ℕ) → act_inside (event_of event) ≢ Open p) × (more ≡ []) × (told ≡ []))
    ⊎ ((player : Player) × (act_inside (event_of event) ≡ Open player.number) × (more ≡ happenings.Do (acts.Open player) ∷ [])
    × (told ≡ answers.Opened (Err opens.Memory) ∷ []))

-- Memory was refused at an event of a life.
pub record IsRefusedMemory (event : asked.Event) (old new : WorldValue) : Type 0 where
  pub more : List asked.Event
  pub told : List codes.Answer
  pub added : IsAdded event more told
  pub events_are : new.events ≡ old.events ++ more
  pub answers_are : new.answers ≡ old.answers ++ told

-- What a run that ran out of memory adds to a life. If memory was refused for the report, it adds nothing. Otherwise it
-- adds the events before the one at which memory was refused, and what that one adds.
pub record HasLivedOn (old : WorldValue) (events : List asked.Event) (told : List codes.Answer) (new : WorldValue) : Type 0 where
  pub before : List asked.Event
  pub after : List asked.Event
  pub at : events ≡ before ++ after
  pub more : List asked.Event
  pub told_more : List codes.Answer
  pub refused : ((before ≡ []) × (more ≡ []) × (told_more ≡ []))
      ⊎ ((event : asked.Event) × (rest : List asked.Event) × (after ≡ event ∷ rest) × IsAdded event more told_more)
  pub events_are : new.events ≡ old.events ++ before ++ more
  pub answers_are : new.answers ≡ old.answers ++ told ++ told_more

-- ---- two moments

-- Two moments of a world's life: some of its events lead to the earlier one, more of them to the later one, and the
-- rest to the present.
pub record AreMoments (w : WorldValue) (earlier later : World) : Type 0 where
  pub first : List asked.Event
  pub between : List asked.Event
  pub last : List asked.Event
  pub told_first : List codes.Answer
  pub told_between : List codes.Answer
  pub told_last : List codes.Answer
  pub events_are : w.events ≡ first ++ between ++ last
  pub answers_are : w.answers ≡ told_first ++ told_between ++ told_last
  pub to_earlier : Runs w.table.rules w.table.room (start w.table.rules) first told_first earlier
  pub to_later : Runs w.table.rules w.table.room earlier between told_between later
  pub now : World
  pub to_now : Runs w.table.rules w.table.room later last told_last now
  pub holds : Holds w.table now

-- the answers that a run gave before it ran out of memory
abbrev pub answers_before : RunError → List codes.Answer
answers_before (errors.Memory report) = report.answers.items
