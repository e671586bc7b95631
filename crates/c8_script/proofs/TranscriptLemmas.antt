-- How much of a match was run.
use Rattle.std.proofs.Common.{◌≡◌, inl, inr, ℕ, List, [], ◌∷◌, refl, sym, subst}
use Rattle.std.proofs.lemmas.List.{append-nil}
use Rattle.c8_game.specs.Rules.{Rules}
use Rattle.c8_world.specs.declared.answer.Answer.{Answer}
use Rattle.c8_world.specs.declared.event.Event.{Event}
use Rattle.c8_world.specs.World.{World, start}
use Rattle.c8_world.specs.Run.{RunsWithMemory, HasRun, HasRunOut}
use Rattle.c8_world.specs.Table.{TableValue}
use Rattle.c8_world.specs.Turns.{AreTurns, AreFirstTurns}
use Rattle.c8_script.specs.Sim.{IsBegun, IsNewWorld}
use Rattle.c8_script.specs.declared.transcript.TheConstants.{ROOM}

-- nothing was run
pub begun_none : (rules : Rules) (events : List Event) (answers : List Answer) → answers ≡ [] → IsBegun rules events answers
begun_none rules events answers none = record {
  before = [];
  after = events;
  at = refl;
  world = start rules;
  runs = subst (λ (told : List Answer). RunsWithMemory rules ROOM (start rules) [] told (start rules)) (sym none) refl;
  turned = inl none;
}

-- a run in the room of a new world
new_runs : (rules : Rules) (made : TableValue) (events : List Event) (answers : List Answer) (world : World) → IsNewWorld rules made
    → RunsWithMemory made.rules made.room (start rules) events answers world → RunsWithMemory rules ROOM (start rules) events answers world
new_runs rules made events answers world is_new runs =
    subst (λ (room : ℕ). RunsWithMemory rules room (start rules) events answers world) is_new.room_is
    (subst (λ (r : Rules). RunsWithMemory r made.room (start rules) events answers world) is_new.rules_are runs)

-- memory ran out at an event
pub begun_out : (rules : Rules) (made left : TableValue) (events : List Event) (answers : List Answer) → IsNewWorld rules made
    → HasRunOut made (start rules) events answers left
    → AreFirstTurns events answers made left → IsBegun rules events answers
begun_out rules made left events answers is_new out first = record {
  before = out.before;
  after = out.event ∷ out.after;
  at = out.at;
  world = out.then;
  runs = new_runs rules made out.before answers out.then is_new out.runs;
  turned = inr (record {
    before = first.before;
    after = first.after;
    at = first.at;
    made = made;
    is_new = is_new;
    left = first.mid;
    turns = first.turns;
  });
}

-- all events were run
pub begun_all : (rules : Rules) (made left : TableValue) (events : List Event) (answers : List Answer) → IsNewWorld rules made
    → HasRun made (start rules) events answers left
    → AreTurns events answers made left → IsBegun rules events answers
begun_all rules made left events answers is_new run turns = record {
  before = events;
  after = [];
  at = sym (append-nil events);
  world = run.world;
  runs = new_runs rules made events answers run.world is_new run.runs;
  turned = inr (record { before = events; after = []; at = sym (append-nil events); made = made; is_new = is_new; left = left; turns = turns });
}
