-- The events so far have been run, with these answers, and lead to the world that the table holds now.
use Rattle.std.proofs.Common.{◌≡◌, ◌≤◌, ◌++◌, length, take}
use Rattle.std.specs.Prelude.{vec_len, vec_capacity}
use Rattle.c8_world.specs.World.{World}
use Rattle.c8_world.specs.Table.{IsSameMatch, Holds}
use Rattle.c8_world.specs.Run.{HasRun}
use Rattle.c8_world.specs.Disks.{AreArmed, arms_in}
use Rattle.c8_world.specs.Turns.{AreTurns}
use Rattle.c8_world.proofs.world.World.run_all.Given as goal

-- the events so far have been run
abbrev pub invariant-loop-event : goal.invariant-loop-event
invariant-loop-event l = record {
  same : IsSameMatch l.initial.self.table l.self.table;
  disks : AreArmed (arms_in (take l.event-index l.events)) l.initial.self.table l.self.table;
  turns : AreTurns (take l.event-index l.events) l.answers.items l.initial.self.table l.self.table;
  ran : (w : World) → Holds l.initial.self.table w → HasRun l.initial.self.table w (take l.event-index l.events) l.answers.items l.self.table;
  events : l.self.events ≡ l.initial.self.events ++ take l.event-index l.events;
  answers : l.self.answers ≡ l.initial.self.answers ++ l.answers.items;
  count : vec_len l.answers ≡ l.event-index;
  room : length l.events ≤ vec_capacity l.answers;
}
