-- What is on the screen is the serial run of as many rows as its frame says, and no more than are to be shown.
use Rattle.std.proofs.Common.{◌≤◌}
use Rattle.c8_known.specs.Confirmed.{rows_below}
use Rattle.c8_replay.specs.Replay.{IsRunOfRows}
use Rattle.c8_replay.proofs.screening.screen_rows.Given as goal

-- what is shown is the run of some of the rows
abbrev pub invariant-loop : goal.invariant-loop
invariant-loop g l = record {
  run : IsRunOfRows l.game (rows_below l.known l.at.frames) l.at;
  within : l.at.frames ≤ l.frames;
}
