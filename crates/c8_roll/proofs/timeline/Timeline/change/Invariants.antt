-- The rows of the snapshots before `place` are still the best guesses.
use Rattle.c8_roll.specs.checked.Timeline.{AreBest}
use Rattle.c8_roll.proofs.timeline.Timeline.change.Given as goal

abbrev pub invariant-loop-place : goal.invariant-loop-place
invariant-loop-place l = AreBest l.self l.known l.place
