-- The instructions so far went on, one after another from the state at the beginning.
use Rattle.std.proofs.Common.{replicate}
use Rattle.c8_machine.specs.declared.machine.Step.TheVariants.{Went}
use Rattle.c8_machine.specs.State.{state}
use Rattle.c8_machine.specs.Frames.{IsChain}
use Rattle.c8_machine.proofs.machine.Machine.run.Given as goal

abbrev pub invariant-loop-turn : goal.invariant-loop-turn
invariant-loop-turn l = IsChain l.game l.keys.0 (state l.initial.self) (replicate l._turn Went) (state l.self)
