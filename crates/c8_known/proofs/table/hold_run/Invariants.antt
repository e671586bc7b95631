-- The held inputs with those left of the run are the old ones with the whole run, and no room is lost.
use Rattle.std.proofs.Common.{◌≡◌, ◌≤◌, ◌++◌, vec_capacity}
use Rattle.c8_wire.specs.Lent.{words, words_left}
use Rattle.c8_known.proofs.table.hold_run.Given as goal

-- the held inputs, and the rest of the run
abbrev pub invariant-loop-input : goal.invariant-loop-input
invariant-loop-input l = (l.inputs.items ++ words_left l.input-iterator ≡ l.fn.inputs.items ++ words l.fn.run)
    × (vec_capacity l.fn.inputs ≤ vec_capacity l.inputs)
