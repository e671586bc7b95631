-- The lines so far were written, and nothing was read from the keys.
use Rattle.std.specs.Prelude.{◌≡◌}
use Rattle.c8_play.proofs.below.write_lines.Given as goal

abbrev pub invariant-loop-line : goal.invariant-loop-line
invariant-loop-line g l = record { typed : g.C.Console.typed l.console ≡ g.C.Console.typed l.initial.console }
