-- The lines of the names before this place are written, and the status is the worst of them.
use Rattle.std.proofs.Common.{length, take, ◌-◌, ◌≤◌}
use Rattle.c8_command.specs.declared.status.Status.TheVariants.{Done}
use Rattle.c8_judge.specs.Matches.{TellsLines}
use Rattle.c8_judge.proofs.matches.audit_all.Given as goal

abbrev pub invariant-loop-done : goal.invariant-loop-done
invariant-loop-done g l =
    (l.done ≤ length l.names) × TellsLines (take l.done l.names) Done (g.W.Write.contents l.initial.out) (g.W.Write.contents l.out) l.worst

-- the names that are left
abbrev pub decreases-loop-done : goal.decreases-loop-done
decreases-loop-done g l = length l.names - l.done
