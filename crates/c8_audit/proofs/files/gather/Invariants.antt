-- Of the files so far none is at fault, and their journals, their mismatch and the empty ones are noted.
use Rattle.c8_audit.specs.checked.Roster.{IsSorted}
use Rattle.c8_audit.proofs.files.gather.Given as goal

-- what is gathered of the files so far
abbrev pub invariant-loop-place : goal.invariant-loop-place
invariant-loop-place l = IsSorted l.game l.files l.place l.gathered
