-- The lines of the journals before this player's were only added.
use Rattle.c8_texts.specs.Report.{Grows}
use Rattle.c8_audit.proofs.report.write_players.Given as goal

-- some text was added so far
abbrev pub invariant-loop-number : goal.invariant-loop-number
invariant-loop-number g l = Grows (g.W.Write.contents l.initial.out) (g.W.Write.contents l.out)
