-- No pair is empty, so each one leaves fewer inputs to account for.
use Rattle.c8_pairs.proofs.run.+is_run_after.Given as goal

abbrev pub decreases-is_run_after : goal.decreases-is_run_after
decreases-is_run_after l = l.count
