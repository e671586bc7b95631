-- Players between whom no frame differs agree, whatever the rules of the game.
use Rattle.c8_audit.specs.Read.{all_seen}
use Rattle.c8_audit.proofs.ShortLemmas.{yes_agreed, a_difference}
use Rattle.c8_audit.proofs.verdict.agree.Goals as goal

pub returns-in-None : goal.returns-in-None
returns-in-None c = yes_agreed (all_seen c.args.journals.now) c.least_fault.result c.least_fault.ensures c.in-None.is

pub opposed-requires-clause-first : goal.opposed-requires-clause-first
opposed-requires-clause-first c =
    a_difference (all_seen c.args.journals.now) c.least_fault.result c.in-Some.first c.least_fault.ensures c.in-Some.is
