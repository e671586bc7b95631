-- Without an input that was not entered the answer is yes.
use Rattle.c8_audit.specs.Read.{all_seen}
use Rattle.c8_audit.proofs.ShortLemmas.{yes_entered, first_entered}
use Rattle.c8_audit.proofs.verdict.entered.Goals as goal

pub returns-in-None : goal.returns-in-None
returns-in-None c =
    yes_entered c.requires.of_game.0 (all_seen c.args.journals.now) c.least_fault.result c.requires.of_game.1 c.least_fault.ensures c.in-None.is

pub accused-requires-clause-first : goal.accused-requires-clause-first
accused-requires-clause-first c =
    first_entered (all_seen c.args.journals.now) c.least_fault.result c.in-Some.first c.least_fault.ensures c.in-Some.is
