-- A no has the record that ends the last checkpoint; a yes has none.
use Rattle.std.proofs.Common.{Some, None}
use Rattle.c8_judge.proofs.JsonLemmas.{checks_by}
use Rattle.c8_judge.proofs.json.checks_of.Goals as goal

pub returns-in-Some-clause-answer : goal.returns-in-Some-clause-answer
returns-in-Some-clause-answer c =
    checks_by c.untrue_of.result c.args.journals.now c.args.untrue (Some c.in-Some.player) c.in-Some.is c.untrue_of.ensures.answer

pub returns-in-None-clause-answer : goal.returns-in-None-clause-answer
returns-in-None-clause-answer c = checks_by c.yes_of.result c.args.journals.now c.args.untrue None c.in-None.is c.yes_of.ensures.answer
