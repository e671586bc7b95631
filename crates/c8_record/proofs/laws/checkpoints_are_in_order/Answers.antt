-- Each checkpoint of a journal, and where its peer's machine begins, is at a confirmed frame and can occur.
use Rattle.c8_record.specs.checked.CheckLaws.{checks_in_order, begun_confirmed, begun_in_order}
use Rattle.c8_record.proofs.laws.checkpoints_are_in_order.Goals as goal

pub returns-clause-checks : goal.returns-clause-checks
returns-clause-checks c = checks_in_order

pub returns-clause-begun : goal.returns-clause-begun
returns-clause-begun c = begun_confirmed

pub returns-clause-origin : goal.returns-clause-origin
returns-clause-origin c = begun_in_order
