-- A disk that was settled is a log at rest, and the disk calls of an opening are those of `settle`.
use Rattle.std.proofs.Common.{Ok, Err, false, sym, ap, ◌∙◌}
use Rattle.c8_log.proofs.Repair.{rests}
use Rattle.c8_disk.specs.Asks.{answer_of}
use Rattle.c8_disk.specs.checked.AsksLaws.{asks_as}
use Rattle.c8_log.specs.declared.error.LogError.{LogError}
use Rattle.c8_log.specs.Asked.{Opening, told_by}
use Rattle.c8_log.proofs.Asked.{told_error}
use Rattle.c8_log.proofs.log.Log.open.Goals as goal

pub returns-in-Ok-clause-at_rest : goal.returns-in-Ok-clause-at_rest
returns-in-Ok-clause-at_rest g c = rests g.D.Disk (record { disk = c.settle.new.disk; count = c.in-Ok.count; down = false }) c.in-Ok.ensures.up

pub returns-in-Ok-clause-asks : goal.returns-in-Ok-clause-asks
returns-in-Ok-clause-asks g c =
    asks_as g.D.Disk (Opening g.D.Disk.lends (g.D.Disk.seen c.args.disk)) c.args.disk c.settle.new.disk (answer_of c.settle.result) (Ok tt)
    (ap answer_of c.in-Ok.is) c.settle.ensures.asks

pub returns-in-Err-clause-asks : goal.returns-in-Err-clause-asks
returns-in-Err-clause-asks g c =
    asks_as g.D.Disk (Opening g.D.Disk.lends (g.D.Disk.seen c.args.disk)) c.args.disk c.settle.new.disk (answer_of c.settle.result)
    (told_by {T = Unit {0}} (Err c.from.result))
    (ap answer_of c.in-Err.is ∙ told_error (Unit {0}) c.in-Err.error
    ∙ ap (λ (e : LogError). told_by {T = Unit {0}} (Err e)) (sym c.from.ensures)) c.settle.ensures.asks
