-- A refused write is the only disk call; else the sync is the other, and gives the answer.
use Rattle.std.proofs.Common.{Ok, Err, refl}
use Rattle.std.proofs.lemmas.Result.{err_from_is_err_and}
use Rattle.c8_disk.specs.Asks.{Write, Sync}
use Rattle.c8_disk.specs.checked.AsksLaws.{asks_write, asks_sync, asks_then, asks_refused}
use Rattle.c8_log.proofs.write.write_and_sync.Goals as goal

pub returns-in_err-write_at-clause-asks : goal.returns-in_err-write_at-clause-asks
returns-in_err-write_at-clause-asks g c =
    let error = err_from_is_err_and c.from_residual.result c.from_residual.ensures.1 in
    let why = c.in_err-write_at.field-0.0 in
    rw (error.1, error.2)
    (asks_refused g.D.Disk (Write c.args.at c.args.bytes.now) Sync c.args.disk.now c.write_at.new.self why
    (asks_write g.D.Disk c.args.disk.now c.write_at.new.self c.args.at c.args.bytes.now c.write_at.result (Err why) c.in_err-write_at.was
    c.write_at.ensures.does))

pub returns-clause-asks : goal.returns-clause-asks
returns-clause-asks g c =
    asks_then g.D.Disk (Write c.args.at c.args.bytes.now) Sync c.args.disk.now c.write_at.new.self c.sync.new.self c.sync.result
    (asks_write g.D.Disk c.args.disk.now c.write_at.new.self c.args.at c.args.bytes.now c.write_at.result (Ok tt) c.in_ok-write_at.was
    c.write_at.ensures.does)
    (asks_sync g.D.Disk c.write_at.new.self c.sync.new.self c.sync.result c.sync.result refl c.sync.ensures.does)
