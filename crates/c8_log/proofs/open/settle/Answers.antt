-- After the sync the disk has one image, so the search and the repair leave no bodies that are new.
use Rattle.std.proofs.Common.{◌∙◌, ℕ, List, Ok, Err, ap, subst, arith}
use Rattle.c8_log.specs.Log.{has_closed_gate}
use Rattle.c8_log.proofs.Disks.{settles}
use Rattle.std.proofs.lemmas.Result.{err_from_is_err_and}
use Rattle.c8_disk.specs.Asks.{answer_of, Sync, Reads, Then, Asks}
use Rattle.c8_disk.specs.checked.AsksLaws.{asks_sync, asks_as, asks_then, asks_refused}
use Rattle.c8_log.specs.Asked.{Repair, end_reads}
use Rattle.c8_log.proofs.open.settle.Goals as goal

pub returns-clause-no_repair : goal.returns-clause-no_repair
returns-clause-no_repair g c gate =
    let closed = c.in_ok-end.ensures.closed ∙ ap has_closed_gate c.sync.ensures.seen ∙ gate in
    omega (arith, c.repair.ensures.no_repair closed, c.find_end.ensures.reads.changes, c.sync.ensures.changes)

pub returns-in_err-repair-clause-no_repair : goal.returns-in_err-repair-clause-no_repair
returns-in_err-repair-clause-no_repair g c gate =
    let closed = c.in_ok-end.ensures.closed ∙ ap has_closed_gate c.sync.ensures.seen ∙ gate in
    omega (arith, c.repair.ensures.no_repair closed, c.find_end.ensures.reads.changes, c.sync.ensures.changes)

pub returns-in_err-repair-clause-any_moment : goal.returns-in_err-repair-clause-any_moment
returns-in_err-repair-clause-any_moment g c =
    let sync = c.sync.ensures in
    settles g.D.Disk g.met.D.Disk.only_now g.met.D.Disk.reads_now c.args.disk.now c.sync.new.self c.find_end.new.disk c.repair.new.disk
    sync.seen sync.crash sync.time c.find_end.ensures.reads
    c.repair.ensures.any_moment

pub returns-clause-any_moment : goal.returns-clause-any_moment
returns-clause-any_moment g c =
    let sync = c.sync.ensures in
    settles g.D.Disk g.met.D.Disk.only_now g.met.D.Disk.reads_now c.args.disk.now c.sync.new.self c.find_end.new.disk c.repair.new.disk
    sync.seen sync.crash sync.time c.find_end.ensures.reads
    c.repair.ensures.any_moment

pub returns-in_err-sync-clause-asks : goal.returns-in_err-sync-clause-asks
returns-in_err-sync-clause-asks g c =
    let error = err_from_is_err_and c.from_residual.result c.from_residual.ensures.1 in
    let image = g.D.Disk.seen c.args.disk.now in
    let why = c.in_err-sync.field-0.0 in
    rw (error.1, error.2)
    (asks_refused g.D.Disk Sync (Then (Reads (end_reads g.D.Disk.lends image)) (Repair image)) c.args.disk.now c.sync.new.self why
    (asks_sync g.D.Disk c.args.disk.now c.sync.new.self c.sync.result (Err why) c.in_err-sync.was c.sync.ensures.does))

pub returns-in_err-end-clause-asks : goal.returns-in_err-end-clause-asks
returns-in_err-end-clause-asks g c =
    let error = err_from_is_err_and c.from_residual-in_err-end.result c.from_residual-in_err-end.ensures.1 in
    let image = g.D.Disk.seen c.args.disk.now in
    let why = c.in_err-end.field-0.0 in
    let synced = asks_sync g.D.Disk c.args.disk.now c.sync.new.self c.sync.result (Ok tt) c.in_ok-sync.was c.sync.ensures.does in
    let read = subst (λ (l : List ℕ). Asks g.D.Disk (Reads (end_reads g.D.Disk.lends l)) (answer_of c.find_end.result) c.sync.new.self
    c.find_end.new.disk) c.sync.ensures.seen c.find_end.ensures.asks in
    rw (error.1, error.2)
    (asks_then g.D.Disk Sync (Then (Reads (end_reads g.D.Disk.lends image)) (Repair image)) c.args.disk.now c.sync.new.self
    c.find_end.new.disk (Err why) synced
    (asks_refused g.D.Disk (Reads (end_reads g.D.Disk.lends image)) (Repair image) c.sync.new.self c.find_end.new.disk why
    (asks_as g.D.Disk (Reads (end_reads g.D.Disk.lends image)) c.sync.new.self c.find_end.new.disk (answer_of c.find_end.result) (Err why)
    (ap answer_of c.in_err-end.was) read)))

pub returns-in_err-repair-clause-asks : goal.returns-in_err-repair-clause-asks
returns-in_err-repair-clause-asks g c =
    let error = err_from_is_err_and c.from_residual-in_err-repair.result c.from_residual-in_err-repair.ensures.1 in
    let image = g.D.Disk.seen c.args.disk.now in
    let why = c.in_err-repair.field-0.0 in
    let synced = asks_sync g.D.Disk c.args.disk.now c.sync.new.self c.sync.result (Ok tt) c.in_ok-sync.was c.sync.ensures.does in
    let read = subst (λ (l : List ℕ). Asks g.D.Disk (Reads (end_reads g.D.Disk.lends l)) (answer_of c.find_end.result) c.sync.new.self
    c.find_end.new.disk) c.sync.ensures.seen c.find_end.ensures.asks in
    let repaired = subst (λ (l : List ℕ). Asks g.D.Disk (Repair l) c.repair.result c.find_end.new.disk c.repair.new.disk)
    (c.find_end.ensures.reads.seen ∙ c.sync.ensures.seen) c.repair.ensures.asks in
    rw (error.1, error.2)
    (asks_then g.D.Disk Sync (Then (Reads (end_reads g.D.Disk.lends image)) (Repair image)) c.args.disk.now c.sync.new.self
    c.repair.new.disk (Err why) synced
    (asks_then g.D.Disk (Reads (end_reads g.D.Disk.lends image)) (Repair image) c.sync.new.self c.find_end.new.disk c.repair.new.disk (Err why)
    (asks_as g.D.Disk (Reads (end_reads g.D.Disk.lends image)) c.sync.new.self c.find_end.new.disk (answer_of c.find_end.result) (Ok tt)
    (ap answer_of c.in_ok-end.was) read)
    (asks_as g.D.Disk (Repair image) c.find_end.new.disk c.repair.new.disk c.repair.result (Err why) c.in_err-repair.was repaired)))

pub returns-clause-asks : goal.returns-clause-asks
returns-clause-asks g c =
    let image = g.D.Disk.seen c.args.disk.now in
    let synced = asks_sync g.D.Disk c.args.disk.now c.sync.new.self c.sync.result (Ok tt) c.in_ok-sync.was c.sync.ensures.does in
    let read = subst (λ (l : List ℕ). Asks g.D.Disk (Reads (end_reads g.D.Disk.lends l)) (answer_of c.find_end.result) c.sync.new.self
    c.find_end.new.disk) c.sync.ensures.seen c.find_end.ensures.asks in
    let repaired = subst (λ (l : List ℕ). Asks g.D.Disk (Repair l) c.repair.result c.find_end.new.disk c.repair.new.disk)
    (c.find_end.ensures.reads.seen ∙ c.sync.ensures.seen) c.repair.ensures.asks in
    asks_then g.D.Disk Sync (Then (Reads (end_reads g.D.Disk.lends image)) (Repair image)) c.args.disk.now c.sync.new.self c.repair.new.disk
    (Ok tt) synced
    (asks_then g.D.Disk (Reads (end_reads g.D.Disk.lends image)) (Repair image) c.sync.new.self c.find_end.new.disk c.repair.new.disk (Ok tt)
    (asks_as g.D.Disk (Reads (end_reads g.D.Disk.lends image)) c.sync.new.self c.find_end.new.disk (answer_of c.find_end.result) (Ok tt)
    (ap answer_of c.in_ok-end.was) read)
    (asks_as g.D.Disk (Repair image) c.find_end.new.disk c.repair.new.disk c.repair.result (Ok tt) c.in_ok-repair.was repaired))
