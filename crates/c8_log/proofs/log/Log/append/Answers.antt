-- Without room no disk call is made, else those of `add`; after `Ok` the log is up and at rest.
use Rattle.std.proofs.Common.{◌+◌, ℕ, Ok, Err, false, rules, subst}
use Rattle.c8_log.specs.Log.{log_error}
use Rattle.c8_log.proofs.Repair.{rests}
use Rattle.std.proofs.lemmas.Result.{err_from_is_err_and}
use Rattle.c8_disk.specs.Asks.{Asks}
use Rattle.c8_disk.specs.checked.AsksLaws.{asks_as}
use Rattle.c8_log.specs.declared.error.LogError.TheVariants as errors
use Rattle.c8_log.specs.Asked.{Append, AppendWithin, told_by}
use Rattle.c8_log.proofs.Asked.{told_error, within, without}
use Rattle.c8_log.proofs.log.Log.append.Goals as goal

pub returns-clause-at_rest : goal.returns-clause-at_rest
returns-clause-at_rest g c =
    rests g.D.Disk (record { disk = c.add.new.disk; count = c.self.inside.count + 1; down = false }) c.in_ok-add.ensures.up

pub returns-then-not-has_room-clause-asks : goal.returns-then-not-has_room-clause-asks
returns-then-not-has_room-clause-asks g c up =
    subst (λ log. Asks g.D.Disk (AppendWithin (g.D.Disk.capacity log.disk) log.count c.args.body.now) (told_by {T = ℕ} (Err errors.Full))
    log.disk c.self.inside.disk) c.self.view_is
    (without g.D.Disk (g.D.Disk.capacity c.self.inside.disk) c.self.inside.count c.args.body.now c.self.inside.disk (search rules))

pub returns-in_err-add-clause-asks : goal.returns-in_err-add-clause-asks
returns-in_err-add-clause-asks g c up =
    let error = err_from_is_err_and c.from_residual.result c.from_residual.ensures.1 in
    let why = c.in_err-add.field-0.0 in
    let capacity = g.D.Disk.capacity c.self.inside.disk in
    rw (error.1, error.2)
    (subst (λ log. Asks g.D.Disk (AppendWithin (g.D.Disk.capacity log.disk) log.count c.args.body.now)
    (told_by {T = ℕ} (Err (log_error why))) log.disk c.add.new.disk) c.self.view_is
    (asks_as g.D.Disk (AppendWithin capacity c.self.inside.count c.args.body.now) c.self.inside.disk c.add.new.disk (Err why) _ (told_error ℕ why)
    (within g.D.Disk capacity c.self.inside.count c.args.body.now c.self.inside.disk c.add.new.disk (Err why) (search rules)
    (asks_as g.D.Disk (Append c.self.inside.count c.args.body.now) c.self.inside.disk c.add.new.disk c.add.result (Err why) c.in_err-add.was
    c.add.ensures.asks))))

pub returns-clause-asks : goal.returns-clause-asks
returns-clause-asks g c up =
    let capacity = g.D.Disk.capacity c.self.inside.disk in
    subst (λ log. Asks g.D.Disk (AppendWithin (g.D.Disk.capacity log.disk) log.count c.args.body.now) (Ok tt) log.disk c.add.new.disk) c.self.view_is
    (within g.D.Disk capacity c.self.inside.count c.args.body.now c.self.inside.disk c.add.new.disk (Ok tt) (search rules)
    (asks_as g.D.Disk (Append c.self.inside.count c.args.body.now) c.self.inside.disk c.add.new.disk c.add.result (Ok tt) c.in_ok-add.was
    c.add.ensures.asks))
