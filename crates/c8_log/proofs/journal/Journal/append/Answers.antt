-- A refused body is pending: each image keeps the journal's bodies, with it after them or without.
use Rattle.std.proofs.Common.{length, Ok, Err, refl, ap, rules}
use Rattle.c8_log.proofs.Refused.{leaves, value_is, is_journal}
use Rattle.c8_disk.specs.checked.AsksLaws.{asks_as}
use Rattle.c8_log.specs.Asked.{AppendWithin, told_by}
use Rattle.c8_log.proofs.Asked.{of_journal}
use Rattle.c8_log.proofs.journal.Journal.append.Goals as goal

pub invariant_of-self-2 : goal.invariant_of-self-2
invariant_of-self-2 g c =
    is_journal g.D.Disk g.met.D.Disk.reads_now g.met.D.Disk.counts_now c.args.self.now c.self.inside.log c.append.new.self
    c.self.inside.refused.items c.and-self-inside.result.items c.args.body.now
    c.self.invariant c.self.view_is c.requires (search rules) (search rules) c.append.ensures.any_moment

pub returns-clause-err : goal.returns-clause-err
returns-clause-err g c =
    value_is g.D.Disk g.met.D.Disk.reads_now g.met.D.Disk.counts_now c.args.self.now c.self.inside.log c.append.new.self
    c.self.inside.refused.items c.and-self-inside.result.items c.args.body.now
    c.self.invariant c.self.view_is c.requires (search rules) (search rules) c.append.ensures.any_moment

pub returns-clause-any_moment : goal.returns-clause-any_moment
returns-clause-any_moment g c =
    leaves g.D.Disk g.met.D.Disk.reads_now g.met.D.Disk.counts_now c.args.self.now c.self.inside.log c.append.new.self
    c.self.inside.refused.items c.and-self-inside.result.items c.args.body.now
    c.self.invariant c.self.view_is c.requires (search rules) (search rules) c.append.ensures.any_moment

pub returns-in-Ok-clause-asks : goal.returns-in-Ok-clause-asks
returns-in-Ok-clause-asks g c =
    let journal = c.args.self.now in
    of_journal g.D.Disk (g.D.Disk.capacity journal.disk) (length journal.bodies) c.args.body.now journal c.self.inside.log
    c.self.inside.refused.items c.append.new.self.disk (Ok tt) c.self.invariant c.self.view_is c.requires refl refl
    (λ up. asks_as g.D.Disk (AppendWithin (g.D.Disk.capacity c.self.inside.log.disk) c.self.inside.log.count c.args.body.now)
    c.self.inside.log.disk c.append.new.self.disk (told_by c.append.result) (Ok tt) (ap told_by c.in-Ok.is) (c.append.ensures.asks up))

pub returns-clause-asks : goal.returns-clause-asks
returns-clause-asks g c =
    let journal = c.args.self.now in
    of_journal g.D.Disk (g.D.Disk.capacity journal.disk) (length journal.bodies) c.args.body.now journal c.self.inside.log
    c.self.inside.refused.items c.append.new.self.disk (Err c.match-this.error) c.self.invariant c.self.view_is c.requires refl refl
    (λ up. asks_as g.D.Disk (AppendWithin (g.D.Disk.capacity c.self.inside.log.disk) c.self.inside.log.count c.args.body.now)
    c.self.inside.log.disk c.append.new.self.disk (told_by c.append.result) (Err c.match-this.error) (search rules) (c.append.ensures.asks up))
