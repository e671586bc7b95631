-- A served sync is one more call, after which a crash leaves what a read gives.
use Rattle.std.proofs.Common.{List, length, sym, ◌∙◌, ap, subst}
use Rattle.c8_disk.specs.Disk.{Elapses}
use Rattle.c8_disk.specs.Past.{content, are_lawful, fit, IsImage, LeftSince}
use Rattle.c8_disk.specs.declared.call.Call.{Call}
use Rattle.c8_disk.specs.declared.call.Call.TheVariants.{Sync}
use Rattle.c8_disk.proofs.Past.{elapses_push, content_sync, only_synced, sync_adds_none, lawful_sync, fit_sync}
use Rattle.c8_disk.proofs.mem_disk.MemDiskDisk.sync.Goals as goal

pub invariant_of-self-2-clause-lawful : goal.invariant_of-self-2-clause-lawful
invariant_of-self-2-clause-lawful c =
    let d = c.args.self.now in ap (are_lawful d.first.items) c.note.ensures.items ∙ lawful_sync d.first.items d.calls.items d.lawful

pub invariant_of-self-2-clause-replayed : goal.invariant_of-self-2-clause-replayed
invariant_of-self-2-clause-replayed c =
    let d = c.args.self.now in d.replayed ∙ sym (ap (content d.first.items) c.note.ensures.items ∙ content_sync d.first.items d.calls.items)

pub invariant_of-self-2-clause-fitting : goal.invariant_of-self-2-clause-fitting
invariant_of-self-2-clause-fitting c =
    let d = c.args.self.now in ap (fit d.room) c.note.ensures.items ∙ fit_sync d.first.items d.calls.items d.room d.fitting

pub returns-clause-durable : goal.returns-clause-durable
returns-clause-durable c image left =
    let d = c.args.self.now in
    only_synced d.first.items d.calls.items image (subst (λ (l : List Call). IsImage d.first.items l image) c.note.ensures.items left)
    ∙ sym d.replayed

pub returns-clause-crash : goal.returns-clause-crash
returns-clause-crash c image left =
    let d = c.args.self.now in
    sync_adds_none d.first.items d.calls.items d.lawful image (subst (λ (l : List Call). IsImage d.first.items l image) c.note.ensures.items left)

pub returns-clause-time : goal.returns-clause-time
returns-clause-time c =
    let d = c.args.self.now in
    let first = d.first.items in
    let calls = d.calls.items in
    subst (λ (l : List Call). Elapses (length calls) (length l) (LeftSince first calls) (LeftSince first l) (IsImage first l))
    (sym c.note.ensures.items) (elapses_push first calls Sync)
