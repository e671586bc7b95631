-- After a noted sync a crash leaves the bytes held and nothing else, and the sync is one more moment.
use Rattle.std.proofs.Common.{List, length, sym, ◌∙◌, ap, subst}
use Rattle.c8_disk.specs.Disk.{Elapses}
use Rattle.c8_disk.specs.Past.{content, are_lawful, IsImage, LeftSince}
use Rattle.c8_disk.specs.declared.call.Call.{Call}
use Rattle.c8_disk.specs.declared.call.Call.TheVariants.{Sync}
use Rattle.c8_disk.proofs.Past.{elapses_push, content_sync, only_synced, sync_adds_none, lawful_sync}
use Rattle.c8_disk.proofs.file.held.Held.note_sync.Goals as goal

pub invariant_of-self-clause-lawful : goal.invariant_of-self-clause-lawful
invariant_of-self-clause-lawful c =
    let h = c.args.self.now in ap (are_lawful h.first.value.items) c.and-self.ensures ∙ lawful_sync h.first.value.items h.calls.items h.lawful

pub invariant_of-self-clause-replayed : goal.invariant_of-self-clause-replayed
invariant_of-self-clause-replayed c =
    let h = c.args.self.now in h.replayed ∙ sym (ap (content h.first.value.items) c.and-self.ensures ∙ content_sync h.first.value.items h.calls.items)

pub returns-clause-durable : goal.returns-clause-durable
returns-clause-durable c image left =
    let h = c.args.self.now in
    only_synced h.first.value.items h.calls.items image
    (subst (λ (l : List Call). IsImage h.first.value.items l image) c.and-self.ensures left) ∙ sym h.replayed

pub returns-clause-crash : goal.returns-clause-crash
returns-clause-crash c image left =
    let h = c.args.self.now in
    sync_adds_none h.first.value.items h.calls.items h.lawful image
    (subst (λ (l : List Call). IsImage h.first.value.items l image) c.and-self.ensures left)

pub returns-clause-time : goal.returns-clause-time
returns-clause-time c =
    let first = c.args.self.now.first.value.items in
    let calls = c.args.self.now.calls.items in
    subst (λ (l : List Call). Elapses (length calls) (length l) (LeftSince first calls) (LeftSince first l) (IsImage first l))
    (sym c.and-self.ensures) (elapses_push first calls Sync)
