-- A noted write is whole in the bytes held and torn in each image that a crash may leave.
use Rattle.std.proofs.Common.{◌≤◌, List, ℕ, length, sym, ◌∙◌, ap, subst}
use Rattle.c8_disk.specs.Disk.{overwritten, Elapses}
use Rattle.c8_disk.specs.Past.{content, are_lawful, IsImage, LeftSince}
use Rattle.c8_disk.specs.declared.call.Call.{Call}
use Rattle.c8_disk.proofs.Past.{elapses_push, content_write, tears_write, lawful_write}
use Rattle.c8_disk.proofs.file.held.Held.note_write.Goals as goal

pub invariant_of-self-clause-lawful : goal.invariant_of-self-clause-lawful
invariant_of-self-clause-lawful c =
    let h = c.args.self.now in
    let within : c.args.at ≤ length (content h.first.value.items h.calls.items) =
    subst (λ (l : List ℕ). c.args.at ≤ length l) h.replayed c.requires.place in
    ap (are_lawful h.first.value.items) c.and-self.ensures
    ∙ lawful_write h.first.value.items h.calls.items c.args.at c.args.bytes.now c.write_call.result c.write_call.ensures h.lawful within

pub invariant_of-self-clause-replayed : goal.invariant_of-self-clause-replayed
invariant_of-self-clause-replayed c =
    let h = c.args.self.now in
    c.overwrite.ensures.written ∙ ap (λ (l : List ℕ). overwritten l c.args.at c.args.bytes.now) h.replayed
    ∙ sym (ap (content h.first.value.items) c.and-self.ensures
    ∙ content_write h.first.value.items h.calls.items c.args.at c.args.bytes.now c.write_call.result c.write_call.ensures)

pub returns-clause-crash : goal.returns-clause-crash
returns-clause-crash c image left =
    let h = c.args.self.now in
    tears_write h.first.value.items h.calls.items c.args.at c.args.bytes.now c.write_call.result c.write_call.ensures image
    (subst (λ (l : List Call). IsImage h.first.value.items l image) c.and-self.ensures left)

pub returns-clause-time : goal.returns-clause-time
returns-clause-time c =
    let first = c.args.self.now.first.value.items in
    let calls = c.args.self.now.calls.items in
    subst (λ (l : List Call). Elapses (length calls) (length l) (LeftSince first calls) (LeftSince first l) (IsImage first l))
    (sym c.and-self.ensures) (elapses_push first calls c.write_call.result)
