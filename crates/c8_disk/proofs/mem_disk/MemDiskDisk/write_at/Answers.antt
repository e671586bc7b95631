-- A served write is one more call, whole for reads and torn for crashes; a full disk writes nothing.
use Rattle.std.proofs.Common.{rules, ◌≤◌, List, ℕ, length, sym, ◌∙◌, ap, subst, arith, length-append}
use Rattle.c8_disk.specs.Disk.{overwritten, Elapses}
use Rattle.c8_disk.specs.Past.{content, are_lawful, fit, IsImage, LeftSince}
use Rattle.c8_disk.specs.declared.call.Call.{Call}
use Rattle.c8_disk.proofs.Past.{elapses_push, content_write, tears_write, lawful_write, fit_write}
use Rattle.c8_disk.proofs.mem_disk.MemDiskDisk.write_at.Goals as goal

pub invariant_of-self-2-clause-lawful : goal.invariant_of-self-2-clause-lawful
invariant_of-self-2-clause-lawful c =
    let d = c.args.self.now in
    let within : c.args.at ≤ length (content d.first.items d.calls.items) =
    subst (λ (l : List ℕ). c.args.at ≤ length l) d.replayed c.requires.place in
    ap (are_lawful d.first.items) c.note.ensures.items
    ∙ lawful_write d.first.items d.calls.items c.args.at c.args.bytes.now c.write_call.result c.write_call.ensures d.lawful within

pub invariant_of-self-2-clause-replayed : goal.invariant_of-self-2-clause-replayed
invariant_of-self-2-clause-replayed c =
    let d = c.args.self.now in
    c.overwrite.ensures.written ∙ ap (λ (l : List ℕ). overwritten l c.args.at c.args.bytes.now) d.replayed
    ∙ sym (ap (content d.first.items) c.note.ensures.items
    ∙ content_write d.first.items d.calls.items c.args.at c.args.bytes.now c.write_call.result c.write_call.ensures)

pub invariant_of-self-2-clause-fitting : goal.invariant_of-self-2-clause-fitting
invariant_of-self-2-clause-fitting c =
    let d = c.args.self.now in
    ap (fit d.room) c.note.ensures.items ∙ fit_write d.first.items d.calls.items c.args.at c.args.bytes.now c.write_call.result
    c.write_call.ensures d.room d.fitting c.requires.short (omega arith)

pub returns-clause-crash : goal.returns-clause-crash
returns-clause-crash c image left =
    let d = c.args.self.now in
    tears_write d.first.items d.calls.items c.args.at c.args.bytes.now c.write_call.result c.write_call.ensures image
    (subst (λ (l : List Call). IsImage d.first.items l image) c.note.ensures.items left)

pub returns-clause-time : goal.returns-clause-time
returns-clause-time c =
    let d = c.args.self.now in
    let first = d.first.items in
    let calls = d.calls.items in
    subst (λ (l : List Call). Elapses (length calls) (length l) (LeftSince first calls) (LeftSince first l) (IsImage first l))
    (sym c.note.ensures.items) (elapses_push first calls c.write_call.result)

pub returns-then-bytes-self-clause-full : goal.returns-then-bytes-self-clause-full
returns-then-bytes-self-clause-full c = search rules

pub invariant_of-self-then-bytes-self : goal.invariant_of-self-then-bytes-self
invariant_of-self-then-bytes-self c = search rules

pub returns-then-bytes-self-clause-crash : goal.returns-then-bytes-self-clause-crash
returns-then-bytes-self-clause-crash c = search rules

pub returns-then-bytes-self-clause-time : goal.returns-then-bytes-self-clause-time
returns-then-bytes-self-clause-time c = search rules

pub returns-then-bytes-self-clause-value : goal.returns-then-bytes-self-clause-value
returns-then-bytes-self-clause-value c = rw (c.refuses.ensures.no c.if-refuses.false, c.and-self.ensures) (search (rules, length-append))
