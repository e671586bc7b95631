-- A crash leaves an image that the calls allow, one between two syncs, and the disk has room for it.
use Rattle.std.proofs.Common.{rules, vec_capacity, List, ◌∙◌, ap, subst}
use Rattle.c8_disk.specs.Past.{fit, IsImage}
use Rattle.c8_disk.specs.declared.call.Call.{Call}
use Rattle.c8_disk.proofs.Calls.{fit_more}
use Rattle.c8_disk.specs.checked.AtOnceLaws.{between}
use Rattle.c8_disk.proofs.mem_disk.MemDisk.crash.Goals as goal

pub leave_image-requires-clause-fits_first : goal.leave_image-requires-clause-fits_first
leave_image-requires-clause-fits_first c =
    let d = c.args.self in ap (fit (vec_capacity d.first)) c.deref.ensures.value
    ∙ fit_more d.room (vec_capacity d.first) d.calls.items d.first_room d.fitting

pub leave_image-requires-clause-fits_bytes : goal.leave_image-requires-clause-fits_bytes
leave_image-requires-clause-fits_bytes c =
    let d = c.args.self in ap (fit (vec_capacity d.bytes)) c.deref.ensures.value
    ∙ fit_more d.room (vec_capacity d.bytes) d.calls.items d.bytes_room d.fitting

pub returns-clause-between_syncs : goal.returns-clause-between_syncs
returns-clause-between_syncs c =
    let d = c.args.self in
    let image = c.leave_image.new.bytes.items in
    between d.first.items d.calls.items image d.lawful
    (subst (λ (l : List Call). IsImage d.first.items l image) c.deref.ensures.value c.leave_image.ensures.image)

pub returns-clause-value : goal.returns-clause-value
returns-clause-value c = search rules
