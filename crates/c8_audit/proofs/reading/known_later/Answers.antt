-- If the second reading is no journal of that room, this is the fault of the file.
use Rattle.std.proofs.Common.{ap, sym, ◌∙◌}
use Rattle.c8_audit.specs.Images.{first_bytes, items_or}
use Rattle.c8_audit.proofs.reading.known_later.Goals as goal

pub returns-in-Err-clause-unread : goal.returns-in-Err-clause-unread
returns-in-Err-clause-unread c = (rw (ap (items_or (first_bytes c.args.file.now)) c.in-Some.is ∙ sym c.deref.ensures.value) c.in-Err.ensures.journal)
