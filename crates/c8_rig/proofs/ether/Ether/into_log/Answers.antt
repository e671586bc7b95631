-- Each entry in turn is compared with the log, which shows its part of it and changes neither.
use Rattle.std.proofs.Common.{rules, ◌≡◌, ◌<◌, ap, sym, subst, ◌∙◌, length, List, slice_index_or}
use Rattle.std.proofs.lemmas.Option.{slice_get_read, slice_get_within}
use Rattle.c8_rig.specs.Log.{NoteValue, part_of}
use Rattle.c8_rig.specs.Tokens.{EntryValue}
use Rattle.c8_rig.proofs.Parts.{parts_more, written_back}
use Rattle.c8_rig.proofs.ether.Ether.into_log.Goals as goal

pub loop-place-preserved : goal.loop-place-preserved
loop-place-preserved g c =
    let entries : List EntryValue = c.args.entries.items in
    let entry : EntryValue = c.index_mut.result.now in
    let was = c.loop-place.invariant in
    let within : c.loop-place.place < length entries = search rules in
    let at = c.index_mut.ensures.value ∙ ap (λ (es : List EntryValue). slice_index_or es c.loop-place.place entry) was.0 in (
      written_back c.loop-place.entries.items c.loop-place.place entry c.is_part.new.entry c.index_mut.ensures.value c.is_part.ensures.entry ∙ was.0,
      c.is_part.ensures.log ∙ was.1,
      parts_more c.into_inner-book.result entries c.loop-place.place entry
          (slice_get_read entries (length entries) c.loop-place.place entry (λ i. length entries) within at)
          (subst (λ (log : List NoteValue). entry.notes ≡ part_of entry.player log) was.1 c.is_part.ensures.part) was.2,
    )

pub returns-clause-parts : goal.returns-clause-parts
returns-clause-parts g c i e at =
    let was = c.loop-place.invariant in
    let few = slice_get_within c.args.entries.items i e at in
    let within : i < c.loop-place.place = search rules in
    subst (λ (log : List NoteValue). e.notes ≡ part_of e.player log) (sym was.1 ∙ sym c.book-2.view_is) (was.2 i e within at)
