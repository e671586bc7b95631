-- A journal at a free place is what is known of its player, and the other places keep theirs.
use Rattle.std.proofs.Common.{◌≡◌, ◌∙◌, None, ap, sym, arith}
use Rattle.std.specs.List.{slice_get}
use Rattle.c8_audit.specs.Read.{named_at}
use Rattle.c8_audit.proofs.FileLemmas.{put_free}
use Rattle.c8_audit.proofs.RosterLemmas.{none_is}
use Rattle.c8_audit.proofs.files.put.Goals as goal

pub returns : goal.returns
returns c =
    let journals = c.args.journals.now in
    let free : named_at (slice_get journals c.place.result) ≡ None =
    ap (λ n. named_at (slice_get journals n)) c.place.ensures.value ∙ sym c.named_of.ensures
    ∙ none_is c.named_of.result (sym c.is_some.ensures ∙ c.if-is_some.false) in
    let put = put_free journals c.place.result c.args.journal (c.place.ensures.next ∙ c.requires) (omega (arith, c.place.ensures.below)) free in
    record { seen = put.seen; named = put.named }
