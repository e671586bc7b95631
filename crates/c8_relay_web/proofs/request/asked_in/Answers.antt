-- The head that was found is a head of the grammar, so what it asks for is what the input asks for.
use Rattle.std.proofs.Common.{Ok, subst}
use Rattle.httparse.specs.Outcome.{IfComplete}
use Rattle.httparse.specs.Spans.{IsRequestOf}
use Rattle.httparse.specs.declared.Error.{Error}
use Rattle.httparse.specs.declared.Status.{Status}
use Rattle.httparse.specs.declared.spans.RequestSpans.{RequestSpans}
use Rattle.c8_relay_web.specs.Requests.{IsAnswered, Parts}
use Rattle.c8_relay_web.proofs.RequestLemmas.{same_parts, to_asked}
use Rattle.c8_relay_web.proofs.request.asked_in.Goals as goal

pub returns-in-Ok-Complete : goal.returns-in-Ok-Complete
returns-in-Ok-Complete c =
    let input = c.args.input.now in
    let site = c.args.site.now in
    let P : Status RequestSpans → Type 0 = λ s. IfComplete {A = RequestSpans} {E = Error} (Ok s) (IsRequestOf input c.parse_request.new.headers) in
    let found : IsRequestOf input c.parse_request.new.headers c.in-Ok-Complete.head =
    subst P c.in-Ok-Complete.field-0-is c.in-Ok-Complete.ensures.complete in
    to_asked input site c.answer.result found.0 _ found.1.reads
    (subst (λ (parts : Parts). IsAnswered parts site c.answer.result) (same_parts input _ _ found.0 found.1) c.answer.ensures)
