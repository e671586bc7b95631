-- What a head that the library found asks for is what the input asks for; `asked_in` (request) needs it.
use Rattle.std.proofs.Common.{◌≡◌, ℕ, List}
use Rattle.httparse.specs.Grammar.{ReadsRequest, RequestHead}
use Rattle.httparse.specs.Spans.{IsRequestAt}
use Rattle.httparse.specs.declared.spans.HeaderSpan.{HeaderSpan}
use Rattle.httparse.specs.declared.spans.RequestSpans.{RequestSpans}
use Rattle.c8_relay_web.specs.Requests.{IsAnswered, IsAsked, parts_at, parts_of}
use Rattle.c8_relay_web.specs.declared.reply.Refused.TheVariants as why
use Rattle.c8_relay_web.specs.declared.request.Asked.{Asked}
use Rattle.c8_relay_web.specs.declared.request.Asked.TheVariants as asked
use Rattle.c8_relay_web.specs.declared.site.Site.{Site}

-- the spans cover the parts of the head
pub same_parts : (input : List ℕ) (spans : List HeaderSpan) (found : RequestSpans) (head : RequestHead) → IsRequestAt input spans found head
    → parts_at input spans found ≡ parts_of head
same_parts input spans found head at =
    λ i. record { method = at.method i; target = at.path i; minor = at.version i; fields = at.fields i; size = at.len i }

pub to_asked : (input : List ℕ) (site : Site) (answer : Asked) (head : RequestHead) (rest : List ℕ) → ReadsRequest input head rest
    → IsAnswered (parts_of head) site answer → IsAsked input site answer
to_asked input site asked.Unknown head rest reads is = absurd is
to_asked input site (asked.Upgrade upgrade) head rest reads is = (head, (rest, reads), is)
to_asked input site (asked.Page place part) head rest reads is = (head, (rest, reads), is)
to_asked input site (asked.Refused why.Bad) head rest reads is = absurd is
to_asked input site (asked.Refused why.TooLarge) head rest reads is = absurd is
to_asked input site (asked.Refused why.Method) head rest reads is = (head, (rest, reads), is)
to_asked input site (asked.Refused why.Missing) head rest reads is = (head, (rest, reads), is)
to_asked input site (asked.Refused why.NoUpgrade) head rest reads is = (head, (rest, reads), is)
to_asked input site (asked.Refused why.Origin) head rest reads is = (head, (rest, reads), is)
