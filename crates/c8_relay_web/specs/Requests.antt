-- What a request asks of a relay, by the grammar of its head (RFC 9112) and the opening handshake of WebSocket (RFC 6455, section 4.2).
use Rattle.std.specs.Prelude.{◌≡◌, ◌||◌, ℕ, Bool, List, Option, None, Some, Err, Ok, IsFalse, IsTrue, MatchOption}
use Rattle.std.specs.Prelude.{codes, cond, false, length, map, take}
use Rattle.std.specs.List.{slice_get}
use Rattle.std.specs.Str.{bytes_eq}
use Rattle.std.specs.Net.Grammar.{IsIpText}
use Rattle.std.specs.declared.net.ip_addr.IpAddr.{IpAddr}
use Rattle.httparse.specs.Grammar.{HasNoRequest, MayBecomeRequest, NeverHasRequest, ReadsRequest, RequestHead, print_request}
use Rattle.httparse.specs.Spans.{RequestExceeds, name_and_value, span_bytes}
use Rattle.httparse.specs.declared.spans.HeaderSpan.{HeaderSpan}
use Rattle.httparse.specs.declared.spans.RequestSpans.{RequestSpans}
use Rattle.websocket.specs.Handshake.{Answers, requested_key}
use Rattle.websocket.specs.Headers.{Fields, fields_of, header_value}
use Rattle.websocket.specs.declared.handshake.failure.HandshakeError.{HandshakeError}
use Rattle.c8_relay_web.specs.Paths.{is_relay, names_tag, path_of}
use Rattle.c8_relay_web.specs.Sites.{is_admitted, place_in}
use Rattle.c8_relay_web.specs.declared.page.Page.{Page}
use Rattle.c8_relay_web.specs.declared.page.Part.{Part}
use Rattle.c8_relay_web.specs.declared.page.Part.TheVariants as part
use Rattle.c8_relay_web.specs.declared.reply.Refused.TheVariants as why
use Rattle.c8_relay_web.specs.declared.request.Asked.{Asked}
use Rattle.c8_relay_web.specs.declared.request.Asked.TheVariants as asked
use Rattle.c8_relay_web.specs.declared.site.Site.{Site}

-- the parts of a request's head at which a relay looks, and how many bytes it has
pub record Parts : Type 0 where
  pub method : List ℕ
  pub target : List ℕ
  pub minor : ℕ
  pub fields : Fields
  pub size : ℕ

abbrev pub parts_of : RequestHead → Parts
parts_of head =
    record {
      method = head.method;
      target = head.target;
      minor = head.minor;
      fields = map name_and_value head.fields;
      size = length (print_request head);
    }

-- the parts that spans of the input cover
abbrev pub parts_at : List ℕ → List HeaderSpan → RequestSpans → Parts
parts_at input spans head =
    record {
      method = span_bytes input head.method;
      target = span_bytes input head.path;
      minor = head.version;
      fields = fields_of input (take head.headers spans);
      size = head.len;
    }

abbrev pub is_get : Parts → Bool
is_get head = bytes_eq head.method (codes "GET")

-- a relay knows GET and HEAD
abbrev pub is_known : Parts → Bool
is_known head = is_get head || bytes_eq head.method (codes "HEAD")

abbrev pub asks_for_relay : Parts → Bool
asks_for_relay head = is_relay (path_of head.target)

-- the handshake is answered with this value of Sec-WebSocket-Accept; and: it is refused
abbrev pub Accepts : Parts → List ℕ → Type 0
Accepts head accept = Answers (Ok accept) (requested_key head.method head.minor head.fields)

abbrev pub Rejects : Parts → Type 0
Rejects head = (error : HandshakeError) × Answers (Err error) (requested_key head.method head.minor head.fields)

abbrev pub may_open : Site → Parts → Bool
may_open site head = is_admitted site (header_value head.fields (codes "Origin"))

-- the host that a field spells, if it spells one
abbrev pub IsHost : Option (List ℕ) → Option IpAddr → Type 0
IsHost None host = host ≡ None
IsHost (Some text) host = MatchOption host ((ip : IpAddr) → IsIpText text ip → ⊥) (IsIpText text)

-- the field names the tag of a page
abbrev pub has_tag : Option (List ℕ) → Option Page → Bool
has_tag None page = false
has_tag (Some value) None = false
has_tag (Some value) (Some page) = names_tag value page.etag

-- a page that the client has already is not sent again; to HEAD its head is sent
abbrev pub part_for : Site → Parts → ℕ → Part
part_for site head place =
    cond (has_tag (header_value head.fields (codes "If-None-Match")) (slice_get site.pages.pages.items place)) part.Unchanged
    (cond (is_get head) part.Whole part.Head)

-- what a request with this head asks for, and why it is refused, in this order: its method, its path; for the relay its handshake, its origin
abbrev pub IsAnswered : Parts → Site → Asked → Type 0
IsAnswered head site asked.Unknown = ⊥
IsAnswered head site (asked.Upgrade upgrade) =
    IsTrue (is_known head) × IsTrue (asks_for_relay head) × Accepts head upgrade.accept × IsTrue (may_open site head)
    × (upgrade.length ≡ head.size) × IsHost (header_value head.fields (codes "X-Real-IP")) upgrade.host
IsAnswered head site (asked.Page place part) =
    IsTrue (is_known head) × IsFalse (asks_for_relay head) × (place_in site.pages.pages.items (path_of head.target) ≡ Some place)
    × (part ≡ part_for site head place)
IsAnswered head site (asked.Refused why.Bad) = ⊥
IsAnswered head site (asked.Refused why.TooLarge) = ⊥
IsAnswered head site (asked.Refused why.Method) = IsFalse (is_known head)
IsAnswered head site (asked.Refused why.Missing) =
    IsTrue (is_known head) × IsFalse (asks_for_relay head) × (place_in site.pages.pages.items (path_of head.target) ≡ None)
IsAnswered head site (asked.Refused why.NoUpgrade) = IsTrue (is_known head) × IsTrue (asks_for_relay head) × Rejects head
IsAnswered head site (asked.Refused why.Origin) =
    IsTrue (is_known head) × IsTrue (asks_for_relay head) × ((accept : List ℕ) × Accepts head accept) × IsFalse (may_open site head)

-- the input begins with a head, which is answered so
abbrev pub HasAnswer : List ℕ → Site → Asked → Type 0
HasAnswer input site answer = (head : RequestHead) × ((rest : List ℕ) × ReadsRequest input head rest) × IsAnswered (parts_of head) site answer

-- What the input asks for: nothing yet, if no head is there and one may come; it is bad if none can come, and too large with more than 64
-- fields; else what its head asks for.
abbrev pub IsAsked : List ℕ → Site → Asked → Type 0
IsAsked input site asked.Unknown = HasNoRequest input × MayBecomeRequest input
IsAsked input site (asked.Upgrade upgrade) = HasAnswer input site (asked.Upgrade upgrade)
IsAsked input site (asked.Page place part) = HasAnswer input site (asked.Page place part)
IsAsked input site (asked.Refused why.Bad) = NeverHasRequest input
IsAsked input site (asked.Refused why.TooLarge) = RequestExceeds 64 input
IsAsked input site (asked.Refused why.Method) = HasAnswer input site (asked.Refused why.Method)
IsAsked input site (asked.Refused why.Missing) = HasAnswer input site (asked.Refused why.Missing)
IsAsked input site (asked.Refused why.NoUpgrade) = HasAnswer input site (asked.Refused why.NoUpgrade)
IsAsked input site (asked.Refused why.Origin) = HasAnswer input site (asked.Refused why.Origin)
