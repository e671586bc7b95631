-- The packets of a turn, one after another: which calls were left out so far, and which call is next.
use Rattle.std.proofs.Common.{◌≡◌, ℕ, ◌+◌, ◌<◌, ◌≤◌, List, [], ◌∷◌, ◌++◌, length, Option, inl, inr, refl, ap, sym, subst, ◌∙◌, arith}
use Rattle.std.proofs.lemmas.Bool.{cases_lt}
use Rattle.std.specs.List.{All}
use Rattle.std.proofs.lemmas.List.{append-nil, append_assoc, length-append}
use Rattle.std.proofs.lemmas.List.Elements.{All-nil, All-cons, All-append}
use Rattle.c8_disk.specs.declared.file.FileDisk.{FileDisk}
use Rattle.c8_transport.specs.Sealer.{SealerValue}
use Rattle.c8_peer.specs.State.{Call}
use Rattle.c8_peer.specs.Peer.{PeerValue, IsSaid}
use Rattle.c8_session.specs.Due.{places_of_turn}
use Rattle.c8_session.specs.Turns.{IsSayingTo}
use Rattle.c8_embed.specs.Engine.{HasSpoken}
use Rattle.c8_embed.specs.Endpoint.{EngineOf, HasPassed, HasSent, IsWrapped, IsUnsealable, IsLeftOut, HasNext, HasNoNext}
use Rattle.c8_embed.specs.declared.endpoint.Endpoint.{Endpoint}
use Rattle.c8_embed.specs.declared.medium.Medium.{Medium}

-- what was said now was said by the peer before
said_before : (old now : Endpoint) (call : Call) (datagram : List ℕ) → HasPassed old now → IsSaid now.engine.peer call datagram
    → IsSaid old.engine.peer call datagram
said_before old now call datagram same said =
    subst (λ (p : PeerValue (FileDisk Medium)). IsSaid p call datagram) (ap (λ (e : EngineOf). e.peer) same.engine) said

spoken_on : (old now new : EngineOf) → HasSpoken old now → HasSpoken now new → HasSpoken old new
spoken_on old now new first second = second ∙ ap (λ (e : EngineOf). record e { left = new.left }) first

-- nothing changed before, and nothing but what is left to say now
pub passed_on : (old now new : Endpoint) → HasPassed old now → HasPassed now new → HasPassed old new
passed_on old now new first second = record {
  engine = spoken_on old.engine now.engine new.engine first.engine second.engine;
  sealer = second.sealer ∙ first.sealer;
  number = second.number ∙ first.number;
  replay = second.replay ∙ first.replay;
  sender = second.sender ∙ first.sender;
}

-- one more call is left out
pub left_out_more : (old now : Endpoint) (before : List Call) (call : Call) (datagram : List ℕ) → HasPassed old now
    → All (IsLeftOut old) before → IsSaid now.engine.peer call datagram → IsUnsealable now.sealer datagram
    → All (IsLeftOut old) (before ++ call ∷ [])
left_out_more old now before call datagram same all said none =
    let one : IsLeftOut old call = record {
      datagram = datagram;
      said = said_before old now call datagram same said;
      unsealable = subst (λ (s : Option SealerValue). IsUnsealable s datagram) same.sealer none;
    } in
    All-append (IsLeftOut old) before (call ∷ []) all (All-cons (IsLeftOut old) call [] one (All-nil (IsLeftOut old)))

pub one_longer : (before : List Call) (call : Call) (n : ℕ) → length before ≡ n → length (before ++ call ∷ []) ≡ n + 1
one_longer before call n is = let both = length-append before (call ∷ []) in omega (arith, is, both)

pub order_more : (before now later all : List Call) (call : Call) → all ≡ before ++ now → now ≡ call ∷ later
    → all ≡ (before ++ call ∷ []) ++ later
order_more before now later all call first second =
    first ∙ ap (λ (rest : List Call). before ++ rest) second ∙ sym (append_assoc before (call ∷ []) later)

both_long : (before now all : List Call) → all ≡ before ++ now → length all ≡ length before + length now
both_long before now all order = ap (λ (calls : List Call). length calls) order ∙ length-append before now

-- a turn has few calls, as is known from the first one on
pub few_more : (before now all : List Call) (n : ℕ) → length before ≡ n → all ≡ before ++ now → (0 < n → length all ≤ places_of_turn)
    → length now ≤ places_of_turn → length all ≤ places_of_turn
few_more before now all n each order few here =
    let both = both_long before now all order in
    elim (cases_lt 0 n) [
      | inl some ↦ few some
      | inr none ↦ omega (arith, both, each, none, here)
    ]

-- more than a turn has cannot be left out
pub too_many : (before now all : List Call) (n : ℕ) → length before ≡ n → all ≡ before ++ now → (0 < n → length all ≤ places_of_turn)
    → places_of_turn < n → ⊥
too_many before now all n each order few more =
    let both = both_long before now all order in
    let most = few (omega (arith, more)) in
    omega (arith, both, each, most, more)

-- the packet of the first call that is not left out
pub next_is : (old now new : Endpoint) (before : List Call) (call : Call) (to size : ℕ) (datagram out : List ℕ)
    → HasPassed old now → All (IsLeftOut old) before → old.engine.left ≡ before ++ now.engine.left
    → HasSpoken now.engine new.engine → now.engine.left ≡ call ∷ new.engine.left → IsSayingTo to call → IsSaid now.engine.peer call datagram
    → IsWrapped now.sealer datagram size out new.sealer → new.number ≡ now.number → new.is_replay ≡ now.is_replay
    → new.sender ≡ now.sender → HasNext old to size out new
next_is old now new before call to size datagram out same all first spoken second to_is said wrapped number replay sender = record {
  call = call;
  to_is = to_is;
  sent = record {
    datagram = datagram;
    said = said_before old now call datagram same said;
    wrapped = subst (λ (s : Option SealerValue). IsWrapped s datagram size out new.sealer) same.sealer wrapped;
    engine = spoken_on old.engine now.engine new.engine same.engine spoken;
    number = number ∙ same.number;
    replay = replay ∙ same.replay;
    sender = sender ∙ same.sender;
  };
  before = before;
  left_out = all;
  in_order = first ∙ ap (λ (rest : List Call). before ++ rest) second;
}

-- all that was left to say is left out
pub none_is : (old now new : Endpoint) (before : List Call) → HasPassed old now → All (IsLeftOut old) before
    → old.engine.left ≡ before ++ now.engine.left → HasPassed now new → now.engine.left ≡ [] → HasNoNext old new
none_is old now new before same all first second over = record {
  passed = passed_on old now new same second;
  left_out =
      subst (λ (calls : List Call). All (IsLeftOut old) calls)
      (sym (first ∙ ap (λ (rest : List Call). before ++ rest) over ∙ append-nil before)) all;
}
