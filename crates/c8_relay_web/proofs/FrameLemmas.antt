-- What the unread input of a WebSocket says; `next_frame` (inbox) and `message` (connection) need it.
use Rattle.std.proofs.Common.{◌≡◌, ◌≤◌, ◌<◌, ℕ, List, [], ◌∷◌, length, get_or, MatchBool, false, Bool, inl, inr, ⊎_elim, subst}
use Rattle.std.proofs.Common.{Option, Some, None, Result, Ok, Err, ◌∙◌, refl, arith}
use Rattle.std.specs.Prelude.{nat_lt}
use Rattle.std.proofs.lemmas.Bool.{cases_lt, lt-ltb, le-ltb}
use Rattle.websocket.specs.Connection.{Connection, Effect, read_step}
use Rattle.websocket.specs.Content as contents
use Rattle.websocket.specs.Content.{Content}
use Rattle.websocket.specs.declared.error.Error.{Error}
use Rattle.websocket.specs.declared.protocol.frame.codec.FrameStatus.{FrameStatus}
use Rattle.websocket.specs.declared.protocol.frame.codec.FrameStatus.TheVariants.{Complete, Partial}
use Rattle.websocket.specs.declared.protocol.frame.coding.CloseCode.TheVariants as Code
use Rattle.c8_relay.specs.declared.ether.TheConstants.{LONGEST_READ}
use Rattle.c8_relay_web.specs.Frames.{IsNext, IsSaidBy, said_by, said_in}
use Rattle.c8_relay_web.specs.Steps.{BeginsWithPacket, HasPacket}
use Rattle.c8_relay_web.specs.declared.connection.Stage.{Stage}
use Rattle.c8_relay_web.specs.declared.connection.Stage.TheVariants as stages
use Rattle.c8_relay_web.specs.declared.frames.Said.{Said}
use Rattle.c8_relay_web.specs.declared.frames.Said.TheVariants.{Unknown, Packet, Wrong}

pub none_next : (context : Connection) (input : List ℕ) → length input < 1 → IsNext context input Unknown 0
none_next context [] few = (refl, refl)
none_next context (first ∷ rest) few = absurd (omega (arith, few))

pub part_next : (context : Connection) (input : List ℕ) → 1 ≤ length input → get_or input 0 0 < 128 → IsNext context input (Wrong Code.Unsupported) 0
part_next context [] some part = absurd (omega (arith, some))
part_next context (first ∷ rest) some part = rw (lt-ltb first 128 part) (refl, refl)

pub whole_next : (context : Connection) (input : List ℕ) (said : Said) (size : ℕ) → 1 ≤ length input → 128 ≤ get_or input 0 0
    → IsSaidBy context input said size → IsNext context input said size
whole_next context [] said size some whole is = absurd (omega (arith, some))
whole_next context (first ∷ rest) said size some whole is = rw (le-ltb first 128 whole) is

-- an input that begins with a packet says this packet
pub packet_next : (context : Connection) (input : List ℕ) (said : Said) (size consumed : ℕ) → BeginsWithPacket context input size
    → IsNext context input said consumed → said ≡ Packet size
packet_next context [] said size consumed begins next = absurd begins
packet_next context (first ∷ rest) said size consumed begins next =
    let input : List ℕ = first ∷ rest in
    let whole : nat_lt first 128 ≡ false = le-ltb first 128 begins.0 in
    let is : IsSaidBy context input said consumed = subst
    (λ (b : Bool). MatchBool b ((said ≡ Wrong Code.Unsupported) × (consumed ≡ 0)) (IsSaidBy context input said consumed)) whole next in
    ⊎_elim (λ same. same.0 ∙ begins.2) (λ part. absurd (begins.1 part.0)) is

-- no packet is longer than a read
said_few : (message : Option Content) (size : ℕ) → said_by message ≡ Packet size → size ≤ LONGEST_READ
said_few None size is = absurd cc
said_few (Some (contents.text bytes)) size is = absurd cc
said_few (Some (contents.binary bytes)) size is =
    elim (cases_lt LONGEST_READ (length bytes)) [
      | inl longer ↦ let wrong = rw (lt-ltb LONGEST_READ (length bytes) longer) at is in absurd cc
      | inr fits ↦
          let same = rw (le-ltb LONGEST_READ (length bytes) fits) at is in
          let size_is : length bytes ≡ size = cc in
          omega (arith, fits, size_is)
    ]
said_few (Some (contents.ping bytes)) size is = absurd cc
said_few (Some (contents.pong bytes)) size is = absurd cc
said_few (Some (contents.close reason)) size is = absurd cc

read_few : (r : Result (FrameStatus (ℕ × Effect)) Error) (size : ℕ) → said_in r ≡ Packet size → size ≤ LONGEST_READ
read_few (Err error) size is = absurd cc
read_few (Ok (Partial needed)) size is = absurd cc
read_few (Ok (Complete step)) size is = said_few step.1.message size is

pub packet_few : (stage : Stage) (input : List ℕ) (size : ℕ) → HasPacket stage input size → size ≤ LONGEST_READ
packet_few stages.Head input size has = absurd has
packet_few (stages.Open context) [] size has = absurd has
packet_few (stages.Open context) (first ∷ rest) size has = read_few (read_step context (first ∷ rest)) size has.2
packet_few (stages.Page sending) input size has = absurd has
packet_few stages.Ending input size has = absurd has
packet_few stages.Ended input size has = absurd has
