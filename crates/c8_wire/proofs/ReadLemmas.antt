-- What bytes say is the packet that they spell, or else their refusal.
use Rattle.std.proofs.Common.{◌≡◌, ℕ, List, Option, Some, None, Ok, Err, refl, sym, ap, subst, ◌∙◌}
use Rattle.c8_wire.specs.declared.error.WireError.{WireError}
use Rattle.c8_wire.specs.declared.kinds.DatagramKind.{DatagramKind}
use Rattle.c8_wire.specs.Packet.{AreBytes, Packet}
use Rattle.c8_wire.specs.Spelling.{Spells}
use Rattle.c8_wire.specs.Reading.{kind_at, packet_at}
use Rattle.c8_wire.specs.Refusal.{refusal}
use Rattle.c8_wire.specs.checked.Read.{answer, read}
use Rattle.c8_wire.proofs.TableLemmas.{kind_named}
use Rattle.c8_wire.proofs.PacketLemmas.{found, again, same_kind}

pub one_packet : (bytes : List ℕ) (p q : Packet) → Spells bytes p → Spells bytes q → p ≡ q
one_packet bytes p q one other =
    let first = again bytes p one in
    sym first.same ∙ same_kind p.head.kind bytes q first.kind other

pub read_accepted : (bytes : List ℕ) (kind : DatagramKind) → kind_at bytes ≡ Some kind → refusal bytes ≡ None → read bytes ≡ Ok (packet_at kind bytes)
unfolding read
read_accepted bytes kind named none =
    ap (λ (r : Option WireError). answer r (kind_at bytes) bytes) none ∙ ap (λ (k : Option DatagramKind). answer None k bytes) named

pub read_refused : (bytes : List ℕ) (error : WireError) → refusal bytes ≡ Some error → read bytes ≡ Err error
unfolding read
read_refused bytes error some = ap (λ (r : Option WireError). answer r (kind_at bytes) bytes) some

pub read_spelled : (bytes : List ℕ) (p : Packet) → Spells bytes p → read bytes ≡ Ok p
read_spelled bytes p spells =
    let is = again bytes p spells in
    read_accepted bytes p.head.kind is.kind is.none ∙ ap Ok is.same

-- what an answer came from
record IsRead (refused : Option WireError) (named : Option DatagramKind) (bytes : List ℕ) (p : Packet) : Type 0 where
  kind : DatagramKind
  none : refused ≡ None
  names : named ≡ Some kind
  packet : packet_at kind bytes ≡ p

read_from : (refused : Option WireError) (named : Option DatagramKind) (bytes : List ℕ) (p : Packet) → answer refused named bytes ≡ Ok p
    → IsRead refused named bytes p
read_from (Some error) named bytes p e = absurd cc
read_from None (Some kind) bytes p e = record { kind = kind; none = refl; names = refl; packet = cc }
read_from None None bytes p e = absurd cc

pub spelled_read : (bytes : List ℕ) (p : Packet) → AreBytes bytes → read bytes ≡ Ok p → Spells bytes p
unfolding read
spelled_read bytes p are e =
    let from = read_from (refusal bytes) (kind_at bytes) bytes p e in
    subst (λ (q : Packet). Spells bytes q) from.packet (found from.kind bytes are from.names from.none)

pub spelled_unrefused : (bytes : List ℕ) → AreBytes bytes → refusal bytes ≡ None → (p : Packet) × Spells bytes p
spelled_unrefused bytes are none =
    let kind = kind_named bytes none in
    (packet_at kind.0 bytes, found kind.0 bytes are kind.1 none)

refused_from : (bytes : List ℕ) (refused : Option WireError) (error : WireError) → refusal bytes ≡ refused
    → answer refused (kind_at bytes) bytes ≡ Err error → refused ≡ Some error
refused_from bytes (Some other) error is e = cc
refused_from bytes None error is e =
    let kind = kind_named bytes is in
    let read_as : answer None (Some kind.0) bytes ≡ Err error = ap (λ (k : Option DatagramKind). answer None k bytes) (sym kind.1) ∙ e in
    absurd cc

pub refused_unread : (bytes : List ℕ) (error : WireError) → read bytes ≡ Err error → refusal bytes ≡ Some error
unfolding read
refused_unread bytes error e = refused_from bytes (refusal bytes) error refl e
