-- The kind that stands before the seal names the one key that can have sealed the packet.
use Rattle.std.proofs.Common.{ap, ◌∙◌, ◌≡◌, None, Some, arith}
use Rattle.c8_transport.specs.Opened.{key_for}
use Rattle.c8_transport.proofs.SealedLemmas.{packet_size, has_key, found, not_found}
use Rattle.c8_transport.proofs.keys.SealKeys.open.Goals as goal

pub returns-then-packet-lt-SEAL_LENGTH : goal.returns-then-packet-lt-SEAL_LENGTH
returns-then-packet-lt-SEAL_LENGTH c counter datagram is =
    let size = packet_size c.args.self.now c.args.packet.now counter datagram is in let short = c.if-packet-lt-SEAL_LENGTH.true in
    omega (arith, size, short)

pub returns-then-packet-gt-LONGEST_SEALED : goal.returns-then-packet-gt-LONGEST_SEALED
returns-then-packet-gt-LONGEST_SEALED c counter datagram is =
    let size = packet_size c.args.self.now c.args.packet.now counter datagram is in let few = is.few in
    let long = c.if-packet-gt-LONGEST_SEALED.true in omega (arith, size, few, long)

pub returns-in_default : goal.returns-in_default
returns-in_default c counter datagram is =
    let none : key_for c.args.self.now c.split_at.result.0.now ≡ None = c.in_default.ensures in
    let some : key_for c.args.self.now c.split_at.result.0.now ≡ Some is.key =
    ap (key_for c.args.self.now) c.split_at.ensures.front ∙ has_key c.args.self.now c.args.packet.now counter datagram is in
    (cc)

pub returns-in-Some-open : goal.returns-in-Some-open
returns-in-Some-open c =
    let few = c.if-packet-gt-LONGEST_SEALED.false in
    found c.args.self.now c.args.packet.now c.split_at.result.0.now c.in-Some.key.now c.in-Some-open.opened.counter
    c.in-Some-open.opened.datagram.now (omega (arith, few)) c.split_at.ensures.front c.in-Some.ensures c.in-Some-open.ensures

pub returns-in-None : goal.returns-in-None
returns-in-None c = not_found c.args.self.now c.args.packet.now c.split_at.result.0.now c.in-Some.key.now c.split_at.ensures.front
    c.in-Some.ensures c.in-None.ensures
