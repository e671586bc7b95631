-- Bytes that spell no datagram are no call, others are one delivery, and a refusal of the disk ends the session.
use Rattle.std.proofs.Common.{◌≡◌, [], ◌∷◌, Result, Ok, Err, ap, sym, subst}
use Rattle.c8_wire.specs.Lent.{packet_of}
use Rattle.c8_refusals.specs.declared.error.Refused.{Refused}
use Rattle.c8_refusals.specs.declared.error.Refused.TheVariants as refusals
use Rattle.c8_peer.specs.declared.heard.Heard.{Heard}
use Rattle.c8_peer.specs.Peer.{disk_outcome_of}
use Rattle.c8_peer.specs.State.{Deliver, Delivered}
use Rattle.c8_session.specs.Notes.{Notes, notes_of}
use Rattle.c8_live.specs.Owed.{HasNotedOf}
use Rattle.c8_live.proofs.turn.deliver.Goals as goal

pub returns-in_default-clause-noted : goal.returns-in_default-clause-noted
returns-in_default-clause-noted g c = c.a_packet_is_heard.ensures.unnoted c.args.session.now.peer (notes_of c.args.session.now) c.args.packet.now

pub returns-in-Err-Disk-clause-noted : goal.returns-in-Err-Disk-clause-noted
returns-in-Err-Disk-clause-noted g c =
    let old = c.args.session.now in
    let new = c.deliver_datagram.new.self in
    subst (λ (now : Notes). HasNotedOf g.D.Disk (c.args.packet.now ∷ []) old.peer new.peer (notes_of old) now)
    (sym c.deliver_datagram.ensures.notes)
    (c.a_packet_is_heard.ensures.noted old.peer new.peer (notes_of old) c.args.packet.now (packet_of c.in-Ok.datagram)
    (Delivered c.deliver_datagram.result) c.in-Ok.ensures.found c.deliver_datagram.ensures.answered)

pub returns-in_default-deliver_datagram-2-clause-noted : goal.returns-in_default-deliver_datagram-2-clause-noted
returns-in_default-deliver_datagram-2-clause-noted g c =
    let old = c.args.session.now in
    let new = c.deliver_datagram.new.self in
    subst (λ (now : Notes). HasNotedOf g.D.Disk (c.args.packet.now ∷ []) old.peer new.peer (notes_of old) now)
    (sym c.deliver_datagram.ensures.notes)
    (c.a_packet_is_heard.ensures.noted old.peer new.peer (notes_of old) c.args.packet.now (packet_of c.in-Ok.datagram)
    (Delivered c.deliver_datagram.result) c.in-Ok.ensures.found c.deliver_datagram.ensures.answered)

pub returns-in-Err-Disk-clause-end : goal.returns-in-Err-Disk-clause-end
returns-in-Err-Disk-clause-end g c =
    let peer = c.args.session.now.peer in
    let is : c.deliver_datagram.result ≡ Err (refusals.Disk c.in-Err-Disk.error) = search in
    record {
      before = peer;
      ran = c.peers_run_on.ensures.still peer;
      call = Deliver (Ok (packet_of c.in-Ok.datagram));
      reply = Delivered c.deliver_datagram.result;
      answered = c.deliver_datagram.ensures.answered;
      refused = ap (λ (r : Result Heard Refused). disk_outcome_of (Delivered r)) is;
    }

pub returns-in_default-deliver_datagram : goal.returns-in_default-deliver_datagram
returns-in_default-deliver_datagram g c =
    let old = c.args.session.now in
    let new = c.deliver_datagram.new.self in
    record {
      noted = subst (λ (now : Notes). HasNotedOf g.D.Disk (c.args.packet.now ∷ []) old.peer new.peer (notes_of old) now)
          (sym c.deliver_datagram.ensures.notes)
          (c.a_packet_is_heard.ensures.noted old.peer new.peer (notes_of old) c.args.packet.now (packet_of c.in-Ok.datagram)
          (Delivered c.deliver_datagram.result) c.in-Ok.ensures.found c.deliver_datagram.ensures.answered);
      end = tt;
    }
