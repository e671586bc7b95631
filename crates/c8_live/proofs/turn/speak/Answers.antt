-- What is said at one more place follows what was said before; at the end of the loop nothing is left.
use Rattle.std.proofs.Common.{List, [], ◌∷◌, ◌++◌, length, take, refl, sym, ap, subst, ◌∙◌, arith}
use Rattle.std.proofs.lemmas.List.{append_assoc, append-nil}
use Rattle.c8_peer.specs.State.{Call}
use Rattle.c8_peer.specs.Peer.{PeerValue}
use Rattle.c8_session.specs.Due.{left_to_say}
use Rattle.c8_live.specs.Owed.{HasSaid}
use Rattle.c8_live.proofs.OwedLemmas.{nothing_left}
use Rattle.c8_live.proofs.turn.speak.Goals as goal

pub loop-init : goal.loop-init
loop-init g c = record {
  same = refl;
  notes = refl;
  speaks = refl;
  said = ([], c.sayings_join.ensures.said_none c.args.session.now.peer c.args.wire.now c.args.wire.now refl refl, refl);
  few = omega (arith, c.turns_say_few.ensures c.args.session.now);
}

pub returns-in_err-send-in-Some-clause-spoke : goal.returns-in_err-send-in-Some-clause-spoke
returns-in_err-send-in-Some-clause-spoke g c =
    let said = c.in-Some.ensures.due in
    let once = c.sayings_join.ensures.said_once c.loop.session.peer c.loop.wire c.send.new.self said.0
    (take c.in-Some.size c.next_datagram.new.out) said.1.lawful said.1.speaks said.2 c.send.ensures.sent c.send.ensures.received in
    let here = subst (λ (p : PeerValue g.row.D.Denot). HasSaid g.D.Disk g.W.Wire p (said.0 ∷ []) c.loop.wire c.send.new.self)
    c.loop.invariant.same once in
    (c.sayings_join.ensures.said_joined c.args.session.now.peer c.loop.invariant.said.0 (said.0 ∷ []) c.args.wire.now c.loop.wire c.send.new.self
    c.loop.invariant.said.1 here).0

pub loop-preserved : goal.loop-preserved
loop-preserved g c =
    let said = c.in-Some.ensures.due in
    let once = c.sayings_join.ensures.said_once c.loop.session.peer c.loop.wire c.send.new.self said.0
    (take c.in-Some.size c.next_datagram.new.out) said.1.lawful said.1.speaks said.2 c.send.ensures.sent c.send.ensures.received in
    let here = subst (λ (p : PeerValue g.row.D.Denot). HasSaid g.D.Disk g.W.Wire p (said.0 ∷ []) c.loop.wire c.send.new.self)
    c.loop.invariant.same once in
    let before = c.loop.invariant.said.0 in
    let left = left_to_say c.next_datagram.new.self in
    record {
      same = c.in-Some.ensures.peer ∙ c.loop.invariant.same;
      notes = c.in-Some.ensures.notes ∙ c.loop.invariant.notes;
      speaks = c.in-Some.ensures.speaks ∙ c.loop.invariant.speaks;
      said = (
        before ++ said.0 ∷ [],
        c.sayings_join.ensures.said_joined c.args.session.now.peer before (said.0 ∷ []) c.args.wire.now c.loop.wire c.send.new.self
            c.loop.invariant.said.1 here,
        append_assoc before (said.0 ∷ []) left ∙ ap (λ (l : List Call). before ++ l) (sym said.3) ∙ c.loop.invariant.said.2,
      );
      few = omega (arith, c.loop.invariant.few, ap length said.3);
    }

pub returns-in-None-clause-said : goal.returns-in-None-clause-said
returns-in-None-clause-said g c =
    let before = c.loop.invariant.said.0 in
    subst (λ (calls : List Call). HasSaid g.D.Disk g.W.Wire c.args.session.now.peer calls c.args.wire.now c.loop.wire)
    (sym (append-nil before) ∙ ap (λ (l : List Call). before ++ l) (sym c.in-None.ensures.over) ∙ c.loop.invariant.said.2)
    c.loop.invariant.said.1

pub returns-clause-said : goal.returns-clause-said
returns-clause-said g c =
    let before = c.loop.invariant.said.0 in
    let none = nothing_left (left_to_say c.loop.session) (omega (arith, c.loop.invariant.few, c.loop-test.false)) in
    subst (λ (calls : List Call). HasSaid g.D.Disk g.W.Wire c.args.session.now.peer calls c.args.wire.now c.loop.wire)
    (sym (append-nil before) ∙ ap (λ (l : List Call). before ++ l) (sym none) ∙ c.loop.invariant.said.2)
    c.loop.invariant.said.1
