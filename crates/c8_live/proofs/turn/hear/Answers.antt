-- Each packet that the wire gives lengthens what was heard and noted, also the one at which the disk refuses a record.
use Rattle.std.proofs.lemmas.Result.{err_from_is_err_and}
use Rattle.std.proofs.Common.{ℕ, ◌+◌, take, Option, Ok, refl, subst, arith}
use Rattle.c8_session.specs.Notes.{notes_of}
use Rattle.c8_transport.specs.Wire.{Gives, most_packets}
use Rattle.c8_live.proofs.OwedLemmas.{noted_up_to, noted_still}
use Rattle.c8_live.proofs.turn.hear.Goals as goal

pub loop-init : goal.loop-init
loop-init g c = record {
  noted = c.hearings_join.ensures.noted_silent c.args.session.now.peer (notes_of c.args.session.now) c.args.wire.now c.args.wire.now refl refl;
  within = omega arith;
}

pub returns-in_err-deliver-in-Some-clause-noted : goal.returns-in_err-deliver-in-Some-clause-noted
returns-in_err-deliver-in-Some-clause-noted g c =
    let peer = c.args.session.now.peer in
    let notes = notes_of c.args.session.now in
    let later = notes_of c.loop.session in
    let now = notes_of c.deliver.new.session in
    let received = subst (λ (next : Option ℕ). Gives (g.W.Wire.received c.loop.wire) c.receive.new.packet (Ok next)
    (g.W.Wire.received c.receive.new.self)) c.in-Some.is c.in_ok-size.ensures.received in
    let once = c.hearings_join.ensures.noted_once c.loop.session.peer c.deliver.new.session.peer later now c.loop.wire c.receive.new.self
    (take c.in-Some.size c.receive.new.packet)
    c.in_err-deliver-in-Some.ensures.noted received c.receive.ensures.sent in
    noted_up_to g.D.Disk g.W.Wire (c.loop.counter + 1) most_packets peer c.deliver.new.session.peer notes now c.args.wire.now c.receive.new.self
    (omega (arith, c.loop-test.true))
    (c.hearings_join.ensures.noted_joined c.loop.counter 1 peer c.loop.session.peer c.deliver.new.session.peer notes later now c.args.wire.now
    c.loop.wire c.receive.new.self c.loop.invariant.noted once)

pub returns-in_err-deliver-in-Some-clause-end : goal.returns-in_err-deliver-in-Some-clause-end
returns-in_err-deliver-in-Some-clause-end g c =
    let error = err_from_is_err_and c.from_residual-in_err-deliver-in-Some.result c.from_residual-in_err-deliver-in-Some.ensures.1 in
    rw (error.1, error.2)
    (c.sessions_end.ensures c.args.session.now.peer c.loop.session.peer c.deliver.new.session.peer c.in_err-deliver-in-Some.field-0.0
    c.loop.invariant.noted.heard.heard.0.ran c.in_err-deliver-in-Some.ensures.end)

pub loop-preserved : goal.loop-preserved
loop-preserved g c =
    let notes = notes_of c.args.session.now in
    let later = notes_of c.loop.session in
    let now = notes_of c.deliver.new.session in
    let received = subst (λ (next : Option ℕ). Gives (g.W.Wire.received c.loop.wire) c.receive.new.packet (Ok next)
    (g.W.Wire.received c.receive.new.self)) c.in-Some.is c.in_ok-size.ensures.received in
    let once = c.hearings_join.ensures.noted_once c.loop.session.peer c.deliver.new.session.peer later now c.loop.wire c.receive.new.self
    (take c.in-Some.size c.receive.new.packet)
    c.in_ok-deliver-in-Some.ensures.noted received c.receive.ensures.sent in
    record {
      noted = c.hearings_join.ensures.noted_joined c.loop.counter 1 c.args.session.now.peer c.loop.session.peer c.deliver.new.session.peer notes
          later now c.args.wire.now c.loop.wire c.receive.new.self c.loop.invariant.noted once;
      within = omega (arith, c.loop-test.true);
    }

pub returns-in_err-size-clause-noted : goal.returns-in_err-size-clause-noted
returns-in_err-size-clause-noted g c =
    noted_still g.D.Disk g.W.Wire c.hearings_join.ensures.noted_joined c.hearings_join.ensures.noted_silent c.loop.counter most_packets
    c.args.session.now.peer c.loop.session.peer (notes_of c.args.session.now) (notes_of c.loop.session) c.args.wire.now c.loop.wire
    c.receive.new.self c.loop.invariant.within c.loop.invariant.noted c.in_err-size.ensures.received c.receive.ensures.sent

pub returns-in-None-clause-noted : goal.returns-in-None-clause-noted
returns-in-None-clause-noted g c =
    let received = subst (λ (next : Option ℕ). Gives (g.W.Wire.received c.loop.wire) c.receive.new.packet (Ok next)
    (g.W.Wire.received c.receive.new.self)) c.in-None.is c.in_ok-size.ensures.received in
    noted_still g.D.Disk g.W.Wire c.hearings_join.ensures.noted_joined c.hearings_join.ensures.noted_silent c.loop.counter most_packets
    c.args.session.now.peer c.loop.session.peer (notes_of c.args.session.now) (notes_of c.loop.session) c.args.wire.now c.loop.wire
    c.receive.new.self c.loop.invariant.within c.loop.invariant.noted received c.receive.ensures.sent

pub returns-after-loop-clause-noted : goal.returns-after-loop-clause-noted
returns-after-loop-clause-noted g c =
    noted_up_to g.D.Disk g.W.Wire c.loop.counter most_packets c.args.session.now.peer c.loop.session.peer (notes_of c.args.session.now)
    (notes_of c.loop.session) c.args.wire.now c.loop.wire c.loop.invariant.within c.loop.invariant.noted
