-- For each packet received at most one goes out: the same between two who asked, or a shorter answer to a JOIN.
use Rattle.std.proofs.Common.{◌≡◌, ◌∙◌, ℕ, List, inr, refl, rules, length, subst, take}
use Rattle.c8_relay.specs.Ether.{MaySend}
use Rattle.c8_relay.specs.Honest.{IsHonest}
use Rattle.c8_relay.proofs.HonestLemmas.{after_forward, after_answer, after_nothing}
use Rattle.c8_relay.specs.declared.address.Address.{Address}
use Rattle.c8_relay.specs.declared.relay.Fate.TheVariants as fates
use Rattle.c8_relay.proofs.turning.turn.Goals as goal

pub returns-in-Forward-clause-honest : goal.returns-in-Forward-clause-honest
returns-in-Forward-clause-honest g c =
    let was : IsHonest c.args.relay.now (g.E.Ether.received c.args.ether.now) (g.E.Ether.sent c.receive.new.self) =
    rw c.in-Some.ensures.sent c.requires.honest in
    let fair = c.in-Forward.ensures.fair in
    rw (c.send.ensures.received, c.in-Some.ensures.received)
    (after_forward c.args.now c.in-Some.from _ c.args.relay.now c.take.new.self _ _ c.take.ensures.key c.take.ensures.seats was _
    c.in-Forward.to fair.0 c.send.ensures.sent fair.1 fair.2.0)

pub returns-in-Answer-clause-honest : goal.returns-in-Answer-clause-honest
returns-in-Answer-clause-honest g c =
    let was : IsHonest c.args.relay.now (g.E.Ether.received c.args.ether.now) (g.E.Ether.sent c.receive.new.self) =
    rw c.in-Some.ensures.sent c.requires.honest in
    let fair = c.in-Answer.ensures.fair in
    let short : length c.in-Answer.answer ≡ 24 = search rules in
    rw (c.send-in-Answer.ensures.received, c.in-Some.ensures.received)
    (after_answer c.args.now c.in-Some.from _ c.args.relay.now c.take.new.self _ _ c.take.ensures.key c.take.ensures.seats was _
    c.in-Answer.answer fair.0 c.send-in-Answer.ensures.sent fair.1 short)

pub returns-in-Dropped-clause-honest : goal.returns-in-Dropped-clause-honest
returns-in-Dropped-clause-honest g c =
    let was : IsHonest c.args.relay.now (g.E.Ether.received c.args.ether.now) (g.E.Ether.sent c.receive.new.self) =
    rw c.in-Some.ensures.sent c.requires.honest in
    rw c.in-Some.ensures.received (after_nothing c.args.now c.in-Some.from _ c.args.relay.now c.take.new.self _ _ c.take.ensures.key
    c.take.ensures.seats was)

pub returns-in-Forward-clause-turn : goal.returns-in-Forward-clause-turn
returns-in-Forward-clause-turn g c = inr (record {
  from = c.in-Some.from;
  packet = take c.in-Some.size c.receive.new.packet;
  fate = fates.Forward c.in-Forward.to;
  taken = c.send.ensures.received ∙ c.in-Some.ensures.received;
  fair = c.in-Forward.ensures.fair;
  carries = c.in-Forward.ensures.served;
  done = (
    subst (λ (before : List (Address × List ℕ)). MaySend before c.in-Forward.to (take c.in-Some.size c.receive.new.packet)
        (g.E.Ether.sent c.send.new.self)) c.in-Some.ensures.sent c.send.ensures.sent,
    refl,
  );
})

pub returns-in-Answer-clause-turn : goal.returns-in-Answer-clause-turn
returns-in-Answer-clause-turn g c = inr (record {
  from = c.in-Some.from;
  packet = take c.in-Some.size c.receive.new.packet;
  fate = fates.Answer c.in-Answer.answer;
  taken = c.send-in-Answer.ensures.received ∙ c.in-Some.ensures.received;
  fair = c.in-Answer.ensures.fair;
  carries = c.in-Answer.ensures.served;
  done = (
    subst (λ (before : List (Address × List ℕ)). MaySend before c.in-Some.from c.in-Answer.answer
        (g.E.Ether.sent c.send-in-Answer.new.self)) c.in-Some.ensures.sent c.send-in-Answer.ensures.sent,
    refl,
  );
})

pub returns-in-Dropped-clause-turn : goal.returns-in-Dropped-clause-turn
returns-in-Dropped-clause-turn g c = inr (record {
  from = c.in-Some.from;
  packet = take c.in-Some.size c.receive.new.packet;
  fate = fates.Dropped c.in-Dropped.cause;
  taken = c.in-Some.ensures.received;
  fair = c.in-Dropped.ensures.fair;
  carries = c.in-Dropped.ensures.served;
  done = (c.in-Some.ensures.sent, refl);
})
