-- After each connection that has ended the relay is still honest.
use Rattle.c8_relay.specs.Honest.{IsHonest}
use Rattle.c8_relay_web.proofs.serving.dismiss.Given as goal

abbrev pub invariant-loop : goal.invariant-loop
invariant-loop l = IsHonest l.relay l.hub.passed.received.items l.hub.passed.sent.items
