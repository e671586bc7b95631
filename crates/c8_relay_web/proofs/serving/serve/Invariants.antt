-- Between two batches the relay is honest by all that its hub has passed, and the loop can go on.
use Rattle.c8_relay.specs.Honest.{IsHonest}
use Rattle.c8_relay_web.proofs.serving.serve.Given as goal

abbrev pub invariant-loop : goal.invariant-loop
invariant-loop g l =
    (goal.iterator-loop g).can_next l.iterator' × (goal.iterator-loop g).is_finite l.iterator'
    × IsHonest l.relay l.hub.passed.received.items l.hub.passed.sent.items
