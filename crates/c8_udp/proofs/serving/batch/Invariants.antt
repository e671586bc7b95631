-- After each packet of the batch the relay is still honest.
use Rattle.c8_relay.specs.Honest.{IsHonest}
use Rattle.c8_udp.proofs.serving.batch.Given as goal

abbrev pub invariant-loop : goal.invariant-loop
invariant-loop g l = IsHonest l.relay (g.E.Ether.received l.ether) (g.E.Ether.sent l.ether)
