-- The only packet is a JOIN for an own seat, to the own relay.
use Rattle.c8_udp.proofs.RouteLemmas.{said}
use Rattle.c8_udp.proofs.route.Route.ask.Goals as goal

pub returns-in-Some-due-clause-asked : goal.returns-in-Some-due-clause-asked
returns-in-Some-due-clause-asked g c =
    said c.args.self.now.member c.in-Some.member c.in-Some-due.join c.send_to.result c.bytes.result _ _ c.in-Some.is
    c.in-Some-due.ensures.own c.bytes.ensures c.send_to.ensures.took
