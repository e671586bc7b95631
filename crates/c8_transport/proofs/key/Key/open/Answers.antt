-- A sealing has a counter before its tag, so tagged bytes that are too few for one are none.
use Rattle.std.proofs.Common.{ap, sym, ◌∙◌, arith, length}
use Rattle.c8_transport.specs.Seal.{counted}
use Rattle.c8_transport.proofs.SealLemmas.{tagged_length, sealed_length}
use Rattle.c8_transport.proofs.key.Key.open.Goals as goal

pub returns-then-counted-lt-COUNTER_LENGTH : goal.returns-then-counted-lt-COUNTER_LENGTH
returns-then-counted-lt-COUNTER_LENGTH c counter datagram same =
    let size = ap length same in
    let whole = sealed_length c.args.self.now counter datagram in
    let tagged = ap length c.in-Some.ensures in
    let inner = tagged_length c.args.self.now c.in-Some.counted.now in
    let short = c.if-counted-lt-COUNTER_LENGTH.true in
    omega (arith, size, whole, tagged, inner, short)
