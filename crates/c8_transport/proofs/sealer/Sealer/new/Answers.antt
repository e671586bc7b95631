-- At first no counter of any seat was taken, and the counters to use fit in 64 bits.
use Rattle.std.proofs.Common.{sym, ap, ◌∙◌, ◌-◌}
use Rattle.c8_transport.specs.Given.{counters_of}
use Rattle.c8_transport.proofs.sealer.Sealer.new.Goals as goal

pub invariant_of-result : goal.invariant_of-result
invariant_of-result c = record {
  within = c.args.counters.within;
  seen_are = λ seat some few. c.nothing_seen.ensures (seat - 1) ∙ sym (ap (counters_of seat) c.new.ensures);
}
