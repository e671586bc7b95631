-- A packet is taken only if it was sealed for this seat with a new counter, so none of a list is taken twice.
use Rattle.std.proofs.Common.{subst, sym, List, inl, inr}
use Rattle.c8_transport.specs.Counters.{AreOnce}
use Rattle.c8_transport.specs.Given.{GivenValue, counters_of}
use Rattle.c8_transport.proofs.SealerLemmas.{once_over, sealed_over, unless_none}
use Rattle.c8_transport.proofs.laws.each_packet_counts_once.Goals as goal

pub returns-clause-once : goal.returns-clause-once
returns-clause-once c old new came seat none are =
    once_over seat came old new (subst (λ (taken : List GivenValue). AreOnce (counters_of seat taken)) (sym none) tt) are

pub returns-clause-sealed : goal.returns-clause-sealed
returns-clause-sealed c old new came given none are has =
    elim (sealed_over given came old new are has) [ inl before ↦ absurd (unless_none given old.taken none before) | inr later ↦ later ]
