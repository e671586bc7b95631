-- Each seat's counters are those of what was taken from it, so a counter new among them is new from that sender.
use Rattle.std.proofs.Common.{ℕ, List, [], ◌∷◌, ◌++◌, ◌↔◌, ◌-◌, ◌∙◌, Ok, slice_index_or, refl, sym, ap, subst}
use Rattle.std.specs.Bool.{IsTrue}
use Rattle.c8_transport.specs.Counters.{IsNew, IsNewest}
use Rattle.c8_transport.specs.Given.{GivenValue, counters_of}
use Rattle.c8_transport.specs.Sealer.{SealerValue, IsFor, IsAddressed, IsTaking}
use Rattle.c8_transport.specs.contracts.sealer.Sealer.{the_view}
use Rattle.c8_transport.proofs.SealedLemmas.{same_datagram}
use Rattle.c8_transport.proofs.SealerLemmas.{seen_more, takes}
use Rattle.c8_transport.proofs.sealer.Sealer.open.Goals as goal

pub returns-in_default-clause-taken : goal.returns-in_default-clause-taken
returns-in_default-clause-taken c = (
  subst (λ (old : SealerValue). (given : GivenValue) → IsFor old.seal c.args.packet.now given → ⊥) c.self.view_is
      (λ given is. c.in_default.ensures given.counter given.datagram is.sealing),
  refl,
)

pub returns-in_default-sender_of-clause-taken : goal.returns-in_default-sender_of-clause-taken
returns-in_default-sender_of-clause-taken c = (
  subst (λ (old : SealerValue). (given : GivenValue) → IsFor old.seal c.args.packet.now given → ⊥) c.self.view_is
      (λ given is. c.in_default-sender_of.ensures given.from
      (subst (IsAddressed _ _ given.from) (same_datagram _ c.args.packet.now _ _ _ _ is.sealing c.in-Some.ensures) is.addressed)),
  refl,
)

pub returns-in_default-take_from-clause-taken : goal.returns-in_default-take_from-clause-taken
returns-in_default-take_from-clause-taken c = (
  subst (λ (old : SealerValue). (given : GivenValue) × IsFor old.seal c.args.packet.now given
      × (IsNew (counters_of given.from old.taken) given.counter → ⊥)) c.self.view_is (
        record { from = c.in-Some-sender_of.from.number; counter = c.in-Some.opened.counter; datagram = c.in-Some.opened.datagram.now },
        record { sealing = c.in-Some.ensures; addressed = c.in-Some-sender_of.ensures },
        λ new. c.in_default-take_from.ensures.taken.0
            (subst (λ (taken : List ℕ). IsNew taken c.in-Some.opened.counter)
            (sym (c.self.invariant.seen_are c.in-Some-sender_of.from.number c.in-Some-sender_of.from.from_one c.in-Some-sender_of.from.to_six)) new),
      ),
  c.self.view_is,
)

pub invariant_of-self-2 : goal.invariant_of-self-2
invariant_of-self-2 c =
    let from = c.in-Some-sender_of.from in
    let given : GivenValue = record { from = from.number; counter = c.in-Some.opened.counter; datagram = c.in-Some.opened.datagram.now } in
    record {
      within = c.self.invariant.within;
      seen_are = λ seat some few.
          ap (λ (seen : List (List ℕ)). slice_index_or seen (seat - 1) []) c.in-Some-take_from.ensures.taken.2
          ∙ seen_more c.self.inside.seen c.self.inside.taken.items given c.take_from.ensures.size from.from_one from.to_six
          c.self.invariant.seen_are seat some few
          ∙ sym (ap (counters_of seat) (c.and-self-inside.ensures ∙ ap (λ (g : GivenValue). c.self.inside.taken.items ++ g ∷ []) c.of-given.ensures));
    }

pub returns-clause-taken : goal.returns-clause-taken
returns-clause-taken c =
    let from = c.in-Some-sender_of.from in
    let given : GivenValue = record { from = from.number; counter = c.in-Some.opened.counter; datagram = c.in-Some.opened.datagram.now } in
    subst (λ (old : SealerValue). IsTaking old c.args.packet.now (Ok given)
    (record {
      seal = c.self.inside.seal;
      next = c.self.inside.counters.next;
      left = c.self.inside.counters.left;
      taken = c.and-self-inside.result.items;
    }))
    c.self.view_is
    (takes (the_view c.self.inside) c.args.packet.now given c.and-self-inside.result.items
    (record { sealing = c.in-Some.ensures; addressed = c.in-Some-sender_of.ensures })
    (subst (λ (taken : List ℕ). IsNew taken c.in-Some.opened.counter) (c.self.invariant.seen_are from.number from.from_one from.to_six)
    c.in-Some-take_from.ensures.taken.0)
    (c.and-self-inside.ensures ∙ ap (λ (g : GivenValue). c.self.inside.taken.items ++ g ∷ []) c.of-given.ensures))

pub returns-clause-newest : goal.returns-clause-newest
returns-clause-newest c =
    let from = c.in-Some-sender_of.from in
    subst (λ (taken : List ℕ). IsTrue c.in-Some-take_from.is_newest ↔ IsNewest taken c.in-Some.opened.counter)
    (c.self.invariant.seen_are from.number from.from_one from.to_six ∙ ap (λ (old : SealerValue). counters_of from.number old.taken) c.self.view_is)
    c.in-Some-take_from.ensures.taken.1
