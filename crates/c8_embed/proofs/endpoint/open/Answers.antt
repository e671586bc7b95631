-- Without a sealer the bytes are the datagram; with one it is what the sealer takes, and its sender is told.
use Rattle.std.proofs.Common.{Bool, Some, Ok, Err, Option, subst, sym, ap, refl}
use Rattle.std.specs.Prelude.{◌↔◌, IsTrue}
use Rattle.c8_wire.specs.declared.header.Seat.{Seat}
use Rattle.c8_transport.specs.Counters.{IsNewest}
use Rattle.c8_transport.specs.Given.{GivenValue, counters_of}
use Rattle.c8_transport.specs.Sealer.{SealerValue}
use Rattle.c8_embed.specs.Endpoint.{opened_as, IsOpenedAs, IsSenderOf}
use Rattle.c8_embed.proofs.endpoint.open.Goals as goal

pub returns-in-Ok : goal.returns-in-Ok
returns-in-Ok c =
    let given : GivenValue = record { from = c.in-Ok.taken.from.number; counter = c.in-Ok.taken.counter; datagram = c.in-Ok.taken.datagram.now } in
    let newest : IsTrue c.in-Ok.taken.is_newest ↔ IsNewest (counters_of given.from c.in-Some.sealer.taken) given.counter = c.in-Ok.ensures.newest in
    let sender : IsSenderOf c.in-Some.sealer given (Some c.sender_of.result) = (
      ap (λ (s : Seat). s.number) c.sender_of.ensures.from,
      subst (λ (b : Bool). IsTrue b ↔ IsNewest (counters_of given.from c.in-Some.sealer.taken) given.counter) (sym c.sender_of.ensures.newest) newest,
    ) in
    subst (λ (before : Option SealerValue). IsOpenedAs before c.args.bytes.now (Ok (opened_as c.in-Ok.taken.datagram.now (Some c.sender_of.result)))
    (Some c.open.new.self))
    (sym c.in-Some.is) (given, c.open.new.self, c.in-Ok.ensures.taken, refl, sender, refl)

pub returns-in-Err : goal.returns-in-Err
returns-in-Err c =
    subst (λ (before : Option SealerValue). IsOpenedAs before c.args.bytes.now (Err c.in-Err.why) (Some c.open.new.self)) (sym c.in-Some.is)
    (c.open.new.self, c.in-Err.ensures.taken, refl)
