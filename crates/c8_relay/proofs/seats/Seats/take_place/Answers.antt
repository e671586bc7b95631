-- The place and the old seat of the address are freed first, so only this address sits somewhere new.
use Rattle.std.proofs.Common.{refl}
use Rattle.c8_relay.proofs.SittingLemmas.{others_stay, sits_only}
use Rattle.c8_relay.proofs.seats.Seats.take_place.Goals as goal

pub returns-clause-others : goal.returns-clause-others
returns-clause-others c = others_stay c.args.address c.args.place _ _ _ _ _ c.vacate.ensures.others c.remove.ensures.changes c.add.result
    c.add.ensures

pub returns-clause-only : goal.returns-clause-only
returns-clause-only c = sits_only c.args.address c.args.place _ _ _ _ _ c.vacate.ensures.others c.remove.ensures.changes refl refl
    c.add.result c.add.ensures
