-- Making room frees a silent seat alone, so all others who were heard stay, but for one in this place.
use Rattle.c8_relay.proofs.SittingLemmas.{moves, only_after, only_expelled}
use Rattle.c8_relay.proofs.seats.Seats.enter.Goals as goal

pub returns-then-not-make_room-clause-others : goal.returns-then-not-make_room-clause-others
returns-then-not-make_room-clause-others c = λ other seated far at heard elsewhere. (c.make_room.ensures other seated).1 at heard

pub returns-then-not-make_room-clause-only : goal.returns-then-not-make_room-clause-only
returns-then-not-make_room-clause-only c = only_expelled c.args.now c.args.address c.args.place _ _ c.make_room.ensures

pub returns-then-take_place-clause-others : goal.returns-then-take_place-clause-others
returns-then-take_place-clause-others c = moves c.args.now c.args.address c.args.place _ _ _ c.make_room.ensures c.take_place.ensures.others

pub returns-then-take_place-clause-only : goal.returns-then-take_place-clause-only
returns-then-take_place-clause-only c = only_after c.args.now c.args.address c.args.place _ _ _ c.make_room.ensures c.take_place.ensures.only

pub returns-else-take_place-clause-others : goal.returns-else-take_place-clause-others
returns-else-take_place-clause-others c = moves c.args.now c.args.address c.args.place _ _ _ c.make_room.ensures c.take_place.ensures.others

pub returns-else-take_place-clause-only : goal.returns-else-take_place-clause-only
returns-else-take_place-clause-only c = only_after c.args.now c.args.address c.args.place _ _ _ c.make_room.ensures c.take_place.ensures.only
