-- A datagram that is admitted and is no SEEN comes from another player of the match and is for this one.
use Rattle.std.proofs.Common.{◌≡◌, rules, None, sym, ◌∙◌}
use Rattle.c8_wire.specs.Packet.{HeadValue}
use Rattle.c8_wire.specs.Lent.{packet_of}
use Rattle.c8_hand.specs.Links.{admission}
use Rattle.c8_hand.specs.checked.LinkLaws.{is_for_me, of_player}
use Rattle.c8_hand.proofs.links.Links.admit.Goals as goal

pub returns-in-None-clause-mine : goal.returns-in-None-clause-mine
returns-in-None-clause-mine c other =
    let head : HeadValue = (packet_of c.args.datagram.now).head in
    let none : admission c.args.self.now head ≡ None = search rules in
    is_for_me c.args.self.now head (sym (of_player c.args.self.now head other) ∙ none)
