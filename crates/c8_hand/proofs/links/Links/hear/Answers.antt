-- The new links are `heard` of the old ones, so what the laws say of it holds: only a WELCOME opens, no epoch falls.
use Rattle.std.proofs.Common.{◌≡◌, ℕ, ◌≤◌, rules, sym, subst}
use Rattle.c8_wire.specs.Packet.{HeadValue}
use Rattle.c8_wire.specs.Lent.{packet_of}
use Rattle.c8_hand.specs.Links.{LinksValue, link_to, heard, OpensByWelcome}
use Rattle.c8_hand.specs.checked.LinkLaws.{opens_by_welcome, known_rises}
use Rattle.c8_hand.proofs.links.Links.hear.Goals as goal

pub returns-in-Some-clause-opens : goal.returns-in-Some-clause-opens
returns-in-Some-clause-opens c =
    let old : LinksValue = c.args.self.now in
    let head : HeadValue = (packet_of c.args.datagram.now).head in
    let same : c.take.new.self ≡ heard old head = search rules in
    subst (λ (new : LinksValue). OpensByWelcome old head new) (sym same) (opens_by_welcome old head c.requires)

pub returns-in-Some-clause-rises : goal.returns-in-Some-clause-rises
returns-in-Some-clause-rises c =
    let old : LinksValue = c.args.self.now in
    let head : HeadValue = (packet_of c.args.datagram.now).head in
    let same : c.take.new.self ≡ heard old head = search rules in
    subst (λ (new : LinksValue). (player : ℕ) → (link_to old player).known ≤ (link_to new player).known) (sym same)
    (λ player. known_rises old head player c.requires)
