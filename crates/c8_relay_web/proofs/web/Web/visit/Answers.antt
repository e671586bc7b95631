-- A connection's turn gives the packet that has come, and leaves other connections alone.
use Rattle.std.proofs.Common.{◌≡◌, ◌<◌, ◌∙◌, [], Option, Some, length, ap, sym, subst, refl, arith}
use Rattle.std.specs.List.{slice_get}
use Rattle.std.proofs.lemmas.Option.{slice_get_read}
use Rattle.c8_relay_web.specs.Steps.{HasNumber, HasPacket, unread, waiting}
use Rattle.c8_relay_web.specs.declared.connection.Connection.{Connection}
use Rattle.c8_relay_web.specs.declared.connection.Guest.{Guest}
use Rattle.c8_relay_web.specs.declared.connection.Next.TheVariants.{Packet}
use Rattle.c8_relay_web.proofs.FrameLemmas.{packet_few}
use Rattle.c8_relay_web.proofs.web.Web.visit.Goals as goal

pub returns-in-Packet-clause-from : goal.returns-in-Packet-clause-from
returns-in-Packet-clause-from c =
    let places = c.args.self.now.places.items in
    let within : c.args.place < length places = omega arith in
    let there : slice_get places c.args.place ≡ Some (Some c.in-Some.connection) =
    slice_get_read places (length places) c.args.place c.index_mut.result.now refl within c.index_mut.ensures.value
    ∙ ap (λ (o : Option Connection). Some o) c.in-Some.is in
    let number = ap (λ (g : Guest). g.number) c.guest-guest.ensures ∙ c.next-next.ensures.number in
    (c.in-Some.connection, there, subst (HasNumber c.in-Some.connection.guest.number) (sym c.address.ensures) number)

pub returns-in-Packet-clause-served : goal.returns-in-Packet-clause-served
returns-in-Packet-clause-served c = λ connection size here none has room.
    let places = c.args.self.now.places.items in
    let within : c.args.place < length places = omega arith in
    let there : slice_get places c.args.place ≡ Some (Some c.in-Some.connection) =
    slice_get_read places (length places) c.args.place c.index_mut.result.now refl within c.index_mut.ensures.value
    ∙ ap (λ (o : Option Connection). Some o) c.in-Some.is in
    let same : connection ≡ c.in-Some.connection = cc in
    let next : c.next-next.result ≡ Packet size =
    c.next-next.ensures.served size (subst (λ (x : Connection). waiting x ≡ []) same none)
    (subst (λ (x : Connection). HasPacket x.stage (unread x) size) same has) room in
    let packet = c.in-Packet.is in
    let is : c.in-Packet.size ≡ size = cc in
    let few = packet_few connection.stage (unread connection) size has in
    omega (arith, c.min.ensures, is, few)
