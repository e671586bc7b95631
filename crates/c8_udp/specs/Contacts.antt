-- Where packets for a player or watcher go. An address that is not named is learnt: it is that of the packet with the greatest
-- counter.
use Rattle.std.specs.Prelude.{◌≡◌, ◌≤◌, List, [], ◌∷◌, nat_lt, Option, None, Some, if◌then◌else◌}
use Rattle.std.specs.List.{Contains}
use Rattle.std.specs.declared.net.socket_addr.SocketAddr.{SocketAddr}
use Rattle.c8_udp.specs.declared.contacts.Contact.{Contact}
use Rattle.c8_udp.specs.declared.contacts.Contact.TheVariants.{Nobody, Named, Learnt}
use Rattle.c8_udp.specs.declared.contacts.Place.{Place}

abbrev pub address_of : Contact → Option SocketAddr
address_of Nobody = None
address_of (Named address) = Some address
address_of (Learnt None) = None
address_of (Learnt (Some place)) = Some place.address

-- the newer of two places
abbrev pub newer : Place → Place → Place
newer known heard = if nat_lt known.counter heard.counter then heard else known

-- after a packet with this counter came from this address
abbrev pub after : Place → Contact → Contact
after heard Nobody = Nobody
after heard (Named address) = Named address
after heard (Learnt None) = Learnt (Some heard)
after heard (Learnt (Some known)) = Learnt (Some (newer known heard))

-- after some packets, one after another
abbrev pub after_all : Contact → List Place → Contact
after_all contact [] = contact
after_all contact (heard ∷ places) = after_all (after heard contact) places

-- the contact is at the place with the greatest counter of these; nowhere if there is none
abbrev pub IsAtNewest : List Place → Contact → Type 0
IsAtNewest places Nobody = ⊥
IsAtNewest places (Named address) = ⊥
IsAtNewest places (Learnt None) = places ≡ []
IsAtNewest places (Learnt (Some place)) = Contains places place × ((other : Place) → Contains places other → other.counter ≤ place.counter)
