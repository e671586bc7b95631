-- What a relay has sent, of what it received.
use Rattle.std.specs.Prelude.{◌≡◌, ◌≤◌, ◌⊎◌, ◌+◌, ℕ, List, [], ◌∷◌, length}
use Rattle.std.specs.List.{All, Contains}
use Rattle.c8_relay.specs.Cookies.{HasShown}
use Rattle.c8_relay.specs.Reading.{IsDatagram, IsJoin}
use Rattle.c8_relay.specs.Seating.{Sits, origin, target}
use Rattle.c8_relay.specs.Standing.{Standing}
use Rattle.c8_relay.specs.declared.address.Address.{Address}
use Rattle.c8_relay.specs.declared.address.Place.{Place}
use Rattle.c8_relay.specs.declared.control.Join.{Join}
use Rattle.c8_relay.specs.declared.control.Route.{Route}

-- an address asked for a place: a JOIN for it came from there, by which it had shown that it receives
abbrev pub HasAsked : List ℕ → List (Address × List ℕ) → Address → Place → Type 0
HasAsked key received address place = (packet : List ℕ) × ((join : Join) × ((slot : ℕ) × (
    Contains received (address, packet) × IsJoin packet join × (join.place ≡ place) × HasShown key slot address join.cookie)))

-- a packet was received from an address that had asked for the place that it names as its sender's, and goes to one that had asked for its
-- addressee's, in one room
abbrev pub IsCarried : List ℕ → List (Address × List ℕ) → Address × List ℕ → Type 0
IsCarried key received packet = (from : Address) × Contains received (from, packet.1) × ((route : Route) × IsDatagram packet.1 route × ((name : ℕ) ×
    HasAsked key received from (origin route name) × HasAsked key received packet.0 (target route name)))

-- 24 bytes go to an address from which a JOIN came, which has 40
abbrev pub IsAnswer : List (Address × List ℕ) → Address × List ℕ → Type 0
IsAnswer received packet = (called : List ℕ) × Contains received (packet.0, called) × ((join : Join) × IsJoin called join × (length packet.1 ≡ 24))

-- how many bytes there are in all
abbrev pub weight : List (Address × List ℕ) → ℕ
weight [] = 0
weight (packet ∷ packets) = length packet.1 + weight packets

-- Each who sits somewhere asked for it. Each packet sent is one that was received, and was to be carried, or an answer. No
-- more packets were sent than received, and no more bytes.
pub record IsHonest (relay : Standing) (received sent : List (Address × List ℕ)) : Type 0 where
  pub seated : (address : Address) (place : Place) → Sits relay.members address place → HasAsked relay.key received address place
  pub due : All (λ packet. IsCarried relay.key received packet ⊎ IsAnswer received packet) sent
  pub fewer : length sent ≤ length received
  pub lighter : weight sent ≤ weight received
