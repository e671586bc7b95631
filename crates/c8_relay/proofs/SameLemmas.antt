-- What `==` of senders and of places tells.
use Rattle.std.proofs.Common.{◌≡◌, Bool, ℕ, Decides, ap, ap₂, rules}
use Rattle.std.proofs.lemmas.Bool.Decides.{Decides-and, Decides-like, Decides-eqb}
use Rattle.c8_relay.specs.declared.address.Address.{Address}
use Rattle.c8_relay.specs.declared.address.Address.TheVariants.{Udp, Connection}
use Rattle.c8_relay.specs.declared.address.Lane.{Lane}
use Rattle.c8_relay.specs.declared.address.Place.{Place}
use Rattle.c8_relay.specs.declared.address.Sender.{Sender}
use Rattle.c8_relay.specs.contracts.address.AddressPartialEq.TheImpl as address_eq
use Rattle.c8_relay.specs.contracts.address.LanePartialEq.TheImpl as lane_eq
use Rattle.c8_relay.specs.Seating.{same_sender, same_place}

abbrev same_address : Address → Address → Bool
same_address = (address_eq.ghosts).eq

abbrev same_lane : Lane → Lane → Bool
same_lane = (lane_eq.ghosts).eq

lane_decides : (a b : Lane) → Decides (same_lane a b) (a ≡ b)
lane_decides a b = search rules

address_decides : (a b : Address) → Decides (same_address a b) (a ≡ b)
address_decides (Udp h p) (Udp i q) = Decides-like _ (λ e. ap₂ Udp e.0 e.1) (λ e. (cc, cc)) (Decides-and _ _ (Decides-eqb h i) (Decides-eqb p q))
address_decides (Udp h p) (Connection i q) = (λ e. cc, λ e. cc)
address_decides (Connection h p) (Udp i q) = (λ e. cc, λ e. cc)
address_decides (Connection h p) (Connection i q) =
    Decides-like _ (λ e. ap₂ Connection e.0 e.1) (λ e. (cc, cc)) (Decides-and _ _ (Decides-eqb h i) (Decides-eqb p q))

a_sender : Address → Lane → Sender
a_sender address lane = record { address = address; lane = lane }

pub one_sender : (a b : Sender) → a.address ≡ b.address → a.lane ≡ b.lane → a ≡ b
unfolding a_sender
one_sender a b address lane = ap₂ a_sender address lane

pub sender_decides : (a b : Sender) → Decides (same_sender a b) (a ≡ b)
unfolding a_sender
sender_decides a b = Decides-like _ (λ e. ap₂ a_sender e.0 e.1) (λ e. (ap (λ s. s.address) e, ap (λ s. s.lane) e))
    (Decides-and (same_address a.address b.address) (same_lane a.lane b.lane) (address_decides a.address b.address) (lane_decides a.lane b.lane))

a_place : ℕ → Lane × ℕ → Place
a_place name rest = record { name = name; lane = rest.0; seat = rest.1 }

pub one_place : (a b : Place) → a.name ≡ b.name → a.lane ≡ b.lane → a.seat ≡ b.seat → a ≡ b
unfolding a_place
one_place a b name lane seat = ap₂ a_place name (λ i. (lane i, seat i))

pub place_decides : (a b : Place) → Decides (same_place a b) (a ≡ b)
unfolding a_place
place_decides a b = Decides-like _ (λ e. ap₂ a_place e.0 (λ i. (e.1.0 i, e.1.1 i)))
    (λ e. (ap (λ s. s.name) e, (ap (λ s. s.lane) e, ap (λ s. s.seat) e)))
    (Decides-and _ _ (Decides-eqb a.name b.name) (Decides-and (same_lane a.lane b.lane) _ (lane_decides a.lane b.lane) (Decides-eqb a.seat b.seat)))
