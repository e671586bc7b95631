-- What a relay reads of a packet, and how its answers are spelled.
use Rattle.std.specs.Prelude.{◌≡◌, ◌≤◌, ℕ, List, ◌∷◌, ◌++◌, length, slice_index, slice_range, Option, Some, option_map}
use Rattle.std.specs.Int.{w128, from_be_bytes, to_be_bytes}
use Rattle.c8_wire.specs.declared.kinds.KeyOf.{KeyOf}
use Rattle.c8_wire.specs.declared.kinds.KeyOf.TheVariants as keys
use Rattle.c8_wire.specs.Kinds.{kind_of_code, shape_of}
use Rattle.c8_relay.specs.declared.address.Lane.{Lane}
use Rattle.c8_relay.specs.declared.address.Lane.TheVariants.{Players, Watchers}
use Rattle.c8_relay.specs.declared.control.Join.{Join}
use Rattle.c8_relay.specs.declared.control.Route.{Route}
use Rattle.c8_relay.specs.declared.control.Spoken as spoken
use Rattle.c8_relay.specs.declared.control.Spoken.{Spoken}
use Rattle.c8_relay.specs.declared.control.Spoken.TheVariants.{Datagram, Nothing}
use Rattle.c8_relay.specs.declared.control.Status.{Status}
use Rattle.c8_relay.specs.declared.control.Status.TheVariants.{Prove, Joined, Busy, Full}

-- a lane for each secret
abbrev pub lane_of_key : KeyOf → Lane
lane_of_key keys.Players = Players
lane_of_key keys.Watchers = Watchers

-- the lane of the kind with a code, if there is one
abbrev pub lane_of_kind : ℕ → Option Lane
lane_of_kind code = option_map (λ kind. lane_of_key (shape_of kind).key) (kind_of_code code)

-- byte 5 of a JOIN
abbrev pub lane_code : Lane → ℕ
lane_code Players = 0
lane_code Watchers = 1

abbrev pub IsSeat : ℕ → Type 0
IsSeat seat = (1 ≤ seat) × (seat ≤ 6)

-- a sealed packet from one seat to another, by its length and its header
pub record IsDatagram (packet : List ℕ) (route : Route) : Type 0 where
  pub shortest : 48 ≤ length packet
  pub longest : length packet ≤ 198
  pub first : slice_index packet 0 ≡ 0x43
  pub second : slice_index packet 1 ≡ 0x38
  pub kind : lane_of_kind (slice_index packet 3) ≡ Some route.lane
  pub from : route.from ≡ slice_index packet 12
  pub to : route.to ≡ slice_index packet 13
  pub sender : IsSeat (slice_index packet 12)
  pub addressee : IsSeat (slice_index packet 13)
  pub apart : slice_index packet 12 ≡ slice_index packet 13 → ⊥

-- a JOIN for a place, with a cookie
pub record IsJoin (packet : List ℕ) (join : Join) : Type 0 where
  pub size : length packet ≡ 40
  pub first : slice_index packet 0 ≡ 0x43
  pub second : slice_index packet 1 ≡ 0x52
  pub version : slice_index packet 2 ≡ 1
  pub kind : slice_index packet 3 ≡ 1
  pub seat : join.place.seat ≡ slice_index packet 4
  pub within : IsSeat (slice_index packet 4)
  pub lane : lane_code join.place.lane ≡ slice_index packet 5
  pub room : join.place.name ≡ from_be_bytes w128 (slice_range packet 8 24)
  pub cookie : join.cookie ≡ slice_range packet 24 40

-- the 40 bytes of a JOIN
abbrev pub asked : Join → List ℕ
asked join = 0x43 ∷ 0x52 ∷ 1 ∷ 1 ∷ join.place.seat ∷ lane_code join.place.lane ∷ 0 ∷ 0 ∷ to_be_bytes w128 join.place.name ++ join.cookie

-- a packet is read as what it is
abbrev pub IsRead : List ℕ → Spoken → Type 0
IsRead packet (spoken.TheVariants.Join join) = IsJoin packet join
IsRead packet (Datagram route) = IsDatagram packet route
IsRead packet Nothing = ((join : Join) → IsJoin packet join → ⊥) × ((route : Route) → IsDatagram packet route → ⊥)

-- byte 3 of an answer
abbrev pub status_code : Status → ℕ
status_code Prove = 2
status_code Joined = 3
status_code Busy = 4
status_code Full = 5

-- the 24 bytes of an answer: its head, and a cookie
abbrev pub spelled : Status → List ℕ → List ℕ
spelled status cookie = 0x43 ∷ 0x52 ∷ 1 ∷ status_code status ∷ 0 ∷ 0 ∷ 0 ∷ 0 ∷ cookie
