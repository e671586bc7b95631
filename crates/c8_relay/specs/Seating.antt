-- Who sits where.
use Rattle.std.specs.Prelude.{◌≡◌, ◌≤◌, ◌<◌, ◌+◌, ◌⊎◌, ◌↔◌, ◌∷◌, [], ℕ, Bool, cond, List, Option, Some, max}
use Rattle.std.specs.Map.{lookup}
use Rattle.c8_relay.specs.declared.address.Address.{Address}
use Rattle.c8_relay.specs.declared.address.Place.{Place}
use Rattle.c8_relay.specs.declared.address.Sender.{Sender}
use Rattle.c8_relay.specs.declared.control.Route.{Route}
use Rattle.c8_relay.specs.declared.control.Status.{Status}
use Rattle.c8_relay.specs.declared.control.Status.TheVariants.{Prove, Joined, Busy, Full}
use Rattle.c8_relay.specs.declared.seats.Seated.{Seated}
use Rattle.c8_relay.specs.declared.sitting.Cause.{Cause}
use Rattle.c8_relay.specs.declared.sitting.Cause.TheVariants.{Unknown, Stranger, Nobody, TooFast, Crowd}
use Rattle.c8_relay.specs.Budget.{Pass}
use Rattle.c8_relay.specs.contracts.address.SenderPartialEq.TheImpl as sender_eq
use Rattle.c8_relay.specs.contracts.address.PlacePartialEq.TheImpl as place_eq

abbrev pub same_sender : Sender → Sender → Bool
same_sender = (sender_eq.ghosts).eq

abbrev pub same_place : Place → Place → Bool
same_place = (place_eq.ghosts).eq

-- the seat of a sender
abbrev pub seat_of : List (Sender × Seated) → Sender → Option Seated
seat_of members sender = lookup (same_sender sender) members

-- the place where a sender with this seat sits
abbrev pub place_of : Sender → Seated → Place
place_of sender seated = record { name = seated.name; lane = sender.lane; seat = seated.seat }

-- each who sits somewhere is found by the place
abbrev pub IsIndexed : List (Sender × Seated) → List (Place × Address) → Type 0
IsIndexed members places = (sender : Sender) (seated : Seated) → seat_of members sender ≡ Some seated
    → lookup (same_place (place_of sender seated)) places ≡ Some sender.address

-- only this sender's seat changes, to this one
abbrev pub Changes : List (Sender × Seated) → List (Sender × Seated) → Sender → Option Seated → Type 0
Changes old new sender seated = (other : Sender) → seat_of new other ≡ cond (same_sender sender other) seated (seat_of old other)

-- nobody's seat changes
abbrev pub Stays : List (Sender × Seated) → List (Sender × Seated) → Type 0
Stays old new = (other : Sender) → seat_of new other ≡ seat_of old other

-- its address was heard 3 seconds ago or earlier
abbrev pub IsSilent : ℕ → Seated → Type 0
IsSilent now seated = seated.heard + 3_000_000 ≤ now

-- who sits in a place has this address, if anybody does
abbrev pub IsHolder : List (Sender × Seated) → Place → Option Address → Type 0
IsHolder members place holder = (sender : Sender) (seated : Seated) → seat_of members sender ≡ Some seated → place_of sender seated ≡ place
    → holder ≡ Some sender.address

-- an address in the lane of a place
abbrev pub sender_at : Address → Place → Sender
sender_at address place = record { address = address; lane = place.lane }

-- the address sits in this place
abbrev pub Sits : List (Sender × Seated) → Address → Place → Type 0
Sits members address place = (seated : Seated) × (seat_of members (sender_at address place) ≡ Some seated) × (seated.name ≡ place.name)
    × (seated.seat ≡ place.seat)

-- the address sits in this place, and was heard in the last 3 seconds
abbrev pub Listens : ℕ → List (Sender × Seated) → Address → Place → Type 0
Listens now members address place = (seated : Seated) × (seat_of members (sender_at address place) ≡ Some seated)
    × (seated.name ≡ place.name) × (seated.seat ≡ place.seat) × (now < seated.heard + 3_000_000)

-- the address sits in this place, and was heard now
abbrev pub IsHeard : ℕ → List (Sender × Seated) → Address → Place → Type 0
IsHeard now members address place = (seated : Seated) × (seat_of members (sender_at address place) ≡ Some seated)
    × (seated.name ≡ place.name) × (seated.seat ≡ place.seat) × (seated.heard ≡ now)

-- only this address moves or is heard; others who were heard in the last 3 seconds stay as they are
abbrev pub KeepsOthers : ℕ → Address → List (Sender × Seated) → List (Sender × Seated) → Type 0
KeepsOthers now address old new = (other : Sender) (seated : Seated) → (other.address ≡ address → ⊥) → seat_of old other ≡ Some seated
    → now < seated.heard + 3_000_000
    → seat_of new other ≡ Some seated

-- who sits somewhere sat there before, or is this address in this place
abbrev pub SeatsOnly : Address → Place → List (Sender × Seated) → List (Sender × Seated) → Type 0
SeatsOnly address place old new = (other : Address) (seat : Place) → Sits new other seat → Sits old other seat ⊎ ((other ≡ address) × (seat ≡ place))

-- everybody sits where they sat
abbrev pub SeatsNobody : List (Sender × Seated) → List (Sender × Seated) → Type 0
SeatsNobody old new = (other : Address) (seat : Place) → Sits new other seat ↔ Sits old other seat

-- nobody gets a seat, and only a seat in this place may be freed
abbrev pub Vacates : List (Sender × Seated) → List (Sender × Seated) → Place → Type 0
Vacates old new place = (other : Sender) (seated : Seated) →
    (seat_of new other ≡ Some seated → seat_of old other ≡ Some seated)
    × (seat_of old other ≡ Some seated → (place_of other seated ≡ place → ⊥) → seat_of new other ≡ Some seated)

-- the place in a room of this name that a datagram names as its sender's, and the one that it names as its addressee's
abbrev pub origin : Route → ℕ → Place
origin route name = record { name = name; lane = route.lane; seat = route.from }

abbrev pub target : Route → ℕ → Place
target route name = record { name = name; lane = route.lane; seat = route.to }

-- the two sit in the places that a datagram names, in one room
abbrev pub Shares : List (Sender × Seated) → Address → Route → Address → Type 0
Shares members from route to = (name : ℕ) × Sits members from (origin route name) × Sits members to (target route name)

-- a datagram that is to be carried: it comes from who sits in the place that it names as its sender's and has a budget left, and who sits
-- in the other listens
abbrev pub IsServed : ℕ → List (Sender × Seated) → Address → Route → Address → Type 0
IsServed now members from route to = (mine : Seated) × (seat_of members (record { address = from; lane = route.lane }) ≡ Some mine)
    × (mine.seat ≡ route.from)
    × (mine.bucket.full_at + 1_000 ≤ now + 128_000) × Listens now members to (target route mine.name)

-- the sender of a datagram was heard now, and paid for it
abbrev pub IsPaid : ℕ → List (Sender × Seated) → List (Sender × Seated) → Sender → Type 0
IsPaid now old new sender = (mine : Seated) × (seat_of old sender ≡ Some mine) × Pass mine.bucket.full_at (now ∷ [])
    × (seat_of new sender ≡ Some (record mine { heard = now; bucket = record { full_at = max mine.bucket.full_at now + 1_000 } }))

-- Why a datagram goes to nobody: its sender does not sit in the place that it names; nobody listens in the other one; or its
-- sender has used up its budget.
abbrev pub IsLost : ℕ → List (Sender × Seated) → Address → Route → Cause → Type 0
IsLost now members from route Unknown = ⊥
IsLost now members from route Stranger = (name : ℕ) → Sits members from (origin route name) → ⊥
IsLost now members from route Nobody = (name : ℕ) × Sits members from (origin route name)
    × ((to : Address) → Listens now members to (target route name) → ⊥)
IsLost now members from route TooFast = (mine : Seated) × (seat_of members (record { address = from; lane = route.lane }) ≡ Some mine)
    × (mine.seat ≡ route.from)
    × (now + 128_000 < mine.bucket.full_at + 1_000)
IsLost now members from route Crowd = ⊥

-- nobody gets a seat, and only a seat that was not heard in the last 3 seconds may be freed
abbrev pub Expels : ℕ → List (Sender × Seated) → List (Sender × Seated) → Type 0
Expels now old new = (other : Sender) (seated : Seated) →
    (seat_of new other ≡ Some seated → seat_of old other ≡ Some seated)
    × (seat_of old other ≡ Some seated → now < seated.heard + 3_000_000 → seat_of new other ≡ Some seated)

-- others who were heard in the last 3 seconds stay as they are, but for one in this place
abbrev pub Moves : ℕ → Address → Place → List (Sender × Seated) → List (Sender × Seated) → Type 0
Moves now address place old new = (other : Sender) (seated : Seated) → (other.address ≡ address → ⊥) → seat_of old other ≡ Some seated
    → now < seated.heard + 3_000_000
    → (place_of other seated ≡ place → ⊥) → seat_of new other ≡ Some seated

-- What an address was told, and what holds then: it sits in the place, and was heard now; or another address does, and was heard in
-- the last 3 seconds, and nothing changes. Who sits in the place is never told that the relay is full.
abbrev pub IsTold : ℕ → Address → Place → List (Sender × Seated) → List (Sender × Seated) → Status → Type 0
IsTold now address place old new Joined = IsHeard now new address place
IsTold now address place old new Busy = ((other : Address) × (other ≡ address → ⊥) × Listens now old other place) × (new ≡ old)
IsTold now address place old new Full = Sits old address place → ⊥
IsTold now address place old new Prove = ⊥
