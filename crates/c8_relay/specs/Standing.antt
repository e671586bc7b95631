-- What a relay remembers, and what it does with a packet.
use Rattle.std.specs.Prelude.{◌≡◌, ◌⊎◌, ◌/◌, ℕ, List, None}
use Rattle.c8_relay.specs.Cookies.{cookie_of, HasShown}
use Rattle.c8_relay.specs.Reading.{IsDatagram, IsJoin, spelled}
use Rattle.c8_relay.specs.Seating.{seat_of, sender_at, Sits, Shares, IsPaid, IsLost, IsTold}
use Rattle.c8_relay.specs.declared.address.Address.{Address}
use Rattle.c8_relay.specs.declared.address.Place.{Place}
use Rattle.c8_relay.specs.declared.address.Sender.{Sender}
use Rattle.c8_relay.specs.declared.control.Join.{Join}
use Rattle.c8_relay.specs.declared.control.Route.{Route}
use Rattle.c8_relay.specs.declared.control.Status.{Status}
use Rattle.c8_relay.specs.declared.control.Status.TheVariants.{Prove, Joined, Busy, Full}
use Rattle.c8_relay.specs.declared.relay.Fate.{Fate}
use Rattle.c8_relay.specs.declared.relay.Fate.TheVariants.{Forward, Answer, Dropped}
use Rattle.c8_relay.specs.declared.seats.Seated.{Seated}
use Rattle.c8_relay.specs.declared.sitting.Cause.{Cause}
use Rattle.c8_relay.specs.declared.sitting.Cause.TheVariants.{Unknown, Crowd}

-- the key of its cookies, and who sits where
pub record Standing : Type 0 where
  pub key : List ℕ
  pub members : List (Sender × Seated)

-- a slot of time for cookies has 64 seconds
abbrev pub slot_of : ℕ → ℕ
slot_of now = now / 64_000_000

-- a JOIN asks for this place, from an address that has shown that it receives
abbrev pub Asks : List ℕ → ℕ → Address → List ℕ → Place → Type 0
Asks key slot from packet place = (join : Join) × IsJoin packet join × (join.place ≡ place) × HasShown key slot from join.cookie

-- who sits somewhere sat there before, or asks for it now
abbrev pub SeatsWhoAsks : ℕ → Address → List ℕ → Standing → Standing → Type 0
SeatsWhoAsks now from packet old new = (other : Address) (seat : Place) → Sits new.members other seat
    → Sits old.members other seat ⊎ ((other ≡ from) × Asks old.key (slot_of now) from packet seat)

-- who sits somewhere sat there before, or may sit there by this JOIN
abbrev pub SeatsWhoMay : ℕ → Address → Join → Standing → Standing → Type 0
SeatsWhoMay now from join old new = (other : Address) (seat : Place) → Sits new.members other seat
    → Sits old.members other seat ⊎ ((other ≡ from) × (seat ≡ join.place) × HasShown old.key (slot_of now) from join.cookie)

-- an address is told to prove that it receives where it has not; else what came of its JOIN
abbrev pub IsReply : Type 0 → Type 0 → Status → Type 0
IsReply shown told Prove = shown → ⊥
IsReply shown told Joined = shown × told
IsReply shown told Busy = shown × told
IsReply shown told Full = shown × told

-- a packet has an answer
abbrev pub IsReplied : Fate → Type 0
IsReplied (Forward to) = ⊥
IsReplied (Answer answer) = Unit {0}
IsReplied (Dropped cause) = ⊥

-- A datagram goes from who sits in the place that it names as its sender's to who sits in the other one, in one room, and its
-- sender pays; or it goes to nobody, for its cause.
abbrev pub IsRouted : ℕ → Address → Route → Standing → Standing → Fate → Type 0
IsRouted now from route old new (Forward to) =
    Shares old.members from route to × IsPaid now old.members new.members (record { address = from; lane = route.lane })
IsRouted now from route old new (Answer answer) = ⊥
IsRouted now from route old new (Dropped cause) = IsLost now old.members from route cause

-- a JOIN has the right answer, with the cookie of its address; or none, where too many strangers ask
abbrev pub IsAnswered : ℕ → Address → Join → Standing → Standing → Fate → Type 0
IsAnswered now from join old new (Forward to) = ⊥
IsAnswered now from join old new (Answer answer) = (status : Status) × (answer ≡ spelled status (cookie_of old.key from (slot_of now)))
    × IsReply (HasShown old.key (slot_of now) from join.cookie) (IsTold now from join.place old.members new.members status) status
IsAnswered now from join old new (Dropped cause) = (cause ≡ Crowd) × (seat_of old.members (sender_at from join.place) ≡ None)

-- why a packet leads to nothing: the cause of a datagram, or of a JOIN, or that it is neither
abbrev pub IsDropped : ℕ → Address → List ℕ → Standing → Cause → Type 0
IsDropped now from packet old cause =
    ((route : Route) × IsDatagram packet route × IsLost now old.members from route cause)
    ⊎ ((join : Join) × IsJoin packet join × (cause ≡ Crowd) × (seat_of old.members (sender_at from join.place) ≡ None))
    ⊎ ((cause ≡ Unknown) × ((route : Route) → IsDatagram packet route → ⊥) × ((join : Join) → IsJoin packet join → ⊥))

-- what becomes of a packet, by what it is
abbrev pub IsFair : ℕ → Address → List ℕ → Standing → Standing → Fate → Type 0
IsFair now from packet old new (Forward to) = (route : Route) × IsDatagram packet route × IsRouted now from route old new (Forward to)
IsFair now from packet old new (Answer answer) = (join : Join) × IsJoin packet join × IsAnswered now from join old new (Answer answer)
IsFair now from packet old new (Dropped cause) = IsDropped now from packet old cause
