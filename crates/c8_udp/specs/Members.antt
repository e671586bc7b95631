-- Seats at a relay, and what a socket does for them beside the datagrams.
use Rattle.std.specs.Prelude.{◌≡◌, ◌⊎◌, ℕ, List, [], ◌∷◌, ◌++◌, Option, None, Some}
use Rattle.std.specs.List.{All}
use Rattle.c8_relay.specs.Reading.{asked, spelled}
use Rattle.c8_relay.specs.declared.address.Place.{Place}
use Rattle.c8_relay.specs.declared.control.Join.{Join}
use Rattle.c8_relay.specs.declared.control.Status.{Status}
use Rattle.c8_udp.specs.Letters.{LetterValue, letter}
use Rattle.c8_udp.specs.declared.membership.Membership.{Membership}

-- one of the two seats that a member asks for
abbrev pub IsOwnPlace : Membership → Place → Type 0
IsOwnPlace member place = (place ≡ member.own) ⊎ (member.second ≡ Some place)

-- it asks the same relay for the same seats
pub record IsSameMember (old new : Membership) : Type 0 where
  pub relay : new.relay ≡ old.relay
  pub own : new.own ≡ old.own
  pub second : new.second ≡ old.second

-- the same, also of a socket that goes straight
abbrev pub IsSameRoute : Option Membership → Option Membership → Type 0
IsSameRoute None None = Unit {0}
IsSameRoute None (Some new) = ⊥
IsSameRoute (Some old) None = ⊥
IsSameRoute (Some old) (Some new) = IsSameMember old new

-- a JOIN for one of the member's seats, to its relay
abbrev pub IsAsking : Option Membership → LetterValue → Type 0
IsAsking None sent = ⊥
IsAsking (Some member) sent = (join : Join) × IsOwnPlace member join.place × (sent ≡ letter member.relay (asked join))

-- an answer, as relays give them
abbrev pub IsAnswering : LetterValue → Type 0
IsAnswering given = (status : Status) × (cookie : List ℕ) × (given.bytes ≡ spelled status cookie)

-- the system took JOINs for the own seats, and nothing else
pub record HasAsked (member : Option Membership) (took took_now : List LetterValue) : Type 0 where
  pub joins : List LetterValue
  pub are : All (IsAsking member) joins
  pub took_is : took_now ≡ took ++ joins

-- the system gave answers of a relay, and nothing else
pub record HasHeard (gave gave_now : List LetterValue) : Type 0 where
  pub answers : List LetterValue
  pub are : All IsAnswering answers
  pub gave_is : gave_now ≡ gave ++ answers
