-- The given journals of a match. All of them are read once, and then all of them a second time.
use Rattle.std.specs.Prelude.{◌≡◌, ℕ, ◌≤◌, List, Bool, false, Option, Some, None, option_map}
use Rattle.c8_game.specs.Rules.{Rules}
use Rattle.c8_digest.specs.Origin.{Origin}
use Rattle.c8_known.specs.Journal.{Record}
use Rattle.c8_known.specs.Known.{KnownValue, player_in, known_of, IsOfGame}
use Rattle.c8_record.specs.Checks.{checks_of}

-- two readings of a player's journal
pub record Readings : Type 0 where
  pub first : List Record
  pub later : List Record

-- the readings of each player whose journal is given
abbrev pub Evidence : Type 0
Evidence = ℕ → Option Readings

-- What each of the two readings makes known, and the last checkpoint of the first.
pub record Seen : Type 0 where
  pub first : KnownValue
  pub later : KnownValue
  pub last : Option Origin

abbrev pub seen_of : Rules → ℕ → Readings → Seen
seen_of rules p r = record { first = known_of rules p r.first; later = known_of rules p r.later; last = (checks_of r.first).last }

-- what is known of each player whose journal is given
abbrev pub AllSeen : Type 0
AllSeen = ℕ → Option Seen

abbrev pub seen_in : Rules → Evidence → AllSeen
seen_in rules e p = option_map (seen_of rules p) (e p)

-- the player's journal is given, and this is known by it
pub record IsGiven (all : AllSeen) (p : ℕ) (s : Seen) : Type 0 where
  pub from_one : 1 ≤ p
  pub is : all p ≡ Some s

-- the journals are of players of one game
pub record AreOfGame (rules : Rules) (all : AllSeen) : Type 0 where
  pub at_most_four : rules.players ≤ 4
  pub players : (p : ℕ) (s : Seen) → IsGiven all p s → p ≤ rules.players
  pub first : (p : ℕ) (s : Seen) → IsGiven all p s → IsOfGame rules p s.first
  pub later : (p : ℕ) (s : Seen) → IsGiven all p s → IsOfGame rules p s.later

-- ---- what player 1 decides

abbrev pub dropped_by : Option Seen → ℕ → Bool
dropped_by None q = false
dropped_by (Some one) q = (player_in one.later q).leaving

-- The player was dropped: the second reading of player 1's journal has a LEAVE of it.
abbrev pub is_dropped : AllSeen → ℕ → Bool
is_dropped all q = dropped_by (all 1) q

abbrev pub cut_by : Option Seen → ℕ → Option ℕ
cut_by None q = None
cut_by (Some one) q = (player_in one.later q).cut

-- the length at which the player's list is cut, by that reading
abbrev pub cut_in : AllSeen → ℕ → Option ℕ
cut_in all q = cut_by (all 1) q

-- the player's journal is given, and the player was not dropped
pub record Stays (all : AllSeen) (p : ℕ) (s : Seen) : Type 0 where
  pub given : IsGiven all p s
  pub undropped : is_dropped all p ≡ false
