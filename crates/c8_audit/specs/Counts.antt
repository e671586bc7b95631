-- The least count of confirmed frames.
use Rattle.std.specs.Prelude.{◌≡◌, ℕ, ◌<◌, ◌≤◌, min, Option, Some, None}
use Rattle.c8_known.specs.Confirmed.{confirmed}
use Rattle.c8_audit.specs.Journals.{Seen, AllSeen, Stays}

abbrev pub lesser_of : Option ℕ → Option Seen → Option ℕ
lesser_of least None = least
lesser_of None (Some s) = Some (confirmed s.first)
lesser_of (Some n) (Some s) = Some (min n (confirmed s.first))

-- N is the least count of the stayers with numbers below `end`: the count of one of them, and no one's is less
pub record IsCountBelow (all : AllSeen) (end N : ℕ) : Type 0 where
  pub player : ℕ
  pub seen : Seen
  pub stays : Stays all player seen
  pub count : confirmed seen.first ≡ N
  pub least : (p : ℕ) (s : Seen) → p < end → Stays all p s → N ≤ confirmed s.first

abbrev pub IsLesserBelow : AllSeen → ℕ → Option ℕ → Type 0
IsLesserBelow all end None = (p : ℕ) (s : Seen) → p < end → Stays all p s → ⊥
IsLesserBelow all end (Some N) = IsCountBelow all end N
