-- How an audit searches for the least fault of a question.
use Rattle.std.specs.Prelude.{◌≡◌, ℕ, ◌<◌, ◌≤◌, ◌⊎◌, Option, Some, None, nat_le, if◌then◌else◌}
use Rattle.c8_audit.specs.Journals.{Seen, AllSeen, Stays}
use Rattle.c8_audit.specs.Verdicts.{IsUnentered, IsDifference, IsAccused, IsOpposed, IsUpTo}
use Rattle.c8_audit.specs.declared.fault.Fault.{Fault}
use Rattle.c8_audit.specs.declared.fault.Question.{Question}
use Rattle.c8_audit.specs.declared.fault.Question.TheVariants.{Entered, Agreed, Accused, Opposed}

-- what is known by the player's journal, if it is given and the player was not dropped
abbrev pub IsStayer : AllSeen → ℕ → Option Seen → Type 0
IsStayer all p None = (s : Seen) → Stays all p s → ⊥
IsStayer all p (Some s) = Stays all p s

-- the answer for these players in this frame is no
abbrev pub IsFault : Question → AllSeen → ℕ → ℕ → ℕ → Type 0
IsFault Entered all frame one other = IsUnentered all frame one other
IsFault Agreed all frame one other = IsDifference all frame one other
IsFault Accused all frame one other = IsAccused all frame one other
IsFault Opposed all frame one other = IsOpposed all frame one other

-- the first frame in which the answer for two players is no; none, if there is no such frame
abbrev pub IsFirstFrame : Question → AllSeen → ℕ → ℕ → Option ℕ → Type 0
IsFirstFrame question all one other None = (frame : ℕ) → IsFault question all frame one other → ⊥
IsFirstFrame question all one other (Some first) =
    IsFault question all first one other × ((frame : ℕ) → IsFault question all frame one other → first ≤ frame)

-- the first fault of two players
abbrev pub IsFirstOf : Question → AllSeen → ℕ → ℕ → Option Fault → Type 0
IsFirstOf question all one other None = (frame : ℕ) → IsFault question all frame one other → ⊥
IsFirstOf question all one other (Some first) =
    (first.one.number ≡ one) × (first.other.number ≡ other) × IsFault question all first.frame one other
    × ((frame : ℕ) → IsFault question all frame one other → first.frame ≤ frame)

-- the least fault of a player with other players below a number
abbrev pub IsLeastOf : Question → AllSeen → ℕ → ℕ → Option Fault → Type 0
IsLeastOf question all one end None = (frame other : ℕ) → other < end → IsFault question all frame one other → ⊥
IsLeastOf question all one end (Some least) =
    (least.one.number ≡ one) × (least.other.number < end) × IsFault question all least.frame one least.other.number
    × ((frame other : ℕ) → other < end → IsFault question all frame one other
    → (least.frame < frame) ⊎ ((least.frame ≡ frame) × (least.other.number ≤ other)))

-- the least fault of all players below a number
abbrev pub IsLeastBelow : Question → AllSeen → ℕ → Option Fault → Type 0
IsLeastBelow question all end None = (frame one other : ℕ) → one < end → IsFault question all frame one other → ⊥
IsLeastBelow question all end (Some least) =
    (least.one.number < end) × IsFault question all least.frame least.one.number least.other.number
    × ((frame one other : ℕ) → one < end → IsFault question all frame one other
    → IsUpTo least.frame least.one.number least.other.number frame one other)

-- the least fault of all
abbrev pub IsLeast : Question → AllSeen → Option Fault → Type 0
IsLeast question all None = (frame one other : ℕ) → IsFault question all frame one other → ⊥
IsLeast question all (Some least) =
    IsFault question all least.frame least.one.number least.other.number
    × ((frame one other : ℕ) → IsFault question all frame one other → IsUpTo least.frame least.one.number least.other.number frame one other)

-- the earlier of two faults; of two in the same frame the first
abbrev pub earlier_of : Option Fault → Option Fault → Option Fault
earlier_of None found = found
earlier_of (Some least) None = Some least
earlier_of (Some least) (Some found) = if nat_le least.frame found.frame then Some least else Some found
