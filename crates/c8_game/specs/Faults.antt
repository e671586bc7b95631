-- The first fault of a text: that of the first line that has one. A judge sees a line, and the lines before it.
use Rattle.std.specs.Prelude.{◌≡◌, ℕ, ◌<◌, List, take, Option, Some, None}
use Rattle.std.specs.List.{slice_get}
use Rattle.std.specs.Option.{option_and_then}

-- the fault of the line at a place; none beyond the last line
abbrev pub fault_at : {E : Type 0} → (List (List ℕ) → List ℕ → Option E) → List (List ℕ) → ℕ → Option E
fault_at judge text_lines place = option_and_then (judge (take place text_lines)) (slice_get text_lines place)

-- no line has a fault
abbrev pub AreFaultless : {E : Type 0} → (List (List ℕ) → List ℕ → Option E) → List (List ℕ) → Type 0
AreFaultless judge text_lines = (place : ℕ) → fault_at judge text_lines place ≡ None

-- the fault of the first line that has one
pub record IsFirstFault {E : Type 0} (judge : List (List ℕ) → List ℕ → Option E) (text_lines : List (List ℕ)) (fault : E) : Type 0 where
  pub place : ℕ
  pub here : fault_at judge text_lines place ≡ Some fault
  pub least : (earlier : ℕ) → earlier < place → fault_at judge text_lines earlier ≡ None

-- this is the first fault, and its line is at this place
abbrev pub IsFirstFaultAt : {E : Type 0} → (List (List ℕ) → List ℕ → Option E) → List (List ℕ) → E → ℕ → Type 0
IsFirstFaultAt judge text_lines fault place = (first : IsFirstFault judge text_lines fault) × (first.place ≡ place)

-- some line has a fault, and the first such line is at this place
abbrev pub IsFirstPlace : {E : Type 0} → (List (List ℕ) → List ℕ → Option E) → List (List ℕ) → ℕ → Type 0
IsFirstPlace {E} judge text_lines place = (fault : E) × IsFirstFaultAt judge text_lines fault place
