-- What the marks of a window say of the counters that were taken.
use Rattle.std.specs.Prelude.{◌≡◌, ◌↔◌, ◌+◌, ◌<◌, ◌≤◌, ◌%◌, ℕ, Bool, true, false, List, [], Option, None, Some, slice_index_or}
use Rattle.std.specs.List.{Contains}
use Rattle.c8_transport.specs.Counters.{window}

-- the mark of a counter, at the place of its last ten bits
abbrev pub mark_of : List Bool → ℕ → Bool
mark_of marks counter = slice_index_or marks (counter % 1024) false

-- The greatest counter was taken, none above it, and within a window below it the marks say which ones.
pub record AreMarked (greatest : ℕ) (marks : List Bool) (taken : List ℕ) : Type 0 where
  pub reached : Contains taken greatest
  pub upper : (c : ℕ) → Contains taken c → c ≤ greatest
  pub marked : (c : ℕ) → c ≤ greatest → greatest < c + window → (mark_of marks c ≡ true) ↔ Contains taken c

-- before the first counter no mark is set
abbrev pub HasSeen : Option ℕ → List Bool → List ℕ → Type 0
HasSeen None marks taken = (taken ≡ []) × ((c : ℕ) → mark_of marks c ≡ false)
HasSeen (Some greatest) marks taken = AreMarked greatest marks taken
