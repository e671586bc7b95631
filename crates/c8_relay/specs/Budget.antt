-- When the datagrams of a seat may pass.
use Rattle.std.specs.Prelude.{◌≤◌, ◌+◌, ℕ, List, [], ◌∷◌}

-- datagrams may pass at these times, one after another, with a budget that is full again at `full`
abbrev pub Pass : ℕ → List ℕ → Type 0
Pass full [] = Unit {0}
Pass full (now ∷ times) = (from : ℕ) × (full ≤ from) × (now ≤ from) × (from + 1_000 ≤ now + 128_000) × Pass (from + 1_000) times

-- each time lies between two
abbrev pub Between : ℕ → ℕ → List ℕ → Type 0
Between start end [] = Unit {0}
Between start end (now ∷ times) = (start ≤ now) × (now ≤ end) × Between start end times
