-- Which counters are new. A sender gives each packet a counter of its own, so a counter that came before is that of a copy. Of
-- counters far below the greatest nothing is known any more.
use Rattle.std.specs.Prelude.{◌≢◌, ◌+◌, ◌<◌, ℕ, List, [], ◌∷◌}
use Rattle.std.specs.List.{Contains}

-- how many counters up to the greatest are remembered
abbrev pub window : ℕ
window = 1024

-- A counter is new among those that were taken: each of them is another one, and is less than a window above it.
abbrev pub IsNew : List ℕ → ℕ → Type 0
IsNew taken counter = (c : ℕ) → Contains taken c → (c ≢ counter) × (c < counter + window)

-- a counter is the newest: those that were taken are all below it
abbrev pub IsNewest : List ℕ → ℕ → Type 0
IsNewest taken counter = (c : ℕ) → Contains taken c → c < counter

-- no counter was taken twice
abbrev pub AreOnce : List ℕ → Type 0
AreOnce [] = Unit {0}
AreOnce (c ∷ taken) = (Contains taken c → ⊥) × AreOnce taken
