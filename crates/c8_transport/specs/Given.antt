-- What was taken of a sealed packet: from whom, with which counter, and the datagram inside.
use Rattle.std.specs.Prelude.{ℕ, ◌==◌, List, [], ◌∷◌, map, if◌then◌else◌}

pub record GivenValue : Type 0 where
  pub from : ℕ
  pub counter : ℕ
  pub datagram : List ℕ

-- the datagrams, oldest first
abbrev pub datagrams_of : List GivenValue → List (List ℕ)
datagrams_of taken = map (λ (given : GivenValue). given.datagram) taken

-- the counters that were taken from one seat, oldest first
abbrev pub counters_of : ℕ → List GivenValue → List ℕ
counters_of seat [] = []
counters_of seat (given ∷ taken) = if given.from == seat then given.counter ∷ counters_of seat taken else counters_of seat taken
