-- What a wire takes and gives.
use Rattle.std.specs.Prelude.{◌≡◌, ◌⊎◌, ℕ, List, [], ◌∷◌, ◌++◌, take, Option, None, Some, Result, Ok, Err}
use Rattle.c8_transport.specs.declared.error.WireFailed.{WireFailed}

-- the wire takes a datagram, or loses it at once
abbrev pub MayTake : List (List ℕ) → List ℕ → List (List ℕ) → Type 0
MayTake before datagram after = (after ≡ before) ⊎ (after ≡ before ++ datagram ∷ [])

-- the wire gives a packet as the first bytes of a buffer, or has none, or fails
abbrev pub Gives : List (List ℕ) → List ℕ → Result (Option ℕ) WireFailed → List (List ℕ) → Type 0
Gives before buffer (Ok None) after = after ≡ before
Gives before buffer (Ok (Some size)) after = after ≡ before ++ take size buffer ∷ []
Gives before buffer (Err failed) after = after ≡ before

-- how many packets a turn takes from its wire at most, so that it reaches its tick however many wait
abbrev pub most_packets : ℕ
most_packets = 256
