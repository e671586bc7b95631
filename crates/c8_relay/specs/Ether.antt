-- What an ether takes and gives.
use Rattle.std.specs.Prelude.{◌≡◌, ◌⊎◌, ℕ, List, [], ◌∷◌, ◌++◌, take, Option, None, Some}
use Rattle.c8_relay.specs.declared.address.Address.{Address}

-- the ether takes a packet, or loses it at once
abbrev pub MaySend : List (Address × List ℕ) → Address → List ℕ → List (Address × List ℕ) → Type 0
MaySend before to packet after = (after ≡ before) ⊎ (after ≡ before ++ (to, packet) ∷ [])

-- the ether gives a packet as the first bytes of a buffer, or has none
abbrev pub Gives : List (Address × List ℕ) → List ℕ → Option (ℕ × Address) → List (Address × List ℕ) → Type 0
Gives before buffer None after = after ≡ before
Gives before buffer (Some next) after = after ≡ before ++ (next.1, take next.0 buffer) ∷ []
