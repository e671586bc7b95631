-- Sealed packets: a datagram, a counter, and a tag that only who has the key can make.
use Rattle.std.specs.Prelude.{ℕ, List, ◌++◌, take, codes}
use Rattle.std.specs.Int.{w64, to_be_bytes}
use Rattle.c8_transport.specs.Hmac.{hmac}

-- the key of the players' packets in one session, from the secret that the players share
abbrev pub match_key : List ℕ → ℕ → List ℕ
match_key secret session = hmac secret (codes "c8play sealed 2" ++ to_be_bytes w64 session)

-- the key of the packets between player one and its watchers, from the secret that these share
abbrev pub watch_key : List ℕ → ℕ → List ℕ
watch_key secret session = hmac secret (codes "c8play watched 2" ++ to_be_bytes w64 session)

-- The name of a match's room at a relay, 16 bytes: who lacks the secret cannot tell it. The rooms of players and of watchers have
-- the names of their own secrets.
abbrev pub room_name : List ℕ → ℕ → List ℕ
room_name secret session = take 16 (hmac secret (codes "c8play relay 1" ++ to_be_bytes w64 session))

-- the watchers' secret of a match to which a link invites, from the players' secret
abbrev pub secret_of_watchers : List ℕ → List ℕ
secret_of_watchers secret = hmac secret (codes "c8play watchers 1")

-- the bytes that are tagged: the datagram, and the counter of its packet
abbrev pub counted : ℕ → List ℕ → List ℕ
counted counter datagram = datagram ++ to_be_bytes w64 counter

abbrev pub tag : List ℕ → List ℕ → List ℕ
tag key bytes = take 16 (hmac key bytes)

abbrev pub tagged : List ℕ → List ℕ → List ℕ
tagged key bytes = bytes ++ tag key bytes

-- the packet of a datagram with this counter
abbrev pub sealed : List ℕ → ℕ → List ℕ → List ℕ
sealed key counter datagram = tagged key (counted counter datagram)
