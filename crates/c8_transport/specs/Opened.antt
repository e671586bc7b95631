-- Packets and the datagrams inside. A packet is sealed with one of two keys, by its kind.
use Rattle.std.specs.Prelude.{◌≡◌, ◌≤◌, ℕ, ◌-◌, List, [], ◌∷◌, length, take, drop, flat_map, slice_index_or, bytes_eq, Option, None, Some}
use Rattle.std.specs.Prelude.{option_map, if◌then◌else◌}
use Rattle.std.specs.Int.{w64, from_be_bytes}
use Rattle.c8_transport.specs.Seal.{sealed, match_key, watch_key}
use Rattle.c8_wire.specs.declared.kinds.DatagramKind.{DatagramKind}
use Rattle.c8_wire.specs.declared.kinds.KeyOf.{KeyOf}
use Rattle.c8_wire.specs.declared.kinds.KeyOf.TheVariants as key
use Rattle.c8_wire.specs.Kinds.{kind_of_code, shape_of}
use Rattle.c8_transport.specs.declared.keys.SealKeys.{SealKeys}
use Rattle.c8_transport.specs.declared.keys.Secrets.{Secrets}

-- whose key seals a kind; what is no kind counts as the players'
abbrev pub key_of : Option DatagramKind → KeyOf
key_of None = key.Players
key_of (Some kind) = (shape_of kind).key

abbrev pub key_in : SealKeys → KeyOf → Option (List ℕ)
key_in keys key.Players = keys.players
key_in keys key.Watchers = keys.watchers

-- the key of a datagram, by the kind that byte 3 names, if these keys have it
abbrev pub key_for : SealKeys → List ℕ → Option (List ℕ)
key_for keys datagram = key_in keys (key_of (kind_of_code (slice_index_or datagram 3 0)))

-- the packet is the sealing of this datagram, with this counter and the key of its kind
pub record IsSealing (keys : SealKeys) (packet : List ℕ) (counter : ℕ) (datagram : List ℕ) : Type 0 where
  pub key : List ℕ
  pub has : key_for keys datagram ≡ Some key
  pub few : length datagram ≤ 174
  pub is : packet ≡ sealed key counter datagram

-- the keys of these secrets in a session
pub record AreKeysOf (secrets : Secrets) (session : ℕ) (keys : SealKeys) : Type 0 where
  pub players : keys.players ≡ option_map (λ secret. match_key secret session) secrets.players
  pub watchers : keys.watchers ≡ option_map (λ secret. watch_key secret session) secrets.watchers

-- ---- the datagrams of packets, whatever their counters

abbrev pub datagram_in : List ℕ → List ℕ
datagram_in packet = take (length packet - 24) packet

abbrev pub counter_in : List ℕ → ℕ
counter_in packet = from_be_bytes w64 (take 8 (drop (length packet - 24) packet))

-- a packet gives what is before its seal if it is the sealing of that
abbrev pub opened_by : Option (List ℕ) → List ℕ → List (List ℕ)
opened_by None packet = []
opened_by (Some key) packet = if bytes_eq packet (sealed key (counter_in packet) (datagram_in packet)) then datagram_in packet ∷ [] else []

abbrev pub datagram_of : SealKeys → List ℕ → List (List ℕ)
datagram_of keys packet = opened_by (key_for keys (datagram_in packet)) packet

-- the datagrams of packets, in their order
abbrev pub opened : SealKeys → List (List ℕ) → List (List ℕ)
opened keys packets = flat_map (datagram_of keys) packets
