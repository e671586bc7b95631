-- The cookie of an address: only who receives there can know it.
use Rattle.std.specs.Prelude.{◌≡◌, ◌⊎◌, ◌+◌, ◌*◌, ◌-◌, ◌^◌, ℕ, List, take, replicate}
use Rattle.std.specs.Int.{w128, to_be_bytes}
use Rattle.c8_transport.specs.Hmac.{hmac}
use Rattle.c8_relay.specs.declared.address.Address.{Address}
use Rattle.c8_relay.specs.declared.address.Address.TheVariants.{Udp, Connection}

-- the first 16 bytes of HMAC-SHA256 over the port and the slot of time, with a key that is the HMAC of the host; a connection needs none
unfoldable pub cookie_of : List ℕ → Address → ℕ → List ℕ
cookie_of key (Udp host port) slot = take 16 (hmac (hmac key (to_be_bytes w128 host)) (to_be_bytes w128 (port * 2 ^ 64 + slot)))
cookie_of key (Connection host number) slot = replicate 16 0

-- the address has shown that it receives: it is a connection, or it said the cookie that it was told in this slot or the one before
abbrev pub HasShown : List ℕ → ℕ → Address → List ℕ → Type 0
HasShown key slot (Udp host port) cookie = (cookie ≡ cookie_of key (Udp host port) slot) ⊎ (cookie ≡ cookie_of key (Udp host port) (slot - 1))
HasShown key slot (Connection host number) cookie = Unit {0}
