-- Which addresses are connections, and whose.
use Rattle.std.specs.Prelude.{◌==◌, ℕ, Bool, false, Option, None, Some}
use Rattle.c8_relay.specs.declared.address.Address.{Address}
use Rattle.c8_relay.specs.declared.address.Address.TheVariants.{Udp, Connection}

-- the address is a connection, and no UDP port
abbrev pub IsConnection : Address → Type 0
IsConnection (Udp host port) = ⊥
IsConnection (Connection host number) = Unit {0}

-- a place is taken by a connection of this network
abbrev pub is_of : ℕ → Option ℕ → Bool
is_of network None = false
is_of network (Some other) = other == network
