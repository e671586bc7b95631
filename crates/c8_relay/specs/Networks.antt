-- Which hosts share a limit.
use Rattle.std.specs.Prelude.{◌-◌, ◌/◌, ◌%◌, ◌^◌, ◌==◌, ℕ, cond}
use Rattle.c8_relay.specs.declared.address.Address.{Address}
use Rattle.c8_relay.specs.declared.address.Address.TheVariants.{Udp, Connection}

abbrev pub host_of : Address → ℕ
host_of (Udp host port) = host
host_of (Connection host number) = host

-- an IPv4 host by itself, which is mapped into IPv6 behind 0xffff (RFC 4291, section 2.5.5.2); of others their first 64 bits
abbrev pub network_of : ℕ → ℕ
network_of host = cond (host / 2 ^ 32 == 0xffff) host (host - host % 2 ^ 64)
