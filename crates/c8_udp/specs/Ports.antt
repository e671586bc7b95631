-- Which addresses a UDP socket has to do with.
use Rattle.std.specs.Prelude.{◌≡◌, ℕ, Bool, IsSomeAnd, MatchBool, None, Option}
use Rattle.std.specs.Net.Addr.{IsCanonicalOf, IsIpv6OfBits, embedded_segments, ipv6_bits, ipv6_segments}
use Rattle.std.specs.Net.Socket.{socket_ip, socket_port}
use Rattle.std.specs.declared.net.ip_addr.IpAddr.{IpAddr}
use Rattle.std.specs.declared.net.ip_addr.IpAddr.TheVariants as Ip
use Rattle.std.specs.declared.net.ipv6_addr.Ipv6Addr.{Ipv6Addr}
use Rattle.std.specs.declared.net.socket_addr.SocketAddr.{SocketAddr}
use Rattle.c8_relay.specs.declared.address.Address.{Address}
use Rattle.c8_relay.specs.declared.address.Address.TheVariants.{Udp, Connection}

-- the bits of a host, with IPv4 mapped into IPv6 (RFC 4291, section 2.5.5.2)
abbrev pub AreBits : IpAddr → ℕ → Type 0
AreBits (Ip.V4 ip) bits = (mapped : Ipv6Addr) × (ipv6_segments mapped ≡ embedded_segments 0xffff ip) × (bits ≡ ipv6_bits mapped)
AreBits (Ip.V6 ip) bits = bits ≡ ipv6_bits ip

-- the address is a UDP port, and no connection
abbrev pub IsPort : Address → Type 0
IsPort (Udp host port) = Unit {0}
IsPort (Connection host number) = ⊥

-- the address of packets from a UDP port: its host and its number, and no connection
abbrev pub IsAddressOf : SocketAddr → Address → Type 0
IsAddressOf socket (Udp host port) = AreBits (socket_ip socket) host × (port ≡ socket_port socket)
IsAddressOf socket (Connection host number) = ⊥

-- where a socket of this IP version reaches an address: at its port of its host, which IPv4 has in its own form; no connection
abbrev pub IsTarget : Address → Bool → Option SocketAddr → Type 0
IsTarget (Udp host port) is_ipv6 target =
    IsSomeAnd target (λ socket. (socket_port socket ≡ port) × ((ip : Ipv6Addr) × IsIpv6OfBits ip host
    × MatchBool is_ipv6 (socket_ip socket ≡ Ip.V6 ip) (IsCanonicalOf ip (socket_ip socket))))
IsTarget (Connection host number) is_ipv6 target = target ≡ None
