-- How the words of a command line name addresses.
use Rattle.std.specs.Prelude.{◌≡◌, ◌≢◌, ◌⊎◌, ℕ, List, codes, Bool, true, Option, None, Some, slice_index_or}
use Rattle.std.specs.Borrow.{Bor}
use Rattle.std.specs.List.{Contains}
use Rattle.std.specs.Net.Grammar.{IsSocketText}
use Rattle.std.specs.Net.Addr.{is_ipv4}
use Rattle.std.specs.Net.Socket.{socket_ip, socket_port}
use Rattle.std.specs.declared.net.socket_addr.SocketAddr.{SocketAddr}
use Rattle.c8_udp.specs.declared.addresses.Remote.{Remote}
use Rattle.c8_udp.specs.declared.addresses.Remote.TheVariants.{At, Learnt}

-- the word spells an address that can be reached from the own one; or it is `-`, where an address may be learnt
abbrev pub IsRemote : Bool → SocketAddr → List ℕ → Remote → Type 0
IsRemote may_learn own word (At address) =
    IsSocketText word address × (socket_port address ≢ 0) × (is_ipv4 (socket_ip address) ≡ is_ipv4 (socket_ip own))
IsRemote may_learn own word Learnt = (may_learn ≡ true) × (word ≡ codes "-")

abbrev pub IsNoAddress : List ℕ → Type 0
IsNoAddress word = (address : SocketAddr) → IsSocketText word address → ⊥

-- the word is no `-` that may be learnt, and spells no address, or one that cannot be reached
pub record IsNoRemote (may_learn : Bool) (own : SocketAddr) (word : List ℕ) : Type 0 where
  pub named : may_learn ≡ true → word ≢ codes "-"
  pub unreached : IsNoAddress word ⊎ ((address : SocketAddr) × IsSocketText word address
      × ((socket_port address ≡ 0) ⊎ (is_ipv4 (socket_ip address) ≢ is_ipv4 (socket_ip own))))

-- The own address cannot be read, or the word of another player or of a watcher names none.
abbrev pub AreNoAddresses : Bool → List ℕ → List (Bor (List ℕ)) → List (Option (Bor (List ℕ))) → Type 0
AreNoAddresses may_learn local remotes watchers =
    IsNoAddress local
    ⊎ ((own : SocketAddr) × IsSocketText local own
    × ((word : Bor (List ℕ)) × (Contains remotes word ⊎ ((k : ℕ) × (slice_index_or watchers k None ≡ Some word)))
    × IsNoRemote may_learn own word.now))
