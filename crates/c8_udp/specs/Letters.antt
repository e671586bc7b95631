-- What a socket gives and takes: bytes, with the address that they come from or go to.
use Rattle.std.specs.Prelude.{◌≡◌, ◌⊎◌, ℕ, List, [], ◌∷◌, ◌++◌, Option, None, Some}
use Rattle.std.specs.declared.net.socket_addr.SocketAddr.{SocketAddr}

pub record LetterValue : Type 0 where
  pub address : SocketAddr
  pub bytes : List ℕ

abbrev pub letter : SocketAddr → List ℕ → LetterValue
letter address bytes = record { address = address; bytes = bytes }

-- A datagram for an address was posted: the socket took it, and it counts as sent; or neither. Without an address neither.
abbrev pub IsPosted : Option SocketAddr → List ℕ → List LetterValue → List LetterValue → List (List ℕ) → List (List ℕ) → Type 0
IsPosted None datagram took took_now sent sent_now = (took_now ≡ took) × (sent_now ≡ sent)
IsPosted (Some address) datagram took took_now sent sent_now =
    ((took_now ≡ took) × (sent_now ≡ sent)) ⊎ ((took_now ≡ took ++ letter address datagram ∷ []) × (sent_now ≡ sent ++ datagram ∷ []))

-- The packet is the last one that the socket gave, and this is where it came from; those before it were skipped.
pub record HasCome (gave gave_now : List LetterValue) (packet : List ℕ) (from : Option SocketAddr) : Type 0 where
  pub skipped : List LetterValue
  pub address : SocketAddr
  pub gave_is : gave_now ≡ gave ++ (skipped ++ letter address packet ∷ [])
  pub from_is : from ≡ Some address
