-- What a watcher hears from the player who shows it a match.
use Rattle.std.specs.Prelude.{◌≡◌, ℕ, List, [], ◌∷◌, Option, Ok}
use Rattle.c8_wire.specs.Packet.{ShowMessage, Packet}
use Rattle.c8_wire.specs.Packet as packets
use Rattle.c8_wire.specs.checked.Read.{read}
use Rattle.c8_peer.specs.State.{Reply}
use Rattle.c8_peer.specs.Runs.{IsAmong}

-- One of these answers said each SHOW among these packets. Other packets may be anything.
abbrev pub ShowsWereSaid : List (Option Reply) → List (List ℕ) → Type 0
ShowsWereSaid answers [] = Unit {0}
ShowsWereSaid answers (bytes ∷ given) = ((p : Packet) (m : ShowMessage) → read bytes ≡ Ok p → p.message ≡ packets.Show m
    → IsAmong answers p) × ShowsWereSaid answers given
