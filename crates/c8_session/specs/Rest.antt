-- When a peer's turns are over.
use Rattle.std.specs.Prelude.{ℕ, ◌≡◌, ◌⊎◌, ◌<◌, ◌==◌, ◌&&◌, ◌||◌, Bool, true, not, if◌then◌else◌}
use Rattle.c8_known.specs.Known.{KnownValue, player_in}
use Rattle.c8_peer.specs.Peer.{PeerValue, known_by}
use Rattle.c8_session.specs.declared.session.Session.{Session}

-- how many turns a peer goes on after everything is confirmed and acknowledged, so that its last datagrams arrive
abbrev pub turns_of_rest : ℕ
turns_of_rest = 120

-- The same for player 1 once it has dropped a player. Nothing acknowledges a CUT: a player that was away may lack it still.
abbrev pub turns_after_a_drop : ℕ
turns_after_a_drop = 1200

-- Whether a journal has the LEAVE of a player. Player 1's has that of each player that it dropped.
abbrev pub has_a_leave : KnownValue → Bool
has_a_leave k = (player_in k 1).leaving || ((player_in k 2).leaving || ((player_in k 3).leaving || (player_in k 4).leaving))

-- How many turns a peer rests. `is_brief`: 120 whoever was dropped.
abbrev pub turns_to_rest : {D : Type 0} → Bool → PeerValue D → ℕ
turns_to_rest is_brief peer = if not is_brief && (peer.me == 1 && has_a_leave (known_by peer)) then turns_after_a_drop else turns_of_rest

-- the peer knows that its player was dropped, or it has rested
abbrev pub IsOver : {D : Type 0} → Session D → Type 0
IsOver session =
    ((player_in (known_by session.peer) session.peer.me).leaving ≡ true)
    ⊎ (turns_to_rest session.schedule.is_brief session.peer < session.schedule.rested)
