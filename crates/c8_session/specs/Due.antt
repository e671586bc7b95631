-- Which datagrams a turn says: to whom, of which kind, and in which order.
use Rattle.std.specs.Prelude.{ℕ, zero, suc, ◌+◌, ◌-◌, ◌*◌, ◌/◌, ◌%◌, ◌==◌, ◌&&◌, List, [], ◌∷◌, ◌++◌, Bool, true, false, not, nat_lt}
use Rattle.std.specs.Prelude.{slice_index_or, Option, Some, None, is_some, is_none, option_map, Ok, if◌then◌else◌}
use Rattle.c8_hand.specs.Links.{link_to}
use Rattle.c8_known.specs.Known.{KnownValue, player_in, is_frozen_in}
use Rattle.c8_peer.specs.State.{Memory, Saying, Hello, Welcome, Data, Freeze, Frozen, Cut, Call, Say, Show, Reply, Said}
use Rattle.c8_peer.specs.Steps.{Works, step}
use Rattle.c8_peer.specs.Peer.{PeerValue, known_by}
use Rattle.c8_session.specs.declared.session.Session.{Session}

-- ---- to one player

-- What player `me` has to say to another of a leaver's drop round. Player 1 sends FREEZE to a player that stays until the cut, and CUT to
-- every player after it. The others send FROZEN to player 1 until they have the cut.
abbrev pub due_of_leaver : ℕ → KnownValue → ℕ → ℕ → Option Saying
due_of_leaver me k to leaver =
    if me == 1 then
    (if is_some (player_in k leaver).cut then Some (Cut leaver)
    else (if (player_in k leaver).leaving && not (player_in k to).leaving then Some (Freeze leaver) else None))
    else (if to == 1 && (is_frozen_in k leaver && is_none (player_in k leaver).cut) then Some (Frozen leaver) else None)

-- What player `me` has to say to another at each of seven places: HELLO if the link is not open; WELCOME if the peer has taken a HELLO of
-- that player since it last spoke; DATA if the link is open; then what is due of leavers 1 to 4.
abbrev pub due_to : ℕ → KnownValue → Memory → Bool → ℕ → ℕ → Option Saying
due_to me k m has_greeted to place =
    if place == 0 then (if (link_to m.links to).is_open then None else Some Hello)
    else (if place == 1 then (if has_greeted then Some Welcome else None)
    else (if place == 2 then (if (link_to m.links to).is_open then Some Data else None)
    else due_of_leaver me k to (place - 2)))

-- ---- in a turn

abbrev pub places_of_player : ℕ
places_of_player = 7

abbrev pub places_of_players : ℕ
places_of_players = 4 * places_of_player

abbrev pub places_of_turn : ℕ
places_of_turn = places_of_players + 2

abbrev pub first_watcher : ℕ
first_watcher = 5

-- whether the list has `true` at this place
abbrev pub has : List Bool → ℕ → Bool
has list place = slice_index_or list place false

-- SHOW to a watcher, the first or the second, if it is shown the rows
abbrev pub shown_at : List Bool → ℕ → Option Call
shown_at shown place = if has shown place then Some (Show (first_watcher + place)) else None

-- The call that is due at a place of a turn. Each of the players 1 to 4 has seven places, in order; nothing is due to the
-- peer's own player. Then each watcher has one. `greeters` says by place whose HELLO the peer has taken since it last spoke,
-- `shown` which watchers are shown the rows.
abbrev pub due_at : {D : Type 0} → PeerValue D → List Bool → List Bool → ℕ → Option Call
due_at peer greeters shown place =
    if nat_lt place places_of_players then
    (if (place / places_of_player) + 1 == peer.me then None
    else option_map (Say ((place / places_of_player) + 1))
    (due_to peer.me (known_by peer) peer.state.memory (has greeters (place / places_of_player)) ((place / places_of_player) + 1)
    (place % places_of_player)))
    else shown_at shown (place - places_of_players)

-- ---- what the peer does not refuse to say

abbrev pub is_packet : Reply → Bool
is_packet (Said (Ok packet)) = true
is_packet _ = false

-- the peer answers the call by a packet
unfoldable pub is_sayable : {D : Type 0} → PeerValue D → Call → Bool
is_sayable peer call = is_packet (step peer.rules peer.me peer.state call Works).reply

abbrev pub said_if_due : {D : Type 0} → PeerValue D → Option Call → List Call
said_if_due peer None = []
said_if_due peer (Some call) = if is_sayable peer call then call ∷ [] else []

abbrev pub said_at : {D : Type 0} → PeerValue D → List Bool → List Bool → ℕ → List Call
said_at peer greeters shown place = said_if_due peer (due_at peer greeters shown place)

-- what is said at this number of places from one place on, in order
abbrev pub said_from : {D : Type 0} → PeerValue D → List Bool → List Bool → ℕ → ℕ → List Call
said_from peer greeters shown place zero = []
said_from peer greeters shown place (suc more) = said_at peer greeters shown place ++ said_from peer greeters shown (place + 1) more

-- All that a turn says: what is due at each of its places, unless the peer refuses to say it.
abbrev pub said_in_turn : {D : Type 0} → PeerValue D → List Bool → List Bool → List Call
said_in_turn peer greeters shown = said_from peer greeters shown 0 places_of_turn

-- what a session has still to say in this turn
abbrev pub left_to_say : {D : Type 0} → Session D → List Call
left_to_say session =
    said_from session.peer session.schedule.greeters session.is_shown session.place (places_of_turn - session.place)

-- The session is in a turn: `turn` has prepared datagrams, and `end` has not come after it. A session's place is at most 255.
abbrev pub no_place : ℕ
no_place = 255

abbrev pub is_speaking : {D : Type 0} → Session D → Bool
is_speaking session = not (session.place == no_place)
