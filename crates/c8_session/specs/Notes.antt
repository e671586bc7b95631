-- What a session notes from turn to turn: whose HELLO it has to answer, which watchers it shows the rows, and how long it has rested.
use Rattle.std.specs.Prelude.{ℕ, ◌+◌, ◌-◌, ◌^◌, ◌==◌, ◌&&◌, ◌||◌, nat_lt, nat_le, min, is_some, Bool, true, false}
use Rattle.std.specs.Prelude.{List, [], ◌∷◌, Result, Ok, Err, slice_set, if◌then◌else◌}
use Rattle.c8_wire.specs.declared.kinds.DatagramKind.{DatagramKind}
use Rattle.c8_wire.specs.declared.kinds.DatagramKind.TheVariants as kinds
use Rattle.c8_wire.specs.Packet.{HeadValue}
use Rattle.c8_wire.specs.Seats.{is_player}
use Rattle.c8_known.specs.Confirmed.{confirmed}
use Rattle.c8_known.specs.Known.{player_in}
use Rattle.c8_window.specs.Window.{acked_of}
use Rattle.c8_refusals.specs.declared.error.Refused.{Refused}
use Rattle.c8_peer.specs.declared.heard.Heard.{Heard}
use Rattle.c8_peer.specs.State.{Call, Deliver, Reply, Delivered}
use Rattle.c8_peer.specs.Peer.{PeerValue, known_by}
use Rattle.c8_session.specs.declared.schedule.Schedule.{Schedule}
use Rattle.c8_session.specs.declared.session.Session.{Session}

-- The number of frames of the game, whether player 1 rests briefly, and how many turns have ended in which the peer was done.
pub record Resting : Type 0 where
  pub frames : ℕ
  pub is_brief : Bool
  pub rested : ℕ

-- By place: the players whose HELLO the peer has taken since it last spoke, and the watchers in seats 5 and 6 that are shown the rows.
pub record Notes : Type 0 where
  pub greeters : List Bool
  pub shown : List Bool
  pub resting : Resting

abbrev pub resting_of : Schedule → Resting
resting_of schedule = record { frames = schedule.frames; is_brief = schedule.is_brief; rested = schedule.rested }

abbrev pub notes_of : {D : Type 0} → Session D → Notes
notes_of session = record { greeters = session.schedule.greeters; shown = session.is_shown; resting = resting_of session.schedule }

abbrev pub no_greeters : List Bool
no_greeters = false ∷ false ∷ false ∷ false ∷ []

-- of a session before its first turn
abbrev pub no_notes : ℕ → Notes
no_notes frames = record {
  greeters = no_greeters;
  shown = false ∷ false ∷ [];
  resting = record { frames = frames; is_brief = false; rested = 0 };
}

abbrev pub rests_briefly : Notes → Notes
rests_briefly notes = record notes { resting = record notes.resting { is_brief = true } }

-- ---- what a delivery adds

abbrev pub is_hello : DatagramKind → Bool
is_hello kinds.Hello = true
is_hello kinds.Welcome = false
is_hello kinds.Data = false
is_hello kinds.Freeze = false
is_hello kinds.Frozen = false
is_hello kinds.Cut = false
is_hello kinds.Show = false
is_hello kinds.Seen = false

-- a HELLO of a player that the peer has taken is noted, for its answer
abbrev pub greeted : List Bool → HeadValue → Result Heard Refused → List Bool
greeted greeters head (Ok heard) = if is_hello head.kind && is_player head.from then slice_set greeters (head.from - 1) true else greeters
greeted greeters head (Err why) = greeters

-- what one call and its reply make of the greeters
abbrev pub greeted_by : List Bool → Call → Reply → List Bool
greeted_by greeters (Deliver (Ok packet)) (Delivered result) = greeted greeters packet.head result
greeted_by greeters _ _ = greeters

abbrev pub noted : Notes → Call → Reply → Notes
noted notes call reply = record notes { greeters = greeted_by notes.greeters call reply }

-- ---- what the end of a turn changes

-- this player is the peer's own, or is cut, or has acknowledged the peer's inputs of all frames; or the game has no such player
abbrev pub needs_nothing : {D : Type 0} → ℕ → PeerValue D → ℕ → Bool
needs_nothing frames peer player =
    nat_lt peer.rules.players player || (player == peer.me
    || (is_some (player_in (known_by peer) player).cut || nat_le frames (acked_of peer.state.memory.acks player)))

-- all frames are confirmed, and every other player that is not cut has acknowledged the peer's inputs of all frames
abbrev pub is_done : {D : Type 0} → ℕ → PeerValue D → Bool
is_done frames peer =
    nat_le frames (confirmed (known_by peer)) && (needs_nothing frames peer 1 && (needs_nothing frames peer 2
    && (needs_nothing frames peer 3 && needs_nothing frames peer 4)))

abbrev pub most_rested : ℕ
most_rested = 2 ^ 32 - 1

abbrev pub rested_after : {D : Type 0} → Resting → PeerValue D → Resting
rested_after resting peer =
    record resting { rested = if is_done resting.frames peer then min (resting.rested + 1) most_rested else resting.rested }

-- a turn that has ended has answered all who had greeted, and counts as rest if the peer is done; watchers are still shown the rows
abbrev pub after_turn : {D : Type 0} → Bool → PeerValue D → Notes → Notes
after_turn has_ended peer notes =
    if has_ended then record notes { greeters = no_greeters; resting = rested_after notes.resting peer } else notes
