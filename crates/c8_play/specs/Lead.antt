-- When and for how long a player is ahead of the others, and which ticks it leaves out.
use Rattle.std.specs.Prelude.{◌≡◌, ℕ, ◌+◌, ◌/◌, ◌<◌, ◌≤◌, ◌↔◌, Bool, false, IsTrue, None}
use Rattle.c8_known.specs.Journal.{ticks}
use Rattle.c8_known.specs.Known.{player_in, count_in}
use Rattle.c8_peer.specs.Peer.{PeerValue, known_by}
use Rattle.c8_play.specs.declared.lead.Lead.{Lead}

-- another player of the game, whose inputs are not cut
pub record IsOther {D : Type 0} (peer : PeerValue D) (player : ℕ) : Type 0 where
  pub from_one : 1 ≤ player
  pub in_game : player ≤ peer.rules.players
  pub other : ¬ (player ≡ peer.me)
  pub uncut : (player_in (known_by peer) player).cut ≡ None

-- such a player with the fewest known inputs
pub record IsHindmost {D : Type 0} (peer : PeerValue D) (player : ℕ) : Type 0 where
  pub other : IsOther peer player
  pub fewest : (q : ℕ) → IsOther peer q → count_in (known_by peer) player ≤ count_in (known_by peer) q

-- the own ticks are more than half the window beyond the known inputs of such a player
pub record IsAhead {D : Type 0} (window : ℕ) (peer : PeerValue D) : Type 0 where
  pub player : ℕ
  pub other : IsOther peer player
  pub beyond : count_in (known_by peer) player + window / 2 < ticks peer.state.journal

-- A frame, by the number of consecutive frames ahead whose keys were taken, before and after it. The tick is left out
-- if the player is ahead and this frame makes that number reach the patience. If the keys are not taken, as the tick is
-- left out or refused, the count restarts: a player that has just waited for the others does not wait again.
pub record HasLed {D : Type 0} (window patience : ℕ) (peer : PeerValue D) (out taken : Bool) (before after : ℕ) : Type 0 where
  pub left_out : IsTrue out ↔ (IsAhead window peer × (patience ≤ before + 1))
  pub counted : IsAhead window peer → IsTrue taken → after ≡ before + 1
  pub behind : ¬ IsAhead window peer → after ≡ 0
  pub waited : taken ≡ false → after ≡ 0

-- the game's window; how many consecutive frames ahead leave out a tick, the last of them; and the count so far
abbrev pub window_of : Lead → ℕ
window_of lead = lead.window

abbrev pub patience_of : Lead → ℕ
patience_of lead = lead.patience

abbrev pub frames_of : Lead → ℕ
frames_of lead = lead.frames
