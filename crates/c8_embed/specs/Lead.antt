-- When a player is ahead of the others, and which ticks it leaves out: the rule of the command `play` too.
use Rattle.std.specs.Prelude.{ℕ, ◌≡◌, ◌==◌, ◌+◌, ◌/◌, ◌<◌, ◌≤◌, ◌↔◌, Bool, false, IsTrue, None, if◌then◌else◌}
use Rattle.c8_known.specs.Journal.{ticks}
use Rattle.c8_known.specs.Known.{player_in, count_in}
use Rattle.c8_peer.specs.Peer.{PeerValue, known_by}
use Rattle.c8_embed.specs.declared.lead.Lead.{Lead}

-- before the first question, in a game with this window
pub record IsNewLead (window : ℕ) (lead : Lead) : Type 0 where
  pub window_is : lead.window ≡ window
  pub frames : lead.frames ≡ 0

-- Another player of the game, whose inputs are not cut. The own ticks are more than `margin` beyond its known inputs.
pub record IsBehind {D : Type 0} (margin : ℕ) (peer : PeerValue D) (player : ℕ) : Type 0 where
  pub from_one : 1 ≤ player
  pub in_game : player ≤ peer.rules.players
  pub other : ¬ (player ≡ peer.me)
  pub uncut : (player_in (known_by peer) player).cut ≡ None
  pub beyond : count_in (known_by peer) player + margin < ticks peer.state.journal

-- the own ticks are more than half the window beyond the known inputs of such a player
pub record IsAhead {D : Type 0} (window : ℕ) (peer : PeerValue D) : Type 0 where
  pub player : ℕ
  pub behind : IsBehind (window / 2) peer player

-- The frames ahead that were counted before this one: none if no tick was made since, as it was left out or refused.
abbrev pub counted_at : ℕ → Lead → ℕ
counted_at now lead = if now == lead.ticked then 0 else lead.frames

-- The question of a frame. Its tick is left out if the player is ahead now, and this is the 60th such frame in a row.
pub record HasAsked {D : Type 0} (peer : PeerValue D) (old : Lead) (out : Bool) (new : Lead) : Type 0 where
  pub window : new.window ≡ old.window
  pub ticked : new.ticked ≡ ticks peer.state.journal
  pub left_out : IsTrue out ↔ (IsAhead old.window peer × (60 ≤ counted_at (ticks peer.state.journal) old + 1))
  pub anew : IsTrue out → new.frames ≡ 0
  pub behind : ¬ IsAhead old.window peer → new.frames ≡ 0
  pub counted : IsAhead old.window peer → out ≡ false → new.frames ≡ counted_at (ticks peer.state.journal) old + 1
