-- The hindmost of the other players with a number below an end.
use Rattle.std.specs.Prelude.{ℕ, ◌<◌, ◌≤◌, Option, Some, None}
use Rattle.c8_game.specs.declared.row.Player.{Player}
use Rattle.c8_known.specs.Known.{count_in}
use Rattle.c8_peer.specs.Peer.{PeerValue, known_by}
use Rattle.c8_play.specs.Lead.{IsOther}

pub record IsHindmostBelow {D : Type 0} (peer : PeerValue D) (end player : ℕ) : Type 0 where
  pub other : IsOther peer player
  pub fewest : (q : ℕ) → q < end → IsOther peer q → count_in (known_by peer) player ≤ count_in (known_by peer) q

-- what was found, if anything
abbrev pub FoundBelow : {D : Type 0} → PeerValue D → ℕ → Option Player → Type 0
FoundBelow peer end None = (q : ℕ) → q < end → ¬ IsOther peer q
FoundBelow peer end (Some player) = IsHindmostBelow peer end player.number
