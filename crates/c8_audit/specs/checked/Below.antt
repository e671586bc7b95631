-- The laws about all peers of a match, gathered for the proofs about their journals.
use Rattle.std.specs.Prelude.{ℕ, ◌^◌, ◌<◌, List, Bool}
use Rattle.c8_game.specs.Rules.{Rules, AreInRange}
use Rattle.c8_record.specs.Allowed.{IsJournal}
use Rattle.c8_peer.specs.Opening.{found}
use Rattle.c8_peer.specs.TrueChecks.{HasTrueChecks}
use Rattle.c8_world.specs.World.{World, peer_of, journal_of, Event, Answer, Chain, IsReached}
use Rattle.c8_world.specs.Agreement.{IsPlayer, Agree, AreEntered}

pub record AreWorldsLawful : Type 0 where
  pub agree : (rules : Rules) (room : ℕ) (w v : World) (events : List Event) (answers : List Answer) (p r : ℕ) → AreInRange rules
      → room < 2 ^ 64 → IsReached rules room w
      → Chain rules room w events answers v → IsPlayer rules p → IsPlayer rules r → Agree rules w v p r
  pub entered : (rules : Rules) (room : ℕ) (w v : World) (events : List Event) (answers : List Answer) (p : ℕ) → AreInRange rules
      → room < 2 ^ 64 → IsReached rules room w
      → Chain rules room w events answers v → IsPlayer rules p → AreEntered rules w v p
  pub checks : (rules : Rules) (room : ℕ) (w : World) (p : ℕ) → AreInRange rules → room < 2 ^ 64 → IsReached rules room w → IsPlayer rules p
      → HasTrueChecks rules p (journal_of w p)
  pub journals : (rules : Rules) (room : ℕ) (w : World) (p : ℕ) (finds : Bool) → AreInRange rules → room < 2 ^ 64 → IsReached rules room w
      → IsPlayer rules p
      → IsJournal rules p room (found (peer_of w p) finds)
