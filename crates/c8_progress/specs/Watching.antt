-- Rounds in which player 1 shows a watcher rows and hears what it acknowledges; begin at `WatchRounds`.
use Rattle.std.specs.Prelude.{◌≡◌, ◌≢◌, ◌<◌, ◌≤◌, ℕ, suc, length, Some}
use Rattle.std.specs.List.{slice_get}
use Rattle.c8_game.specs.Rules.{Rules}
use Rattle.c8_wire.specs.Packet.{Packet}
use Rattle.c8_world.specs.World.{Show, Give, Hear, Seen, Fresh, Do, act_inside}
use Rattle.c8_progress.specs.Rounds.{Run}

-- The times of one round. Player 1 shows the watcher rows; later the watcher hears this SHOW; later it acknowledges how many rows it
-- has; and later player 1 hears this SEEN.
pub record IsWatchRound (rules : Rules) (room : ℕ) (run : Run rules room) (watcher shows hears says arrives : ℕ) : Type 0 where
  pub show : run.event shows ≡ Do (Show watcher)
  pub shown : shows < hears
  pub hear : run.event hears ≡ Do (Hear (length (run.world shows).said) watcher)
  pub heard : hears < says
  pub seen : run.event says ≡ Do (Seen watcher)
  pub said : says < arrives
  pub give : run.event arrives ≡ Do (Give (length (run.world says).said) 1)

-- After one time and before another player 1 hears nothing old of the watcher: no datagram that it said before a time.
pub record HearsNoOld (rules : Rules) (room : ℕ) (run : Run rules room) (watcher since after before : ℕ) : Type 0 where
  pub all : (t number : ℕ) (packet : Packet) → after < t → t < before → act_inside (run.event t) ≡ Give number 1
      → slice_get (run.world t).said number ≡ Some packet → packet.head.from ≡ watcher → length (run.world since).said ≤ number

-- The first rounds of a watcher in a run, numbered from 0. Anything else may happen in a round and between rounds. But from the SEEN of a
-- round to the SHOW of the next one no older SEEN arrives, and the watcher never starts over.
pub record WatchRounds (rules : Rules) (room : ℕ) (run : Run rules room) (watcher rounds : ℕ) : Type 0 where
  pub shows : ℕ → ℕ
  pub hears : ℕ → ℕ
  pub says : ℕ → ℕ
  pub arrives : ℕ → ℕ
  pub round : (n : ℕ) → n < rounds → IsWatchRound rules room run watcher (shows n) (hears n) (says n) (arrives n)
  pub order : (n : ℕ) → suc n < rounds → arrives n < shows (suc n)
  pub newest : (n : ℕ) → suc n < rounds → HearsNoOld rules room run watcher (says n) (arrives n) (shows (suc n))
  pub keeps : (t : ℕ) → act_inside (run.event t) ≢ Fresh watcher
