-- How a watched match ends.
use Rattle.std.proofs.Common.{◌≡◌, ◌≤◌, ℕ, length, ap, subst, ◌∙◌}
use Rattle.c8_game.specs.Rules.{Rules}
use Rattle.std.specs.Prelude.{Result, Ok, Err, IfOk}
use Rattle.c8_command.specs.Status.{status_of}
use Rattle.c8_command.specs.declared.status.Status.{Status}
use Rattle.c8_machine.specs.State.{state}
use Rattle.c8_machine.specs.Serial.{serial}
use Rattle.c8_spectator.specs.Growth.{IsStillWatched}
use Rattle.c8_spectator.specs.Watching.{WatchValue, first_watch}
use Rattle.c8_texts.specs.declared.lines.Played.{Played}
use Rattle.c8_transport.specs.declared.error.WireFailed.{WireFailed}
use Rattle.c8_transport.specs.declared.wire.Wire.{Ghosts}
use Rattle.c8_watch.specs.Turns.{AreTurns}
use Rattle.c8_net.specs.Errors.{peer_part}
use Rattle.c8_watch.specs.Watched.{HasWatched, HasWatchedThen}
use Rattle.c8_net.specs.declared.error.PeerError.{PeerError}

pub has_watched : {W : Type 0} (wire : Ghosts W) (rules : Rules) (room seat most : ℕ) (w v : WatchValue) (first : W)
    (told : Result ℕ WireFailed) (played : Played)
    → ((n : ℕ) (a b : WatchValue) (before after : W) → AreTurns wire n a b before after → IsStillWatched a b)
    → w ≡ first_watch rules room seat → ((n : ℕ) × (last : W) × n ≤ most × IfOk told (λ made. made ≡ n) × AreTurns wire n w v first last)
    → played.frames ≡ length v.rows → state played.machine ≡ serial v.rules v.rows → HasWatched wire rules room seat most first played
has_watched wire rules room seat most w v first told played keep begins turns frames machine =
    let still = keep turns.0 w v first turns.1 turns.4 in
    record {
      last = turns.1;
      turns = turns.0;
      few = turns.2;
      watch = v;
      watched = subst (λ (x : WatchValue). AreTurns wire turns.0 x v first turns.1) begins turns.4;
      frames = frames;
      machine = machine ∙ ap (λ (r : Rules). serial r v.rows) (still.rules ∙ ap (λ (x : WatchValue). x.rules) begins);
    }

-- nothing was watched
pub watched_refused : {E : Type 0} (told : Result Status E) (error : PeerError) → IfOk told (λ status. status ≡ status_of (peer_part error))
    → IfOk told HasWatchedThen
watched_refused (Ok status) error same = (Err error, tt, same)
watched_refused (Err e) error same = tt
