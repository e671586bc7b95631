-- The verdicts of an audit, and what three yes mean.
use Rattle.std.specs.Prelude.{◌≡◌, ◌≢◌, ℕ, ◌<◌, MatchOption, Some, None}
use Rattle.c8_game.specs.Rules.{Rules}
use Rattle.c8_known.specs.Known.{player_in}
use Rattle.c8_known.specs.Confirmed.{confirmed, input_of}
use Rattle.c8_peer.specs.TrueChecks.{HasTrueLast}
use Rattle.c8_world.specs.World.{World, journal_of, known_by}
use Rattle.c8_world.specs.Agreement.{IsUndropped, AgreeUpTo, IsEntered}
use Rattle.c8_audit.specs.Honest.{AreOfWorlds}
use Rattle.c8_audit.specs.Journals.{Readings, Evidence, AllSeen}
use Rattle.c8_audit.specs.Verdicts.{AnswersEntered, AreTrue, IsFirstUntrue, AnswersAgreed, IsLeastCount}
use Rattle.c8_audit.specs.declared.fault.Answer.TheVariants.{Yes, No}
use Rattle.c8_audit.specs.declared.fault.Fault.{Fault}
use Rattle.c8_audit.specs.declared.verdict.Verdicts.{Verdicts}

-- the verdicts of journals, by what they make known
pub record AreVerdicts (rules : Rules) (all : AllSeen) (verdicts : Verdicts) : Type 0 where
  pub entered : AnswersEntered all verdicts.entered
  pub checks : MatchOption verdicts.untrue (AreTrue rules all) (λ player. IsFirstUntrue rules all player.number)
  pub agree : AnswersAgreed rules all verdicts.agree
  pub count : IsLeastCount all verdicts.count

-- each verdict is yes
pub record AreYes (verdicts : Verdicts) : Type 0 where
  pub entered : verdicts.entered ≡ Yes
  pub checks : verdicts.untrue ≡ None
  pub agree : verdicts.agree ≡ Yes

-- no verdict accuses anyone: each is yes or short
pub record AccuseNobody (verdicts : Verdicts) : Type 0 where
  pub entered : (fault : Fault) → verdicts.entered ≢ No fault
  pub checks : verdicts.untrue ≡ None
  pub agree : (fault : Fault) → verdicts.agree ≢ No fault

-- Two moments of worlds tell one story, as far as journals are given: each confirmed input was entered, the last
-- checkpoints are true, and undropped players have the same rows and the same machine.
pub record TellOneStory (rules : Rules) (e : Evidence) (earlier later : World) : Type 0 where
  pub entered : (p q frame : ℕ) (by own : Readings) → e p ≡ Some by → e q ≡ Some own → frame < confirmed (known_by rules earlier p)
      → IsEntered rules later q frame (input_of (player_in (known_by rules earlier p) q) frame)
  pub checks : (p : ℕ) (by : Readings) → e p ≡ Some by → HasTrueLast rules p (journal_of earlier p)
  pub agree : (p r : ℕ) (one other : Readings) → e p ≡ Some one → e r ≡ Some other → IsUndropped later p → IsUndropped later r
      → AgreeUpTo rules earlier earlier p r

-- in all worlds whose journals these readings are
abbrev pub AlwaysTellOneStory : Rules → Evidence → Type 0
AlwaysTellOneStory rules e = (earlier later : World) → AreOfWorlds rules e earlier later → TellOneStory rules e earlier later
