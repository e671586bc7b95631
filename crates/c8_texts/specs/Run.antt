-- What `run` answers to two texts.
use Rattle.std.specs.Prelude.{◌≡◌, ◌⊎◌, ℕ, List, Result, Ok, Err}
use Rattle.c8_game.specs.GameFaults.{IsRefused}
use Rattle.c8_game.specs.GameText.{Spells}
use Rattle.c8_game.specs.Rules.{Rules}
use Rattle.c8_game.specs.declared.error.GameError.{GameError}
use Rattle.c8_game.specs.declared.error.GameError.TheVariants as games
use Rattle.c8_texts.specs.KeyLines.{IsRunOf, IsFaultOf}
use Rattle.c8_texts.specs.declared.error.RunError.{RunError}
use Rattle.c8_texts.specs.declared.error.RunError.TheVariants.{Game, Keys}
use Rattle.c8_texts.specs.declared.lines.Played.{Played}

-- the run of a game by the rows of a text, or the text's first fault
abbrev pub IsPlayOf : Rules → List ℕ → Result Played RunError → Type 0
IsPlayOf rules keys (Ok played) = IsRunOf rules keys played
IsPlayOf rules keys (Err (Keys error)) = IsFaultOf rules keys error
IsPlayOf rules keys (Err (Game error)) = ⊥

-- the same for a game that was read, or why it was not
abbrev pub IsPlayOfRead : Result Rules GameError → List ℕ → Result Played RunError → Type 0
IsPlayOfRead (Ok rules) keys outcome = IsPlayOf rules keys outcome
IsPlayOfRead (Err error) keys outcome = outcome ≡ Err (Game error)

-- the first text spells a game, and this is its run by the rows of the second
abbrev pub IsPlayedFrom : List ℕ → List ℕ → Played → Type 0
IsPlayedFrom game keys played = (rules : Rules) × Spells game rules × IsRunOf rules keys played

-- the first text has this first fault; or it spells a game and the second text has this fault; or memory ran out
abbrev pub IsRefusalOfRun : List ℕ → List ℕ → RunError → Type 0
IsRefusalOfRun game keys (Game error) = (error ≡ games.Memory) ⊎ IsRefused game error
IsRefusalOfRun game keys (Keys error) =
    (rules : Rules) × Spells game rules × IsFaultOf rules keys error

abbrev pub IsOutcomeOfRun : List ℕ → List ℕ → Result Played RunError → Type 0
IsOutcomeOfRun game keys (Ok played) = IsPlayedFrom game keys played
IsOutcomeOfRun game keys (Err error) = IsRefusalOfRun game keys error
