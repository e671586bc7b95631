-- What the outcome for a game is for the text that spells it.
use Rattle.std.proofs.Common.{◌≡◌, ◌⊎◌, ℕ, List, Result, Ok, Err, inl, inr}
use Rattle.std.specs.Prelude.{IfOk, IfErr}
use Rattle.c8_game.specs.GameFaults.{IsRefused}
use Rattle.c8_game.specs.GameText.{Spells}
use Rattle.c8_game.specs.Rules.{Rules}
use Rattle.c8_game.specs.declared.error.GameError.{GameError}
use Rattle.c8_game.specs.declared.error.GameError.TheVariants as games
use Rattle.c8_replay.specs.Replay.{IsOutcome, IsOutcomeOfRead}
use Rattle.c8_replay.specs.declared.arguments.Wish.{Wish}
use Rattle.c8_replay.specs.declared.error.ReplayFault.{ReplayFault}
use Rattle.c8_replay.specs.declared.showing.Shown.{Shown}

pub outcome_of : (game image : List ℕ) (wish : Wish) (read : Result Rules GameError) (outcome : Result Shown ReplayFault)
    → IfOk read (λ rules. Spells game rules)
    → IfErr read (λ error. (error ≡ games.Memory) ⊎ IsRefused game error) → IsOutcomeOfRead read image wish outcome
    → IsOutcome game image wish outcome
outcome_of game image wish (Ok rules) outcome spells refused is = inl (rules, spells, is)
outcome_of game image wish (Err error) outcome spells refused is = inr (error, refused, is)
