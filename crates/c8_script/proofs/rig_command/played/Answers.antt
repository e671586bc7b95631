-- A script that was asked for and could not be written is an outcome of the text, which spells a game.
use Rattle.std.proofs.Common.{rules, Bool, Err, ap, sym, subst}
use Rattle.std.specs.Option.{is_some}
use Rattle.c8_game.specs.GameText.{Spells}
use Rattle.c8_script.specs.Rig.{IsOutcome}
use Rattle.c8_script.proofs.rig_command.played.Goals as goal

pub returns-in-Gathered-clause-outcome : goal.returns-in-Gathered-clause-outcome
returns-in-Gathered-clause-outcome g c =
    let text = c.args.text.bytes.now in
    let turns = c.args.asked.now.turns in
    let spells : Spells text c.in_ok-game.game = search rules in
    subst (λ (has_script : Bool). IsOutcome text turns has_script (Err c.in-Err.error)) (sym (ap is_some c.in-Some.is))
    (c.in-Err.ensures text turns (c.in_ok-game.game, spells))
