-- The game that stays in memory is the one that the text spells, and its watcher has the number that C gave.
use Rattle.std.proofs.Common.{◌≡◌, ◌∙◌, ℕ, subst, sym}
use Rattle.c8_game.specs.Rules.{Rules}
use Rattle.c8_game.specs.GameText.{Spells}
use Rattle.c8_engine.specs.Watched.{IsWatchWith}
use Rattle.c8_engine.proofs.opening.c8_watch_open.Goals as goal

pub returns-in-Ok-new-clause-opened : goal.returns-in-Ok-new-clause-opened
returns-in-Ok-new-clause-opened c = λ done.
    let seat : c.in-Some.seat.number ≡ c.args.watcher = c.in-Some.ensures.some in
    let rules : c.leak.result.now ≡ c.in-Ok.game = c.leak.ensures.value ∙ c.in-Ok-new.ensures.ok in
    let spelled : Spells c.args.text.now c.leak.result.now = subst (λ (r : Rules). Spells c.args.text.now r) (sym rules) c.in-Ok.ensures.game in
    subst (λ (n : ℕ). IsWatchWith c.args.text.now n c.args.room c.args.begun c.watch_on.new.handle.value) seat
    (c.watch_on.ensures.opened done c.args.text.now spelled)
