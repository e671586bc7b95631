-- The rows before `place` are of the game, so all rows are exactly if the rest is.
use Rattle.std.proofs.Common.{◌≡◌, drop}
use Rattle.c8_wire.specs.Lent.{shown}
use Rattle.c8_spectator.specs.Watching.{are_of_game}
use Rattle.c8_spectator.proofs.judging.are_of_game.Given as goal

-- all rows are of the game if the remaining ones are
abbrev pub invariant-loop-place : goal.invariant-loop-place
invariant-loop-place l = are_of_game l.game (shown l.rows) ≡ are_of_game l.game (drop l.place (shown l.rows))
