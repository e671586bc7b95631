-- The pen is as before, and each viewer so far has seen what the pen published.
use Rattle.std.proofs.Common.{◌≡◌, length}
use Rattle.std.specs.List.{All}
use Rattle.c8_live.specs.Tokens.{new_viewer}
use Rattle.c8_live.proofs.board.Board.enlist_all.Given as goal

abbrev pub invariant-loop : goal.invariant-loop
invariant-loop l =
    (l.pen ≡ l.initial.pen) × (length l.seated.items ≡ l.counter)
    × All (λ v. v ≡ new_viewer l.pen.board l.pen.game l.pen.from l.pen.rows) l.seated.items
