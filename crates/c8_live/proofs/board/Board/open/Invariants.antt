-- The first step takes the start and the rows that the proof of `open`'s caller picked.
use Rattle.c8_live.proofs.board.Board.open.Given as goal

abbrev pub ghosts-begin : goal.ghosts-begin
ghosts-begin g a = record { from = g.run.from; rows = g.run.rows }
