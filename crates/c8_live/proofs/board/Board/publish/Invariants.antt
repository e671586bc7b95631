-- The stored word is that of the rows that the proof of `publish`'s caller picked.
use Rattle.c8_live.proofs.board.Board.publish.Given as goal

abbrev pub ghosts-store : goal.ghosts-store
ghosts-store g a = record { rows = g.rows }
