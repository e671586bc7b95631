-- The draws are over the ether that was opened, with its players.
use Rattle.c8_thread_tests.proofs.ethers.a_draw_gives_what_was_posted.Given as goal

abbrev pub ghosts-draws : goal.ghosts-draws
ghosts-draws g a = record { players = a.ether.players; ether = a.ether.ether }
