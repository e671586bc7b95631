-- The name that the proof picks for the ether: the one that was opened, with its number of players.
use Rattle.c8_rig.proofs.threads.rig.Given as goal

abbrev pub ghosts-rigged : goal.ghosts-rigged
ghosts-rigged g a = record { players = a.ether.players; ether = a.ether.ether }
