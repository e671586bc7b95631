-- The note of the tokens' step is the one that is added to the log.
use Rattle.c8_rig.proofs.tokens.Tokens.add.Given as goal

abbrev pub ghosts-enter : goal.ghosts-enter
ghosts-enter a = record { note = a._note.now }
