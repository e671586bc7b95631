-- Player 1, if given no keys, has each key that no other player has, so every key is somebody's.
use Rattle.c8_files.proofs.KeyLemmas.{key_kept}
use Rattle.c8_files.proofs.laws.no_key_is_lost.Goals as goal

pub returns : goal.returns
returns c = key_kept
