-- A joined key is in some player's key set and in this player's mask, and such a key is joined.
use Rattle.c8_game.proofs.KeyLaws.{joined_holds}
use Rattle.c8_game.proofs.laws.joined_is_a_union.Goals as goal

pub returns : goal.returns
returns c = joined_holds
