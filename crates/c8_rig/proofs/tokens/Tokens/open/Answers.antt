-- The rule holds at first, with one keeper, no players and an empty log.
use Rattle.std.proofs.Common.{[]}
use Rattle.c8_rig.proofs.Moves.{begins_with}
use Rattle.c8_rig.proofs.tokens.Tokens.open.Goals as goal

pub of_words-requires : goal.of_words-requires
of_words-requires c = begins_with _ []
