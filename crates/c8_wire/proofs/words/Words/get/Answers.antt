-- Input k of a run in version 1 is in the two bytes from 2 k on.
use Rattle.std.proofs.Common.{arith}
use Rattle.c8_wire.specs.checked.WordLaws.{length_words_of, slice_get_words_of}
use Rattle.c8_wire.proofs.words.Words.get.Goals as goal

-- what is wrong here is refused at once
pub returns : goal.returns
returns c = grind (arith, length_words_of, slice_get_words_of)
