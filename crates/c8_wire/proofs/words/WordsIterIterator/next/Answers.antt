-- Each step gives the key set of the first two bytes and leaves the rest.
use Rattle.std.proofs.Common.{arith}
use Rattle.std.proofs.lemmas.Grind.{common_steps}
use Rattle.c8_wire.specs.Reading.{words_of}
use Rattle.c8_wire.proofs.words.WordsIterIterator.next.Goals as goal

pub returns-clause-steps : goal.returns-clause-steps
unfolding words_of
returns-clause-steps c = grind (arith, common_steps)
