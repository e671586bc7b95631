-- An even number of bytes is the spelling of its key sets, which have 16 bits.
use Rattle.std.proofs.Common.{sym, arith}
use Rattle.c8_wire.specs.checked.WordLaws.{spelled_words, words_of-lt}
use Rattle.c8_wire.proofs.words.Words.new.Goals as goal

pub invariant_of-result : goal.invariant_of-result
invariant_of-result c = record {
  even = c.requires.even;
  short = omega arith;
  spells = sym (spelled_words c.args.bytes.now c.requires.even (λ i. omega (arith, c.type_inv.bytes i)));
  sets = words_of-lt c.args.bytes.now (λ i. omega (arith, c.type_inv.bytes i));
}
