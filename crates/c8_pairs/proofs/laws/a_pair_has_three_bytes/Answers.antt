-- Each pair is spelled by one byte for its length and two for its key set.
use Rattle.c8_pairs.specs.Pairs.{pairs_of}
use Rattle.c8_pairs.specs.checked.PairLaws.{length_spelled}
use Rattle.c8_pairs.proofs.laws.a_pair_has_three_bytes.Goals as goal

pub returns : goal.returns
returns c words = length_spelled (pairs_of words)
