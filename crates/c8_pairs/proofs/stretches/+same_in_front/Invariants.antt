-- Each input of the stretch leaves fewer inputs to compare.
use Rattle.std.proofs.Common.{length}
use Rattle.c8_pairs.proofs.stretches.+same_in_front.Given as goal

abbrev pub decreases-same_in_front : goal.decreases-same_in_front
decreases-same_in_front l = length l.words.now
