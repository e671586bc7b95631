-- Each input that fits leaves room for one fewer, so the count ends.
use Rattle.c8_pairs.proofs.stretches.+room_for.Given as goal

abbrev pub decreases-room_for : goal.decreases-room_for
decreases-room_for l = l.inputs
