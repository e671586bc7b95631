-- What a caller sees of inputs to be written.
use Rattle.std.specs.Prelude.{List}
use Rattle.c8_pairs.specs.declared.pair.Pair.{Pair}
use Rattle.c8_pairs.specs.declared.stretches.Stretches.{Stretches}
use Rattle.c8_pairs.specs.Pairs.{pairs_of}

-- the pairs that are left
abbrev pub pairs_left : Stretches → List Pair
pairs_left stretches = pairs_of stretches.rest.now
