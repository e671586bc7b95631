-- Where a stretch ends, the inputs end or another key set follows, which begins a pair of its own.
use Rattle.std.proofs.Common.{arith}
use Rattle.c8_pairs.specs.checked.PairLaws.{well_nothing, apart_here}
use Rattle.c8_pairs.proofs.stretches.+same_in_front.Goals as goal

pub returns-in_default-clause-apart : goal.returns-in_default-clause-apart
returns-in_default-clause-apart t c = well_nothing c.args.keys c.args.words.now c.in_default.len_below

pub returns-in_default-2-clause-apart : goal.returns-in_default-2-clause-apart
returns-in_default-2-clause-apart t c = apart_here c.args.keys c.args.words.now c.if-first-keys.false (omega (arith, c.in-len1-up.len_at_least))
