-- The first five bytes of a machine's mark, as a number, are the first 40 bits of its digest.
use Rattle.std.proofs.Common.{rules, ◌∙◌}
use Rattle.c8_machine.specs.State.{state}
use Rattle.c8_live.proofs.WordLemmas.{bits_are}
use Rattle.c8_live.proofs.look.bits.Goals as goal

pub returns-clause-value : goal.returns-clause-value
returns-clause-value c = c.from_be_bytes.ensures ∙ bits_are (state c.args.machine.now) c.mark.result c.mark.ensures (search rules)
