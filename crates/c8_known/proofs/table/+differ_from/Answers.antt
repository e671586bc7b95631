-- Where the run ends, no input is left that could differ.
use Rattle.std.proofs.Common.{sym, ap, ◌∙◌}
use Rattle.c8_known.specs.Fresh.{differ}
use Rattle.c8_known.proofs.ListLemmas.{differ_none}
use Rattle.c8_known.proofs.table.+differ_from.Goals as goal

pub returns-in_default : goal.returns-in_default
returns-in_default t c = sym (ap (differ c.args.held.now) c.in_default.ensures.steps.0 ∙ differ_none c.args.held.now)
