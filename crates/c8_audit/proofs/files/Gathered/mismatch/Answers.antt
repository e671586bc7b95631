-- None is found only if no file clashed with an earlier one and player 1's journal is given.
use Rattle.std.proofs.Common.{sym, ◌∙◌}
use Rattle.c8_audit.proofs.files.Gathered.mismatch.Goals as goal

pub returns-in-None-Some-clause-none : goal.returns-in-None-Some-clause-none
returns-in-None-Some-clause-none c = (c.in-None-Some.is-0, (c.in-None-Some.field-0-1, sym c.named_of.ensures ∙ c.in-None-Some.is-1))
