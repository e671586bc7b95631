-- The place is the first whose row is no best guess; else the last one, if later frames were run without a snapshot.
use Rattle.std.proofs.Common.{rules}
use Rattle.c8_roll.proofs.timeline.Timeline.change.Goals as goal

-- The quick search is enough, and with it a wrong body is refused at once.
pub returns-then-not-is_same-clause-none : goal.returns-then-not-is_same-clause-none
returns-then-not-is_same-clause-none c = search rules

pub returns-then-not-is_same-clause-wrong : goal.returns-then-not-is_same-clause-wrong
returns-then-not-is_same-clause-wrong c = search rules

pub returns-else-kept-ahead-clause-none : goal.returns-else-kept-ahead-clause-none
returns-else-kept-ahead-clause-none c = search rules

pub returns-else-kept-ahead-clause-wrong : goal.returns-else-kept-ahead-clause-wrong
returns-else-kept-ahead-clause-wrong c = search rules
