-- Neither journal is ahead, so a difference is one of both.
use Rattle.std.proofs.lemmas.Bool.{both_ways}
use Rattle.c8_audit.specs.Read.{all_seen}
use Rattle.c8_audit.proofs.ShortLemmas.{opposed_by}
use Rattle.c8_audit.proofs.agreed.first_opposed.Goals as goal

pub returns : goal.returns
returns c =
    opposed_by (all_seen c.args.journals.now) c.args.one.number c.args.other.number c.first_difference.result c.first_difference.ensures
    (λ ahead. both_ways c.is_ahead.result c.if-is_ahead.false (c.is_ahead.ensures.1 ahead))
    (λ ahead. both_ways c.is_ahead-else-is_ahead.result c.if-is_ahead-2.false (c.is_ahead-else-is_ahead.ensures.1 ahead))
