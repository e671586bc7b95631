-- DATA is refused for its acknowledgement, then its inputs, then its mark; what is left brings new inputs or none.
use Rattle.std.proofs.Common.{rules}
use Rattle.c8_peer.specs.Hearing.{hear_data, is_desync}
use Rattle.c8_peer.proofs.hearing.judge_data.Goals as goal

-- these ends follow from the definition alone
pub returns-then-ack-count-clause-judged : goal.returns-then-ack-count-clause-judged
unfolding hear_data is_desync
returns-then-ack-count-clause-judged c = search rules

pub returns-in_err-fresh-clause-judged : goal.returns-in_err-fresh-clause-judged
unfolding hear_data is_desync
returns-in_err-fresh-clause-judged c = search rules

pub returns-then-differs-clause-judged : goal.returns-then-differs-clause-judged
unfolding hear_data is_desync
returns-then-differs-clause-judged c = search rules

pub returns-clause-judged : goal.returns-clause-judged
unfolding hear_data is_desync
returns-clause-judged c = search rules
