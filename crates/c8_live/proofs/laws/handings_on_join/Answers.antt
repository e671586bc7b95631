-- What a queue passes on is a part of what came, in order, packet by packet: `net_worker` rests on this.
use Rattle.c8_live.proofs.PartLemmas.{handed_none, handed_one, handed_joined}
use Rattle.c8_live.proofs.laws.handings_on_join.Goals as goal

pub returns-clause-none : goal.returns-clause-none
returns-clause-none c from from_now to to_now same_from same_to = handed_none from from_now to to_now same_from same_to

pub returns-clause-once : goal.returns-clause-once
returns-clause-once c from from_now to to_now one came takes = handed_one from from_now to to_now one came takes

pub returns-clause-joined : goal.returns-clause-joined
returns-clause-joined c from between from_now to among to_now first second = handed_joined from between from_now to among to_now first second
