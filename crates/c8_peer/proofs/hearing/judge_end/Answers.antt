-- A list that is not cut yet is judged by the first end that is told of it.
use Rattle.c8_peer.proofs.hearing.judge_end.Goals as goal

pub returns-in-None : goal.returns-in-None
returns-in-None c = λ m. rw (← c.cut_of.ensures, c.in-None.is) (c.judge_first_end.ensures m)
