-- Each kind is judged as its own definition says, with the player that the header names as its sender.
use Rattle.c8_peer.proofs.hearing.judge.Goals as goal

pub returns-in-Welcome-clause-judged : goal.returns-in-Welcome-clause-judged
returns-in-Welcome-clause-judged c = λ rules t m marks. rw c.in-Welcome.is (c.judge_welcome.ensures.judged m _)

pub returns-in-Data-clause-judged : goal.returns-in-Data-clause-judged
returns-in-Data-clause-judged c = λ rules t m marks.
    let from = rw c.in-Data.is at c.requires.from in
    rw (c.in-Data.is, ← from) (c.judge_data.ensures.judged t m marks)

pub returns-in-Freeze-clause-judged : goal.returns-in-Freeze-clause-judged
returns-in-Freeze-clause-judged c = λ rules t m marks.
    let from = rw c.in-Freeze.is at c.requires.from in
    rw (c.in-Freeze.is, ← from) (c.judge_freeze.ensures m)

pub returns-in-Frozen-clause-judged : goal.returns-in-Frozen-clause-judged
returns-in-Frozen-clause-judged c = λ rules t m marks.
    let from = rw c.in-Frozen.is at c.requires.from in
    rw (c.in-Frozen.is, ← from) (c.judge_frozen.ensures m)

pub returns-in-Cut-clause-judged : goal.returns-in-Cut-clause-judged
returns-in-Cut-clause-judged c = λ rules t m marks.
    let from = rw c.in-Cut.is at c.requires.from in
    rw (c.in-Cut.is, ← from) (c.judge_cut.ensures m)
