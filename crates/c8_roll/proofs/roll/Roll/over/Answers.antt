-- From the checkpoint confirmed frames are confirmed and the others run, which gives the roll since it and its rows.
use Rattle.std.proofs.Common.{◌≡◌, ◌≤◌, ℕ, List, ◌++◌, sym, ap, ◌∙◌, arith}
use Rattle.c8_game.specs.Rules.{Rules}
use Rattle.c8_digest.specs.Origin.{Origin, origin_of, run_since}
use Rattle.c8_digest.specs.Marks.{kept}
use Rattle.c8_digest.specs.declared.marks.FrameMark.{FrameMark}
use Rattle.c8_known.specs.Confirmed.{confirmed, best_rows}
use Rattle.c8_known.specs.checked.ConfirmedLaws.{confirmed_is}
use Rattle.c8_roll.specs.Roll.{marks_since}
use Rattle.c8_roll.proofs.RollLemmas.{first_marks}
use Rattle.c8_roll.proofs.RollbackLemmas.{rolled, new_run, keeps}
use Rattle.c8_roll.proofs.roll.Roll.over.Goals as goal
use Rattle.c8_roll.proofs.roll.Roll.over.Goals.{After-run_on}

-- the origin of the checkpoint
abbrev from_of : After-run_on → Origin
from_of c = origin_of c.args.from.now

-- no more frames were run than the own player has ticks
ticks_within : (c : After-run_on) → c.confirm_all.new.self.ticks ≤ c.args.known.now.ticks
ticks_within c =
    let new = c.new-timeline.ensures.ticks in
    let sure = (confirmed_is c.args.known.now).ticked in
    c.confirm_all.ensures.within c.args.known.now.ticks (omega (arith, new, sure, c.requires.confirmed)) sure

first_is : (c : After-run_on) → c.run_on.new.self.first ≡ confirmed c.args.known.now
first_is c =
    let new = c.new-timeline.ensures.first in
    c.run_on.ensures.first ∙ c.confirm_all.ensures.first (omega (arith, new, c.requires.confirmed))

rules_are : (c : After-run_on) → c.confirm_all.new.self.rules ≡ c.args.game.now
rules_are c = c.confirm_all.ensures.rules ∙ c.new-timeline.ensures.rules

pub returns-clause-ticks : goal.returns-clause-ticks
returns-clause-ticks c = c.run_on.ensures.ticks (ticks_within c)

pub returns-clause-kept : goal.returns-clause-kept
returns-clause-kept c =
    let k = c.args.known.now in
    let begun = c.confirm_all.ensures.run (from_of c) (new_run c.args.game.now (from_of c) k c.new-timeline.result c.new-timeline.ensures) in
    keeps c.args.game.now (from_of c) k c.run_on.new.self (c.run_on.ensures.rules ∙ rules_are c) c.run_on.ensures.is
    (c.run_on.ensures.run (from_of c) begun) (first_is c) (c.run_on.ensures.ticks (ticks_within c))

pub returns-clause-ran : goal.returns-clause-ran
returns-clause-ran c =
    let ticks = c.run_on.ensures.ticks (ticks_within c) in
    let one = c.confirm_all.ensures.counted in
    let two = c.run_on.ensures.counted in
    let none = c.new-timeline.ensures.last_run in
    let ticks_first = c.new-timeline.ensures.ticks in
    omega (arith, ticks, one, two, none, ticks_first)

pub returns-clause-roll : goal.returns-clause-roll
returns-clause-roll c =
    let rules = c.args.game.now in
    let k = c.args.known.now in
    let from : Origin = from_of c in
    let new = c.new-timeline.ensures in
    let starts = new.first in
    let run = new_run rules from k c.new-timeline.result new in
    let begun = c.confirm_all.ensures.run from run in
    let first : c.read.new.self ≡ marks_since c.new-timeline.result.rules from k c.new-timeline.result.first =
    c.read.ensures ∙ ap (λ (marks : List FrameMark). kept (marks ++ from.marks)) c.buffers.invariant.0
    ∙ first_marks c.new-timeline.result.rules from k ∙ ap (λ (n : ℕ). marks_since c.new-timeline.result.rules from k n) (sym new.first) in
    let noted = c.confirm_all.ensures.marks from run (omega (arith, starts, c.requires.confirmed)) first
    ∙ ap (λ (r : Rules). marks_since r from k (confirmed k)) new.rules in
    let seen = c.run_on.ensures.shown from begun (ticks_within c) ∙ ap (λ (r : Rules). run_since r from (best_rows k)) (rules_are c) in
    rolled rules from k c.run_on.new.self c.confirm_all.new.marks (c.run_on.ensures.rules ∙ rules_are c) (first_is c)
    (c.run_on.ensures.ticks (ticks_within c)) (c.run_on.ensures.run from begun) seen noted
