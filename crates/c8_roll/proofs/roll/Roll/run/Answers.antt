-- What is kept stays right for what is known now, and only the rest is run again; for `advance` and `settle`.
use Rattle.std.proofs.lemmas.Bool.{cases_lt}
use Rattle.std.proofs.Common.{◌≡◌, ◌≤◌, ⊎_elim, ◌+◌, length, refl, sym, ap, ◌∙◌, arith}
use Rattle.c8_game.specs.Rules.{Rules}
use Rattle.c8_digest.specs.Origin.{Origin, run_since}
use Rattle.c8_known.specs.Known.{KnownValue}
use Rattle.c8_known.specs.Growth.{IsStillKnown}
use Rattle.c8_known.specs.Confirmed.{confirmed, best_rows}
use Rattle.c8_known.specs.checked.ConfirmedLaws.{confirmed_is}
use Rattle.c8_roll.specs.Roll.{marks_since, IsRollSince}
use Rattle.c8_roll.specs.Seen.{value_of, rows_run}
use Rattle.c8_roll.specs.checked.Timeline.{TimelineValue, IsAll, IsRunOf}
use Rattle.c8_roll.proofs.RollLemmas.{IsStill, still_rolled}
use Rattle.c8_roll.proofs.RollbackLemmas.{rolled, back_of, keeps, from_is, oldest, oldest_or_last, runs_from}
use Rattle.c8_roll.proofs.roll.Roll.run.Goals as goal
use Rattle.c8_roll.proofs.roll.Roll.run.Goals.{After-run_on}

-- how many frames the timeline has after rolling back
back_ticks : (c : After-run_on) → c.go_back-oldest.new.self.ticks ≡ c.args.self.now.timeline.first + length c.go_back-oldest.new.self.snapshots
back_ticks c = ap (λ (t : TimelineValue). t.ticks) c.go_back-oldest.ensures.back

back_first : (c : After-run_on) → c.go_back-oldest.new.self.first ≡ c.args.self.now.timeline.first
back_first c = ap (λ (t : TimelineValue). t.first) c.go_back-oldest.ensures.back

back_rules : (c : After-run_on) → c.confirm_all.new.self.rules ≡ c.args.self.now.timeline.rules
back_rules c = c.confirm_all.ensures.rules ∙ ap (λ (t : TimelineValue). t.rules) c.go_back-oldest.ensures.back

ticks_within : (c : After-run_on) → c.confirm_all.new.self.ticks ≤ c.args.known.now.ticks
ticks_within c =
    let ticks = back_ticks c in
    let fits = c.go_back-oldest.ensures.within in
    let within = c.go_back-oldest.ensures.was.within in
    let more = c.requires in
    c.confirm_all.ensures.within c.args.known.now.ticks (omega (arith, ticks, fits, within, more)) (confirmed_is c.args.known.now).ticked

pub returns-clause-ticks : goal.returns-clause-ticks
returns-clause-ticks c = c.run_on.ensures.ticks (ticks_within c)

pub returns-clause-ran : goal.returns-clause-ran
returns-clause-ran c =
    let from = from_is c.args.self.now.timeline c.go_back-oldest.new.self c.go_back-oldest.result c.go_back-oldest.ensures.answer in
    let none : c.go_back-oldest.new.self.last_run ≡ 0 = ap (λ (t : TimelineValue). t.last_run) c.go_back-oldest.ensures.back in
    let ticks = c.run_on.ensures.ticks (ticks_within c) in
    let one = c.confirm_all.ensures.counted in
    let two = c.run_on.ensures.counted in
    omega (arith, from, none, ticks, one, two)

pub returns-clause-oldest : goal.returns-clause-oldest
returns-clause-oldest c = λ ahead.
    let was = c.go_back-oldest.ensures.was in
    let fits = was.within in
    let room = was.room in
    let all : IsAll c.args.self.now.timeline =
    ⊎_elim was.all (λ (full : c.args.self.now.timeline.room ≤ length c.args.self.now.timeline.snapshots). omega (arith, ahead, fits, room, full))
    (cases_lt (length c.args.self.now.timeline.snapshots) c.args.self.now.timeline.room) in
    oldest c.args.self.now.timeline c.go_back-oldest.new.self c.args.known.now c.go_back-oldest.result all c.go_back-oldest.ensures.back
    c.go_back-oldest.ensures.within
    c.go_back-oldest.ensures.best c.go_back-oldest.ensures.answer c.go_back-oldest.ensures.wrong

pub returns-clause-again : goal.returns-clause-again
returns-clause-again c = λ from before was keeps all.
    runs_from (value_of c.args.self.now) (rows_run c.args.self.now) before c.args.known.now c.go_back-oldest.result
    c.run_on.new.self.last_run from was keeps all
    (returns-clause-oldest c all) (returns-clause-ran c)

pub returns-clause-oldest_or_last : goal.returns-clause-oldest_or_last
returns-clause-oldest_or_last c = λ lacks.
    let was = c.go_back-oldest.ensures.was in
    let fits = was.fits in
    let room = was.room in
    oldest_or_last c.args.self.now.timeline c.go_back-oldest.new.self c.args.known.now c.go_back-oldest.result
    (omega (arith, lacks, fits, room)) c.go_back-oldest.ensures.back
    c.go_back-oldest.ensures.within c.go_back-oldest.ensures.best c.go_back-oldest.ensures.answer c.go_back-oldest.ensures.wrong

pub returns-clause-ahead : goal.returns-clause-ahead
returns-clause-ahead c =
    let ticks = back_ticks c in
    let none : c.go_back-oldest.new.self.last_run ≡ 0 = ap (λ (t : TimelineValue). t.last_run) c.go_back-oldest.ensures.back in
    let made = c.run_on.ensures.ticks (ticks_within c) in
    let one = c.confirm_all.ensures.counted in
    let two = c.run_on.ensures.counted in
    omega (arith, ticks, none, made, one, two)

-- ---- for what was known before

still_of : (c : After-run_on) (from : Origin) (before : KnownValue) → IsRollSince from before (value_of c.args.self.now)
    → IsStillKnown before c.args.known.now
    → IsStill c.args.self.now.timeline.rules from c.args.known.now (value_of c.args.self.now)
still_of c from before was still = still_rolled c.args.self.now.timeline.rules from before c.args.known.now (value_of c.args.self.now)
    was.starts was.is still

begun : (c : After-run_on) (from : Origin) → IsStill c.args.self.now.timeline.rules from c.args.known.now (value_of c.args.self.now)
    → IsRunOf from c.args.known.now c.go_back-oldest.new.self
begun c from still =
    back_of c.args.self.now.timeline.rules from c.args.known.now c.args.self.now.timeline c.go_back-oldest.new.self c.args.self.now.marks
    refl still c.go_back-oldest.ensures.back
    c.go_back-oldest.ensures.within c.go_back-oldest.ensures.best

sure : (c : After-run_on) (from : Origin) → IsStill c.args.self.now.timeline.rules from c.args.known.now (value_of c.args.self.now)
    → c.go_back-oldest.new.self.first ≤ confirmed c.args.known.now
sure c from still =
    let first = back_first c in
    let order = still.order in
    omega (arith, first, order)

pub returns-clause-kept : goal.returns-clause-kept
returns-clause-kept c = λ was.
    let from = was.from in
    let still = still_of c from was.before was.was was.still in
    let run = c.run_on.ensures.run from (c.confirm_all.ensures.run from (begun c from still)) in
    keeps c.args.self.now.timeline.rules from c.args.known.now c.run_on.new.self (c.run_on.ensures.rules ∙ back_rules c) c.run_on.ensures.is run
    (c.run_on.ensures.first ∙ c.confirm_all.ensures.first (sure c from still)) (c.run_on.ensures.ticks (ticks_within c))

pub returns-clause-grows : goal.returns-clause-grows
returns-clause-grows c = λ from before was known.
    let rules = c.args.self.now.timeline.rules in
    let k = c.args.known.now in
    let still = still_of c from before was known in
    let run = c.confirm_all.ensures.run from (begun c from still) in
    let same : c.go_back-oldest.new.self.rules ≡ rules = ap (λ (t : TimelineValue). t.rules) c.go_back-oldest.ensures.back in
    let marks : c.args.self.now.marks ≡ marks_since c.go_back-oldest.new.self.rules from k c.go_back-oldest.new.self.first =
    still.marks ∙ ap (λ (t : TimelineValue). marks_since t.rules from k t.first) (sym c.go_back-oldest.ensures.back) in
    let noted = c.confirm_all.ensures.marks from (begun c from still) (sure c from still) marks
    ∙ ap (λ (r : Rules). marks_since r from k (confirmed k)) same in
    let seen = c.run_on.ensures.shown from run (ticks_within c) ∙ ap (λ (r : Rules). run_since r from (best_rows k)) (back_rules c) in
    rolled rules from k c.run_on.new.self c.confirm_all.new.marks (c.run_on.ensures.rules ∙ back_rules c)
    (c.run_on.ensures.first ∙ c.confirm_all.ensures.first (sure c from still))
    (c.run_on.ensures.ticks (ticks_within c)) (c.run_on.ensures.run from run) seen noted
