-- The bytes with a number are read as the packet that was sent, so the watcher in seat 5 or 6 hears what it does there.
use Rattle.std.proofs.Common.{◌∙◌, refl, ap, arith}
use Rattle.c8_wire.specs.Spelling.{spelling}
use Rattle.c8_spectator.specs.Watching.{WatchValue}
use Rattle.c8_world.proofs.WatcherLemmas.{sits, unheard_happens, heard_five, heard_six, hears_on}
use Rattle.c8_world.proofs.table.Table.hear.Goals as goal

pub returns-in_default-clause-happened : goal.returns-in_default-clause-happened
returns-in_default-clause-happened c =
    let n = c.args.watcher.number in
    unheard_happens _ c.args.self.now c.args.number n (sits n c.args.watcher.from_five c.args.watcher.to_six) c.self.view_is c.in_default.ensures

pub invariant_of-self : goal.invariant_of-self
invariant_of-self c = (
  c.self.invariant.0,
  hears_on _ _ 5 c.self.inside.five c.hear.new.self _ c.self.invariant.1 c.hear.ensures.watch,
  c.self.invariant.2,
)

pub returns-then-watcher-eq5-clause-happened : goal.returns-then-watcher-eq5-clause-happened
returns-then-watcher-eq5-clause-happened c =
    let n = c.args.watcher.number in
    heard_five _ c.args.self.now c.args.number n c.in-Some.said.now c.self.inside.five c.hear.new.self c.hear.result
    (sits n c.args.watcher.from_five c.args.watcher.to_six) (omega arith) c.self.view_is c.in-Some.ensures
    (λ w holds packet i at. c.what_is_spelled_is_read.ensures.read (spelling packet) packet
    (c.what_was_said_is_true.ensures.spelled c.self.inside.game.now c.self.inside.room w packet c.in_range.ensures (omega arith)
    holds.reached (i, at)))
    c.self.invariant.1 refl c.hear.ensures.answer c.hear.ensures.watch

pub invariant_of-self-2 : goal.invariant_of-self-2
invariant_of-self-2 c = (
  c.self.invariant.0,
  c.self.invariant.1,
  hears_on _ _ 6 c.self.inside.six c.hear-2.new.self _ c.self.invariant.2 c.hear-2.ensures.watch,
)

pub returns-clause-happened : goal.returns-clause-happened
returns-clause-happened c =
    let n = c.args.watcher.number in
    heard_six _ c.args.self.now c.args.number n c.in-Some.said.now c.self.inside.six c.hear-2.new.self c.hear-2.result
    (sits n c.args.watcher.from_five c.args.watcher.to_six) (omega arith) c.self.view_is c.in-Some.ensures
    (λ w holds packet i at. c.what_is_spelled_is_read.ensures.read (spelling packet) packet
    (c.what_was_said_is_true.ensures.spelled c.self.inside.game.now c.self.inside.room w packet c.in_range.ensures (omega arith)
    holds.reached (i, at)))
    c.self.invariant.2 refl c.hear-2.ensures.answer c.hear-2.ensures.watch
