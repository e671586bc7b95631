-- With one more tick the roll advances, with none it settles; a record brings no more than one.
use Rattle.std.proofs.Common.{arith}
use Rattle.c8_roll.specs.Seen.{value_of}
use Rattle.c8_roll.specs.checked.RollLaws.{roll_ticks}
use Rattle.c8_peer.proofs.peer.go_on.Goals as goal

pub advance-requires : goal.advance-requires
advance-requires c =
    let was = roll_ticks (value_of c.args.roll.now).rules c.requires.from c.requires.before (value_of c.args.roll.now) c.requires.was.is in
    omega (arith, was, c.requires.one_tick, c.if-ticks.true, c.ticks.ensures, c.ticks-2.ensures)

pub settle-requires : goal.settle-requires
settle-requires c =
    let was = roll_ticks (value_of c.args.roll.now).rules c.requires.from c.requires.before (value_of c.args.roll.now) c.requires.was.is in
    omega (arith, was, c.requires.still.ticks, c.if-ticks.false, c.ticks.ensures, c.ticks-2.ensures)
