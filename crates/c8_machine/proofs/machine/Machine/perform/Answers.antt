-- Each instruction is what its own method does, whatever the rules and the keys are.
use Rattle.std.proofs.Common.{rules}
use Rattle.c8_machine.proofs.machine.Machine.perform.Goals as goal

pub returns-in-Clear : goal.returns-in-Clear
returns-in-Clear c = rw c.in-Clear.is (c.clear.ensures c.args.game.now c.args.keys.0)

pub returns-in-Return : goal.returns-in-Return
returns-in-Return c = rw c.in-Return.is (c.go_back.ensures c.args.game.now c.args.keys.0)

pub returns-in-Jump : goal.returns-in-Jump
returns-in-Jump c = rw c.in-Jump.is (c.jump.ensures c.args.game.now c.args.keys.0)

pub returns-in-Call : goal.returns-in-Call
returns-in-Call c = rw c.in-Call.is (c.call.ensures c.args.game.now c.args.keys.0)

pub returns-in-SkipIfValue : goal.returns-in-SkipIfValue
returns-in-SkipIfValue c = rw c.in-SkipIfValue.is (c.skip_if_value.ensures c.args.game.now c.args.keys.0)

pub returns-in-SkipUnlessValue : goal.returns-in-SkipUnlessValue
returns-in-SkipUnlessValue c = rw c.in-SkipUnlessValue.is (c.skip_unless_value.ensures c.args.game.now c.args.keys.0)

pub returns-in-SkipIfSame : goal.returns-in-SkipIfSame
returns-in-SkipIfSame c = rw c.in-SkipIfSame.is (c.skip_if_same.ensures c.args.game.now c.args.keys.0)

pub returns-in-AddValue : goal.returns-in-AddValue
returns-in-AddValue c = rw c.in-AddValue.is (c.add_value.ensures c.args.game.now c.args.keys.0)

pub returns-in-Set : goal.returns-in-Set
returns-in-Set c = rw c.in-Set.is (c.set.ensures c.args.game.now c.args.keys.0)

pub returns-in-Or : goal.returns-in-Or
returns-in-Or c = rw c.in-Or.is (c.or.ensures c.args.game.now c.args.keys.0)

pub returns-in-And : goal.returns-in-And
returns-in-And c = rw c.in-And.is (c.and.ensures c.args.game.now c.args.keys.0)

pub returns-in-ExclusiveOr : goal.returns-in-ExclusiveOr
returns-in-ExclusiveOr c = rw c.in-ExclusiveOr.is (c.exclusive_or.ensures c.args.game.now c.args.keys.0)

pub returns-in-Add : goal.returns-in-Add
returns-in-Add c = rw c.in-Add.is (c.add.ensures c.args.game.now c.args.keys.0)

pub returns-in-Subtract : goal.returns-in-Subtract
returns-in-Subtract c = rw c.in-Subtract.is (c.subtract.ensures c.args.game.now c.args.keys.0)

pub returns-in-ShiftRight : goal.returns-in-ShiftRight
returns-in-ShiftRight c = rw c.in-ShiftRight.is (c.shift_right.ensures c.args.game.now c.args.keys.0)

pub returns-in-SubtractFrom : goal.returns-in-SubtractFrom
returns-in-SubtractFrom c = rw c.in-SubtractFrom.is (c.subtract_from.ensures c.args.game.now c.args.keys.0)

pub returns-in-ShiftLeft : goal.returns-in-ShiftLeft
returns-in-ShiftLeft c = rw c.in-ShiftLeft.is (c.shift_left.ensures c.args.game.now c.args.keys.0)

pub returns-in-SkipUnlessSame : goal.returns-in-SkipUnlessSame
returns-in-SkipUnlessSame c = rw c.in-SkipUnlessSame.is (c.skip_unless_same.ensures c.args.game.now c.args.keys.0)

pub returns-in-JumpFrom : goal.returns-in-JumpFrom
returns-in-JumpFrom c = rw c.in-JumpFrom.is (c.jump_from.ensures c.args.game.now c.args.keys.0)

pub returns-in-Random : goal.returns-in-Random
returns-in-Random c = rw c.in-Random.is (c.random.ensures c.args.keys.0)

pub returns-in-Draw : goal.returns-in-Draw
returns-in-Draw c = rw c.in-Draw.is (c.draw.ensures c.args.game.now c.args.keys.0)

pub returns-in-SkipIfDown : goal.returns-in-SkipIfDown
returns-in-SkipIfDown c = rw c.in-SkipIfDown.is (c.skip_if_down.ensures c.args.game.now)

pub returns-in-SkipIfUp : goal.returns-in-SkipIfUp
returns-in-SkipIfUp c = rw c.in-SkipIfUp.is (c.skip_if_up.ensures c.args.game.now)

pub returns-in-AwaitKey : goal.returns-in-AwaitKey
returns-in-AwaitKey c = rw c.in-AwaitKey.is (c.await_key.ensures c.args.game.now c.args.keys.0)

pub returns-in-SetTimer : goal.returns-in-SetTimer
returns-in-SetTimer c = rw c.in-SetTimer.is (c.set_timer.ensures c.args.game.now c.args.keys.0)

pub returns-in-SetTone : goal.returns-in-SetTone
returns-in-SetTone c = rw c.in-SetTone.is (c.set_tone.ensures c.args.game.now c.args.keys.0)

pub returns-in-AddAddress : goal.returns-in-AddAddress
returns-in-AddAddress c = rw c.in-AddAddress.is (c.add_address.ensures c.args.game.now c.args.keys.0)

pub returns-in-PointAtDigit : goal.returns-in-PointAtDigit
returns-in-PointAtDigit c = rw c.in-PointAtDigit.is (c.point_at_digit.ensures c.args.game.now c.args.keys.0)

pub returns-in-StoreDigits : goal.returns-in-StoreDigits
returns-in-StoreDigits c = rw c.in-StoreDigits.is (c.store_digits.ensures c.args.game.now c.args.keys.0)

pub returns-in-StoreRegisters : goal.returns-in-StoreRegisters
returns-in-StoreRegisters c = rw c.in-StoreRegisters.is (c.store_registers.ensures c.args.game.now c.args.keys.0)

pub returns-in-LoadRegisters : goal.returns-in-LoadRegisters
returns-in-LoadRegisters c = rw c.in-LoadRegisters.is (c.load_registers.ensures c.args.game.now c.args.keys.0)

-- with this answer a wrong body is refused at once
pub returns-in-ReadTimer : goal.returns-in-ReadTimer
returns-in-ReadTimer c = search rules
