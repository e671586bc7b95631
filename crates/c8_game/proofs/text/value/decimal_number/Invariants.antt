-- The number is that of the digits so far, and has no more digits than these.
use Rattle.std.proofs.Common.{◌≡◌, ◌<◌, ◌^◌, take}
use Rattle.c8_game.specs.Fields.{decimal_number}
use Rattle.c8_game.proofs.text.value.decimal_number.Given as goal

abbrev pub invariant-loop-digit : goal.invariant-loop-digit
invariant-loop-digit l = (l.number ≡ decimal_number (take l.digit-index l.text)) × (l.number < 10 ^ l.digit-index)
