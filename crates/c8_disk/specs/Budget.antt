-- When a disk in memory fails.
use Rattle.std.specs.Prelude.{◌-◌, ◌==◌, ◌||◌, if◌then◌else◌, Bool, false}
use Rattle.c8_disk.specs.declared.disk.Arm.{Arm}
use Rattle.c8_disk.specs.declared.disk.Arm.TheVariants.{Off, Stop, Once}
use Rattle.c8_disk.specs.declared.budget.Budget.{Budget}

-- the next call is to fail
abbrev pub fails_now : Arm → Bool
fails_now Off = false
fails_now (Stop left) = left == 0
fails_now (Once left) = left == 0

-- after a served call
abbrev pub stepped : Arm → Arm
stepped Off = Off
stepped (Stop left) = Stop (left - 1)
stepped (Once left) = Once (left - 1)

-- after a failed call: if one call was to fail, it was this one
abbrev pub after_failure : Arm → Arm
after_failure Off = Off
after_failure (Stop left) = Stop left
after_failure (Once left) = if left == 0 then Off else Once left

-- the next call is refused
abbrev pub refuses_call : Budget → Bool
refuses_call budget = budget.calls == 0 || fails_now budget.arm
