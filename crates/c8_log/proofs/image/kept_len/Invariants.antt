-- The first `n` slots of the image are open.
use Rattle.std.proofs.Common.{◌≡◌, ◌<◌, ℕ, true}
use Rattle.c8_log.specs.Slots.{is_open}
use Rattle.c8_log.proofs.image.kept_len.Given as goal

abbrev pub invariant-loop-n : goal.invariant-loop-n
invariant-loop-n l = (m : ℕ) → m < l.n → is_open l.image m ≡ true
