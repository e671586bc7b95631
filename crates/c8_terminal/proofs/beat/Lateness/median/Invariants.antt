-- The counts before this place are summed up, and none of these places reaches half.
use Rattle.std.proofs.Common.{◌≡◌, ◌≤◌, ◌<◌, ◌*◌, ℕ, sum, take}
use Rattle.c8_terminal.specs.Beats.{IsHalf}
use Rattle.c8_terminal.proofs.beat.Lateness.median.Given as goal

abbrev pub invariant-loop-place : goal.invariant-loop-place
invariant-loop-place l = record {
  all : l.all ≡ sum l.self.frames;
  some : l.some ≡ sum (take l.place l.self.frames);
  few : l.some ≤ l.place * 4_294_967_295;
  none : (fewer : ℕ) → fewer < l.place → IsHalf l.self.frames fewer → ⊥;
}
