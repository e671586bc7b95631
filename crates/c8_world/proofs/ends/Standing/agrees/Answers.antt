-- One frame with different rows makes the answer no; without one, all rows that both count as confirmed are the same.
use Rattle.std.proofs.Common.{◌<◌, refl, sym, ◌∙◌, arith}
use Rattle.c8_world.specs.Ends.{known_at, both}
use Rattle.c8_world.proofs.EndLemmas.{same_rows, same_row_of}
use Rattle.c8_world.proofs.ends.Standing.agrees.Goals as goal

pub returns-then-not-is_same : goal.returns-then-not-is_same
returns-then-not-is_same c = (
  λ no. absurd (cc no),
  λ same.
      let frames = c.loop-frame.invariant.frames in
      let within : c.loop-frame.frame < both (known_at c.args.self.now) (known_at c.args.other.now) = omega (arith, frames) in
      sym c.if-not-is_same.true ∙ c.is_same.ensures.1
      (c.row.ensures ∙ same_row_of (known_at c.args.self.now) (known_at c.args.other.now) c.loop-frame.frame same within
      ∙ sym c.row-in-loop-frame.ensures),
)

pub returns : goal.returns
returns c = (
  λ yes. same_rows (known_at c.args.self.now) (known_at c.args.other.now) c.min-frames.result c.loop-frame.invariant.frames
      (λ frame within. c.loop-frame.invariant.same frame (omega (arith, within))),
  λ same. refl,
)
