-- A counter above the greatest is new, one far below or marked is not, and the others within the window are.
use Rattle.std.proofs.Common.{ℕ, Option, subst, ◌+◌, ◌<◌, arith}
use Rattle.c8_transport.specs.SeenBits.{HasSeen}
use Rattle.c8_transport.proofs.SeenLemmas.{is_new, was_taken, older, too_old, is_newer, newer, mark_at}
use Rattle.c8_transport.proofs.seen.room_for.Goals as goal
use Rattle.c8_transport.proofs.seen.room_for.Goals.{then-greatest-counter-ge-WINDOW-via-then-greatest-counter-ge-WINDOW}
use Rattle.c8_transport.proofs.seen.room_for.Goals.{then-greatest-counter-ge-WINDOW-via-else-greatest-counter-ge-WINDOW+then-marks-place_of}

pub returns-then-counter-greatest-clause-room : goal.returns-then-counter-greatest-clause-room
returns-then-counter-greatest-clause-room c taken seen =
    let at = subst (λ (o : Option ℕ). HasSeen o c.args.marks.now taken) c.in-Some.is seen in
    let above = c.if-counter-greatest.true in (
      is_newer _ _ c.args.marks.now c.clear.new.marks taken at above,
      newer _ _ c.args.marks.now c.clear.new.marks taken at above c.clear.array_long
          (λ n more few near. c.clear.ensures.cleared n more (omega (arith, above, few)) (omega (arith, above, near)))
          (λ n few near. c.clear.ensures.kept n few (omega (arith, above, near))),
    )

pub returns-then-greatest-counter-ge-WINDOW-clause-room : goal.returns-then-greatest-counter-ge-WINDOW-clause-room
returns-then-greatest-counter-ge-WINDOW-clause-room c taken seen =
    let at = subst (λ (o : Option ℕ). HasSeen o c.args.marks.now taken) c.in-Some.is seen in
    let below = c.if-counter-greatest.false in
    elim c.then-greatest-counter-ge-WINDOW.branch [
      | then-greatest-counter-ge-WINDOW-via-then-greatest-counter-ge-WINDOW w ↦ too_old _ _ c.args.marks.now taken at
          (let far = w.if-greatest-counter-ge-WINDOW.true in omega (arith, far, below))
      | then-greatest-counter-ge-WINDOW-via-else-greatest-counter-ge-WINDOW+then-marks-place_of w ↦ was_taken _ _ c.args.marks.now taken at below
          (let near = w.if-greatest-counter-ge-WINDOW.false in omega (arith, near, below))
          (mark_at c.args.marks.now _ _ _ w.place_of.ensures.is w.if-marks-place_of.true)
    ]

pub returns-clause-room : goal.returns-clause-room
returns-clause-room c taken seen =
    let at = subst (λ (o : Option ℕ). HasSeen o c.args.marks.now taken) c.in-Some.is seen in
    let below = c.if-counter-greatest.false in
    let far = c.if-greatest-counter-ge-WINDOW.false in
    let near : c.in-Some.greatest < c.args.counter + 1024 = omega (arith, far, below) in (
      is_new _ _ c.args.marks.now taken at below near (mark_at c.args.marks.now _ _ _ c.place_of.ensures.is c.if-marks-place_of.false),
      older _ _ c.args.marks.now taken at below near c.told-marks,
    )
