-- Only rows of text that differ are written, so a terminal that showed the old points then shows the new ones.
use Rattle.std.proofs.Common.{◌≡◌, ℕ, List, ◌++◌, Option, sym, ap, subst, ◌∙◌, arith}
use Rattle.c8_screen.specs.declared.Screen.{Screen}
use Rattle.c8_screen.specs.Points.{Points, points_of}
use Rattle.c8_terminal.specs.Painter.{known_to, seen}
use Rattle.c8_terminal.specs.Painting.{line, painting, is_due}
use Rattle.c8_terminal.specs.Picture.{Repaints}
use Rattle.c8_terminal.proofs.PaintingLemmas.{row_due, row_not_due, all_are, repaints, nothing_new}
use Rattle.c8_terminal.proofs.painter.Painter.paint.Goals as goal
use Rattle.c8_terminal.proofs.painter.Painter.paint.Goals.{then-is_due, else-is_due}

pub loop-y-preserved : goal.loop-y-preserved
loop-y-preserved c =
    let known : Option Points = known_to c.args.self.now in
    let points : Points = points_of c.args.screen.now in
    let y : ℕ = c.loop-y.y in
    let due : c.is_due.result ≡ is_due known points y =
    c.is_due.ensures ∙ ap (λ (shown : Option Screen). is_due (seen shown) points y) c.loop-y.invariant.shown in
    elim c.if-is_due.branch [
      | then-is_due w ↦ rw w.self-is (record {
        items =
            w.put_line.ensures.bytes ∙ ap (λ (items : List ℕ). items ++ line points y) c.loop-y.invariant.items
            ∙ row_due known points y (sym due ∙ w.if-is_due.true);
        shown = c.loop-y.invariant.shown;
        size = omega (arith, w.put_line.ensures.size, c.loop-y.invariant.size);
      })
      | else-is_due w ↦ rw w.self-is (record {
        items = c.loop-y.invariant.items ∙ row_not_due known points y (sym due ∙ w.if-is_due.false);
        shown = c.loop-y.invariant.shown;
        size = omega (arith, c.loop-y.invariant.size);
      })
    ]

pub returns-clause-exact : goal.returns-clause-exact
returns-clause-exact c =
    let all : c.loop-y.y ≡ 16 = omega (arith, c.loop-y-test.false, c.loop-y.auto.y-end) in
    c.loop-y.invariant.items ∙ all_are (known_to c.args.self.now) (points_of c.args.screen.now) c.loop-y.y all

pub returns-clause-shows : goal.returns-clause-shows
returns-clause-shows c =
    let known : Option Points = known_to c.args.self.now in
    let points : Points = points_of c.args.screen.now in
    subst (λ (bytes : List ℕ). Repaints known bytes points) (sym (returns-clause-exact c)) (repaints known points)

pub returns-clause-same : goal.returns-clause-same
returns-clause-same c = λ same.
    let points : Points = points_of c.args.screen.now in
    returns-clause-exact c ∙ ap (λ (known : Option Points). painting known points) same ∙ nothing_new points
