-- A later mark of the frame replaces the one found so far, so the last one is found.
use Rattle.std.proofs.Common.{◌≡◌, Some, sym, ap, subst, ◌∙◌}
use Rattle.std.specs.List.{slice_get}
use Rattle.std.specs.Option.{option_copied}
use Rattle.c8_digest.proofs.MarkLemmas.{mark_none, mark_next}
use Rattle.c8_digest.proofs.marks.Marks.get.Goals as goal

pub loop-n-init : goal.loop-n-init
loop-n-init c = sym (mark_none c.args.frame)

pub loop-n-preserved : goal.loop-n-preserved
loop-n-preserved c =
    let here : slice_get c.self.inside.ring.items c.loop-n.n ≡ Some c.in-Some.kept.now = sym c.get.ensures ∙ ap option_copied c.in-Some.is in
    c.later-found.ensures
    ∙ mark_next c.args.frame c.args.self.now c.loop-n.n c.in-Some.kept.now c.loop-n.found
    (subst (λ marks. slice_get marks c.loop-n.n ≡ Some c.in-Some.kept.now) c.self.view_is here) c.loop-n.invariant
