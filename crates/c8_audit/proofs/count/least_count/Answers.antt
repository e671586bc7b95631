-- The lesser of the count so far and of this player's, if it stays, is the least up to this player.
use Rattle.std.proofs.Common.{ℕ, ◌+◌, Option, sym, subst}
use Rattle.c8_audit.specs.Counts.{IsLesserBelow}
use Rattle.c8_audit.specs.Read.{all_seen}
use Rattle.c8_audit.proofs.CountLemmas.{lesser_next}
use Rattle.c8_audit.proofs.count.least_count.Goals as goal

pub loop-number-preserved : goal.loop-number-preserved
loop-number-preserved c =
    let all = all_seen c.args.journals.now in
    subst (λ (least : Option ℕ). IsLesserBelow all (c.loop-number.number + 1) least) (sym c.lesser-least.ensures)
    (lesser_next all c.loop-number.number c.loop-number.least _ c.loop-number.invariant c.stayer.ensures)
