-- The earlier of the least fault so far and of the one with this other player is the least of the player's.
use Rattle.std.proofs.Common.{Option, ◌+◌, sym, subst}
use Rattle.c8_audit.specs.Read.{all_seen}
use Rattle.c8_audit.specs.Search.{IsLeastOf}
use Rattle.c8_audit.specs.declared.fault.Fault.{Fault}
use Rattle.c8_audit.proofs.SearchLemmas.{least_of_next}
use Rattle.c8_audit.proofs.search.least_of.Goals as goal

pub loop-number-preserved : goal.loop-number-preserved
loop-number-preserved c =
    let all = all_seen c.args.journals.now in
    subst (λ (least : Option Fault). IsLeastOf c.args.question all c.args.one.number (c.loop-number.number + 1) least) (sym c.earlier-least.ensures)
    (least_of_next c.args.question all c.args.one.number c.loop-number.number c.loop-number.least c.first_fault.result
    c.loop-number.invariant c.first_fault.ensures)
