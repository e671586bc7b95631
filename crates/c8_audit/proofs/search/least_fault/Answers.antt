-- The earlier of the least fault so far and of this player's is the least of both; four players are all.
use Rattle.std.proofs.Common.{Option, ◌≡◌, ◌+◌, ℕ, sym, subst, arith}
use Rattle.c8_audit.specs.Read.{all_seen}
use Rattle.c8_audit.specs.Search.{IsLeastBelow}
use Rattle.c8_audit.specs.declared.fault.Fault.{Fault}
use Rattle.c8_audit.proofs.SearchLemmas.{below_five, below_more, least_at_end}
use Rattle.c8_audit.proofs.search.least_fault.Goals as goal

pub loop-number-preserved : goal.loop-number-preserved
loop-number-preserved c =
    let all = all_seen c.args.journals.now in
    subst (λ (least : Option Fault). IsLeastBelow c.args.question all (c.loop-number.number + 1) least) (sym c.earlier-least.ensures)
    (below_more c.args.question all c.loop-number.number c.loop-number.least c.least_of.result
    (below_five c.requires.0 c.args.question all c.requires.1) c.loop-number.invariant c.least_of.ensures)

pub returns : goal.returns
returns c =
    let all = all_seen c.args.journals.now in
    let end : c.loop-number.number ≡ 5 = omega (arith, c.loop-number-test.false, c.loop-number.auto.number-end) in
    least_at_end c.args.question all c.loop-number.least (below_five c.requires.0 c.args.question all c.requires.1)
    (subst (λ (n : ℕ). IsLeastBelow c.args.question all n c.loop-number.least) end c.loop-number.invariant)
