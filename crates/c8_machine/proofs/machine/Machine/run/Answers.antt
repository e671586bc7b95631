-- Instructions go on one by one, until one draws, waits or stops, or `ipf` of them are done.
use Rattle.std.proofs.Common.{arith, sym, ◌∙◌}
use Rattle.c8_machine.specs.State.{state}
use Rattle.c8_machine.proofs.ChainLemmas.{one_more, ends_early}
use Rattle.c8_machine.proofs.machine.Machine.run.Goals as goal

pub returns-then-not-goes_on : goal.returns-then-not-goes_on
returns-then-not-goes_on c =
    ends_early c.args.game.now c.args.keys.0 (state c.args.self.now) (state c.loop-turn.self) (state c.execute.new.self) c.loop-turn._turn
    c.execute.result
    c.loop-turn.invariant c.execute.ensures (sym c.goes_on.ensures ∙ c.if-not-goes_on.true) (omega arith)

pub loop-turn-preserved : goal.loop-turn-preserved
loop-turn-preserved c =
    one_more c.args.game.now c.args.keys.0 (state c.args.self.now) (state c.loop-turn.self) (state c.execute.new.self) c.loop-turn._turn
    c.execute.result
    c.loop-turn.invariant c.execute.ensures (sym c.goes_on.ensures ∙ c.if-not-goes_on.false)
