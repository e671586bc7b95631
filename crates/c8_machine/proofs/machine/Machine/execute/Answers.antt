-- To perform what the code at the counter decodes to is one step of the machine.
use Rattle.c8_machine.specs.State.{state}
use Rattle.c8_machine.proofs.FrameLemmas.{step_at_code}
use Rattle.c8_machine.proofs.machine.Machine.execute.Goals as goal

pub returns : goal.returns
returns c =
    step_at_code c.args.game.now c.args.keys.0 (state c.args.self.now) (state c.perform.new.self) c.code.result _ c.perform.result
    c.code.ensures c.decode-operation.ensures.value c.perform.ensures
