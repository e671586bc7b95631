-- A stopped machine is its own frame; any other gets its one frame, which a serial run has for one more row.
use Rattle.std.proofs.Common.{rules}
use Rattle.c8_machine.specs.State.{state}
use Rattle.c8_machine.proofs.FrameLemmas.{frame_once}
use Rattle.c8_machine.proofs.SerialLemmas.{then_one_row}
use Rattle.c8_machine.proofs.machine.Machine.frame.Goals as goal

pub returns-then-is_some-clause-relation : goal.returns-then-is_some-clause-relation
returns-then-is_some-clause-relation c = search rules

pub returns-then-is_some-clause-function : goal.returns-then-is_some-clause-function
returns-then-is_some-clause-function c = search rules

pub returns-then-is_some-clause-serial : goal.returns-then-is_some-clause-serial
returns-then-is_some-clause-serial c =
    then_one_row c.args.game.now c.args.keys.0 (state c.args.self.now) (state c.args.self.now)
    (frame_once c.args.game.now c.args.keys.0 (state c.args.self.now) (state c.args.self.now) (search rules))

pub returns-clause-function : goal.returns-clause-function
returns-clause-function c = frame_once c.args.game.now c.args.keys.0 (state c.args.self.now) (state c.end.new.self) (search rules)

pub returns-clause-serial : goal.returns-clause-serial
returns-clause-serial c =
    then_one_row c.args.game.now c.args.keys.0 (state c.args.self.now) (state c.end.new.self)
    (frame_once c.args.game.now c.args.keys.0 (state c.args.self.now) (state c.end.new.self) (search rules))
