-- Arming, act and crash in turn are the stop of the definitions; if memory is refused, the arming is taken back.
use Rattle.std.proofs.Common.{ℕ, refl, subst}
use Rattle.c8_disk.specs.declared.disk.Arm.TheVariants as arms
use Rattle.c8_world.specs.World.{World, Stop}
use Rattle.c8_world.specs.Events.{act_of}
use Rattle.c8_world.specs.declared.answer.Answer.TheVariants as answers
use Rattle.c8_world.specs.Table.{Holds, HasCrashed}
use Rattle.c8_world.specs.Turns.{IsArmed, IsCrashed}
use Rattle.c8_world.proofs.StopLemmas.{stop_happens, happened_from, unhappened_from}
use Rattle.c8_world.proofs.table.Table.stop.Goals as goal

pub returns-in-Ok-clause-happened : goal.returns-in-Ok-clause-happened
returns-in-Ok-clause-happened c w holds =
    let armed = c.arm.ensures.armed.holds w holds in
    let crashes = subst (λ (p : ℕ). (v : World) → Holds c.act.new.self v → HasCrashed c.act.new.self v p c.crash.new.self)
    c.seat-player.ensures c.crash.ensures.crashed.crashed in
    happened_from c.args.self.now c.arm.new.self c.crash.new.self w (Stop (act_of c.args.act) c.args.calls c.args.pick) answers.Stopped
    c.arm.ensures.same
    (stop_happens c.arm.new.self c.act.new.self c.crash.new.self w (act_of c.args.act) c.args.calls c.args.pick c.in-Ok.field-0 armed
    c.act.ensures.same c.crash.ensures.same
    (c.in-Ok.ensures.happened w armed) crashes)

pub returns-in-Err-clause-memory : goal.returns-in-Err-clause-memory
returns-in-Err-clause-memory c w holds =
    unhappened_from c.args.self.now c.arm.new.self c.act.new.self c.arm-in-Err.new.self w (act_of c.args.act) c.arm.ensures.same
    (c.in-Err.ensures.memory w (c.arm.ensures.armed.holds w holds)) c.arm-in-Err.ensures.armed.holds

pub returns-in-Ok-clause-turn : goal.returns-in-Ok-clause-turn
returns-in-Ok-clause-turn c = (
  refl,
  record {
    armed = c.arm.new.self;
    acted = c.act.new.self;
    answer = c.in-Ok.field-0;
    begins = subst (λ (p : ℕ). IsArmed p (arms.Stop c.args.calls) c.args.self.now c.arm.new.self) c.seat-player.ensures c.arm.ensures.armed;
    does = c.in-Ok.ensures.turn;
    crashes = subst (λ (p : ℕ). IsCrashed p c.args.pick c.act.new.self c.crash.new.self) c.seat-player.ensures c.crash.ensures.crashed;
  },
)

pub returns-in-Err-clause-turn_out : goal.returns-in-Err-clause-turn_out
returns-in-Err-clause-turn_out c = record {
  armed = c.arm.new.self;
  undone = c.act.new.self;
  begins = subst (λ (p : ℕ). IsArmed p (arms.Stop c.args.calls) c.args.self.now c.arm.new.self) c.seat-player.ensures c.arm.ensures.armed;
  does = c.in-Err.ensures.turn_out;
  ends = subst (λ (p : ℕ). IsArmed p arms.Off c.act.new.self c.arm-in-Err.new.self) c.seat-player.ensures c.arm-in-Err.ensures.armed;
}
