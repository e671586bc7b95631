-- One more event, with its answer, turn and arming, extends the run so far; if memory was refused, the run ends there.
use Rattle.std.proofs.Common.{◌+◌, take, ◌∙◌, arith}
use Rattle.c8_world.proofs.LifeLemmas.{one_more, lived_on, run_next, run_out_here, lists_more, same_match}
use Rattle.c8_world.proofs.DiskLemmas.{are_armed_next, are_armed_out}
use Rattle.c8_world.proofs.TurnLemmas.{turns_next, first_turns}
use Rattle.c8_world.proofs.world.World.run_all.Goals as goal

pub returns-in-Err-clause-memory : goal.returns-in-Err-clause-memory
returns-in-Err-clause-memory c w holds =
    run_out_here c.args.self.now.table c.loop-event.self.table c.happen.new.self.table w c.args.events.now c.loop-event.event-index
    c.loop-event.answers.items c.event-item.result
    (omega arith) c.event-item.is (c.loop-event.invariant.ran w holds) c.in-Err.ensures.memory

pub loop-event-preserved : goal.loop-event-preserved
loop-event-preserved c = record {
  same = same_match c.args.self.now.table c.loop-event.self.table c.happen.new.self.table c.loop-event.invariant.same c.happen.ensures.same;
  disks =
      are_armed_next c.args.self.now.table c.loop-event.self.table c.happen.new.self.table c.args.events.now c.loop-event.event-index
      c.event-item.result (omega arith) c.event-item.is
      c.loop-event.invariant.same c.loop-event.invariant.disks c.in-Ok.ensures.disks;
  turns =
      turns_next c.args.self.now.table c.loop-event.self.table c.happen.new.self.table c.args.events.now c.loop-event.event-index
      c.loop-event.answers.items c.push_reserved.new.self.items
      c.event-item.result c.in-Ok.answer (omega arith) c.event-item.is c.loop-event.invariant.turns c.in-Ok.ensures.turn
      c.push_reserved.ensures.items;
  ran = λ w holds.
      run_next c.args.self.now.table c.loop-event.self.table c.happen.new.self.table w c.args.events.now c.loop-event.event-index
      c.loop-event.answers.items c.push_reserved.new.self.items
      c.event-item.result c.in-Ok.answer (omega arith) c.event-item.is c.loop-event.invariant.same (c.loop-event.invariant.ran w holds)
      c.in-Ok.ensures.happened c.push_reserved.ensures.items;
  events = c.in-Ok.ensures.life.0
      ∙ lists_more c.args.self.now.events c.loop-event.self.events (take c.loop-event.event-index c.args.events.now)
      (take (c.loop-event.event-index + 1) c.args.events.now) c.event-item.result
      c.loop-event.invariant.events (one_more c.args.events.now c.loop-event.event-index c.event-item.result (omega arith) c.event-item.is);
  answers = c.in-Ok.ensures.life.1
      ∙ lists_more c.args.self.now.answers c.loop-event.self.answers c.loop-event.answers.items c.push_reserved.new.self.items
      c.in-Ok.answer c.loop-event.invariant.answers c.push_reserved.ensures.items;
  count = omega arith;
  room = omega arith;
}

pub returns-in-Err-clause-life_out : goal.returns-in-Err-clause-life_out
returns-in-Err-clause-life_out c =
    lived_on c.args.self.now c.loop-event.self c.happen.new.self c.args.events.now c.loop-event.event-index c.event-item.result
    c.loop-event.answers.items (omega arith) c.event-item.is
    c.loop-event.invariant.events c.loop-event.invariant.answers
    c.in-Err.ensures.life_out

pub returns-in-Err-clause-disks_out : goal.returns-in-Err-clause-disks_out
returns-in-Err-clause-disks_out c =
    are_armed_out c.args.self.now.table c.loop-event.self.table c.happen.new.self.table c.args.events.now c.loop-event.event-index
    c.event-item.result (omega arith) c.event-item.is
    c.loop-event.invariant.same c.loop-event.invariant.disks c.in-Err.ensures.disks_out

pub returns-in-Err-clause-turns_out : goal.returns-in-Err-clause-turns_out
returns-in-Err-clause-turns_out c =
    first_turns c.args.self.now.table c.loop-event.self.table c.happen.new.self.table c.args.events.now c.loop-event.event-index
    c.event-item.result c.loop-event.answers.items (omega arith) c.event-item.is c.loop-event.invariant.turns c.in-Err.ensures.turn_out
