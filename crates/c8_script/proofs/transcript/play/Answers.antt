-- Memory may run out before the world, during its events or after them: the answers so far are those of a chain.
use Rattle.c8_world.specs.World.{start}
use Rattle.c8_world.specs.Run.{answers_before}
use Rattle.c8_script.specs.Sim.{IsNewWorld}
use Rattle.c8_script.proofs.TranscriptLemmas.{begun_none, begun_out, begun_all}
use Rattle.c8_script.proofs.transcript.play.Goals as goal

pub returns-in_default : goal.returns-in_default
returns-in_default c = (
  c.out_of_memory.ensures.error,
  rw c.out_of_memory.ensures.answers
      (begun_none c.args.game.now c.args.events.now c.new-in_default.result.items c.new-in_default.ensures.items),
)

pub returns-in-Err : goal.returns-in-Err
returns-in-Err c =
    let made = c.in-Ok.ensures in
    let is_new : IsNewWorld c.args.game.now c.in-Ok.world.table =
    record { rules_are = made.rules; room_is = made.room; holds = made.holds; disks = made.disks } in
    let out = c.in-Err.ensures.memory (start c.args.game.now) made.holds in (
      c.out_of_memory-in-Err.ensures.error,
      rw (c.out_of_memory-in-Err.ensures.answers, c.answers_before.ensures)
          (begun_out c.args.game.now c.in-Ok.world.table c.run.new.self.table c.args.events.now (answers_before c.in-Err.error) is_new out
          c.in-Err.ensures.turns_out),
    )

pub returns-in-Ok-left_by : goal.returns-in-Ok-left_by
returns-in-Ok-left_by c =
    let made = c.in-Ok.ensures in
    let is_new : IsNewWorld c.args.game.now c.in-Ok.world.table =
    record { rules_are = made.rules; room_is = made.room; holds = made.holds; disks = made.disks } in
    let run = c.in-Ok-run.ensures.ran (start c.args.game.now) made.holds in
    let ends = c.in-Ok-left_by.ensures.ends run.world run.holds in
    record {
      made = c.in-Ok.world.table;
      is_new = is_new;
      left = c.run.new.self.table;
      run = run;
      turns = c.in-Ok-run.ensures.turns;
      reads = ends.0;
      ends = ends.1;
      agree = c.in-Ok-left_by.ensures.agree;
      five = c.rows_told.ensures.five;
      six = c.rows_told.ensures.six;
      journals = c.in-Ok-left_by.ensures.journals;
    }

pub returns : goal.returns
returns c =
    let made = c.in-Ok.ensures in
    let is_new : IsNewWorld c.args.game.now c.in-Ok.world.table =
    record { rules_are = made.rules; room_is = made.room; holds = made.holds; disks = made.disks } in
    let run = c.in-Ok-run.ensures.ran (start c.args.game.now) made.holds in (
      c.out_of_memory-in-Err-left_by.ensures.error,
      rw c.out_of_memory-in-Err-left_by.ensures.answers
          (begun_all c.args.game.now c.in-Ok.world.table c.run.new.self.table c.args.events.now c.in-Ok-run.field-0.answers.items is_new run
          c.in-Ok-run.ensures.turns),
    )
