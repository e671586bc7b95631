-- The machine is the run of as many idle rows as there were frames, and those published before begin them.
use Rattle.std.proofs.Common.{sym, ◌∙◌}
use Rattle.std.proofs.lemmas.List.{length-replicate}
use Rattle.c8_digest.specs.Origin.{run_since}
use Rattle.c8_live.specs.Starts.{origin_from}
use Rattle.c8_thread_tests.specs.Idle.{idle, idle_rows}
use Rattle.c8_thread_tests.proofs.Idle.{idle_begins}
use Rattle.c8_thread_tests.proofs.run.Publisher.publish.Goals as goal

pub publish-requires : goal.publish-requires
publish-requires c =
    let it = c.args.self.now in
    let run = it.run in (
      c.requires,
      (
        idle_begins it.pen.rows it.published run.count it.rows it.earlier,
        (
          sym (length-replicate run.count idle),
          (
            run.ran.1,
            run.ran.0 ∙ sym (c.the_first_start_is_serial.ensures run.game.now (idle_rows run.count) c.in_range.ensures)
                ∙ (λ i. run_since (sym it.game_is i) (origin_from (sym it.from_is i)) (idle_rows run.count)),
          ),
        ),
      ),
    )
