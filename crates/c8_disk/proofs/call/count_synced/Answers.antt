-- With a sync all calls up to it are synced; with a write no more than before.
use Rattle.std.proofs.Common.{◌∙◌, sym}
use Rattle.c8_disk.proofs.Calls.{passed_write, passed_sync}
use Rattle.c8_disk.proofs.call.count_synced.Goals as goal
use Rattle.c8_disk.proofs.call.count_synced.Goals.{in-Sync, in_default}

pub loop-i-preserved : goal.loop-i-preserved
loop-i-preserved c = elim c.match-call.branch [
  | in-Sync w ↦ w.synced-is ∙ sym (passed_sync c.args.calls.now c.loop-i.i c.loop-i-test.true w.in-Sync.is)
  | in_default w ↦ w.synced-is ∙ c.loop-i.invariant
      ∙ sym (passed_write c.args.calls.now c.loop-i.i w.in_default.field-0 w.in_default.field-1 w.in_default.field-2 c.loop-i-test.true
      w.in_default.is)
]
