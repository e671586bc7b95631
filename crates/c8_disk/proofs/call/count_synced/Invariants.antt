-- The count is that of the calls up to the last sync among the first `i`.
use Rattle.std.proofs.Common.{◌≡◌, take}
use Rattle.c8_disk.specs.Past.{synced_count}
use Rattle.c8_disk.proofs.call.count_synced.Given as goal

abbrev pub invariant-loop-i : goal.invariant-loop-i
invariant-loop-i l = l.synced ≡ synced_count (take l.i l.calls)
