-- The counts so far were added, each after a space.
use Rattle.std.proofs.Common.{take}
use Rattle.std.specs.List.{flat_map}
use Rattle.std.specs.Io.KnownBytes.{Appends}
use Rattle.c8_script.specs.Printed.{count_text}
use Rattle.c8_script.proofs.answers.write_counts.Given as goal

-- the counts so far are written
abbrev pub invariant-loop-count : goal.invariant-loop-count
invariant-loop-count g l = Appends (g.W.Write.contents l.initial.out) (g.W.Write.contents l.out) (flat_map count_text (take l.count-index l.counts))
