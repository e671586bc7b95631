-- The key sets so far are appended.
use Rattle.std.proofs.Common.{◌≡◌, ◌++◌, take}
use Rattle.c8_cast.specs.Spelling.{sets_bytes}
use Rattle.c8_cast.proofs.spelling.add_row.Given as goal

abbrev pub invariant-loop-keys : goal.invariant-loop-keys
invariant-loop-keys l = l.bytes.items ≡ l.fn.bytes.items ++ sets_bytes (take l.keys-index (take l.players l.row.sets))
