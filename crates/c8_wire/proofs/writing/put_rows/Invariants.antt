-- The rows so far are appended, and each has four key sets of 16 bits.
use Rattle.std.proofs.Common.{◌≡◌, ◌++◌, take}
use Rattle.c8_wire.specs.Packet.{AreRows}
use Rattle.c8_wire.specs.Spelling.{rows_bytes}
use Rattle.c8_wire.proofs.writing.put_rows.Given as goal

abbrev pub invariant-loop-row : goal.invariant-loop-row
invariant-loop-row l = (l.out.items ≡ l.fn.out.items ++ rows_bytes (take l.row-index l.rows)) × AreRows (take l.row-index l.rows)
