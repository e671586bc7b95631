-- The reader gave the bytes up to this block, and there is memory for the block.
use Rattle.std.proofs.Common.{◌≡◌, ◌*◌, length, take}
use Rattle.std.specs.Io.KnownBytes.{Consumes}
use Rattle.c8_audit.proofs.image.has_bytes.Given as goal

-- the reader gave the bytes before this block
abbrev pub invariant-loop-n : goal.invariant-loop-n
invariant-loop-n g l = (length l.block.items ≡ 65536)
    × Consumes (g.R.Read.remaining l.fn.reader) (g.R.Read.remaining l.reader) (take (65536 * l.n) l.bytes)
