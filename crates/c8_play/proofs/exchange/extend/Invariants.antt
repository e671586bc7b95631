-- The list is the old one and the given bytes up to here.
use Rattle.std.proofs.Common.{◌≡◌, ◌++◌, take}
use Rattle.c8_play.proofs.exchange.extend.Given as goal

-- the bytes so far are added
abbrev pub invariant-loop-byte : goal.invariant-loop-byte
invariant-loop-byte l = l.list.items ≡ l.initial.list.items ++ take l.byte-index l.bytes
