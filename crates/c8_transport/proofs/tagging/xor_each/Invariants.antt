-- The bytes up to here are exclusive-or the pad, and the rest is as it was.
use Rattle.std.proofs.Common.{◌≡◌, ◌++◌, take, drop}
use Rattle.c8_transport.specs.Hmac.{xor_each}
use Rattle.c8_transport.proofs.tagging.xor_each.Given as goal

abbrev pub invariant-loop-byte : goal.invariant-loop-byte
invariant-loop-byte l = l.byte-items ≡ xor_each l.pad (take l.byte-index l.fn.block) ++ drop l.byte-index l.fn.block
