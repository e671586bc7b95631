-- The calls that are left make of the bytes so far what all calls make of the first bytes.
use Rattle.std.proofs.Common.{◌≡◌, ◌≤◌, drop, true, vec_capacity}
use Rattle.c8_disk.specs.Past.{content, are_lawful, fit}
use Rattle.c8_disk.proofs.call.replay.Given as goal

abbrev pub invariant-loop-call : goal.invariant-loop-call
invariant-loop-call l = record {
  rest : content l.file.items (drop l.call-index l.calls) ≡ content l.initial.file.items l.calls;
  lawful : are_lawful l.file.items (drop l.call-index l.calls) ≡ true;
  fits : fit (vec_capacity l.initial.file) (drop l.call-index l.calls) ≡ true;
  capacity : vec_capacity l.initial.file ≤ vec_capacity l.file;
}
