-- The bytes so far are the first ones after a torn write of `i` bytes.
use Rattle.std.proofs.Common.{◌+◌, ◌≤◌, vec_len, vec_capacity}
use Rattle.c8_disk.specs.Disk.{Torn}
use Rattle.c8_disk.proofs.bytes.tear.Given as goal

abbrev pub invariant-loop-i : goal.invariant-loop-i
invariant-loop-i l = record {
  torn : Torn l.at l.i l.initial.file.items l.file.items;
  place : l.at + l.i ≤ vec_len l.file;
  capacity : vec_capacity l.initial.file ≤ vec_capacity l.file;
}
