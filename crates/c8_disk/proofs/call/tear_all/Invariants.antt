-- What the calls left may make of the bytes, if a crash tears them, all calls may make of the first bytes.
use Rattle.std.proofs.Common.{◌≡◌, ◌≤◌, List, ℕ, drop, true, vec_capacity}
use Rattle.c8_disk.specs.Past.{fit, TornBy}
use Rattle.c8_disk.proofs.call.tear_all.Given as goal

abbrev pub invariant-loop-call : goal.invariant-loop-call
invariant-loop-call l = record {
  rest : (new : List ℕ) → TornBy (drop l.call-index l.calls) l.file.items new → TornBy l.calls l.initial.file.items new;
  fits : fit (vec_capacity l.initial.file) (drop l.call-index l.calls) ≡ true;
  capacity : vec_capacity l.initial.file ≤ vec_capacity l.file;
}
