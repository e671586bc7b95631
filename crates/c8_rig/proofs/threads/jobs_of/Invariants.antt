-- The jobs so far have the entries in order, and each has a new disk for all turns.
use Rattle.std.proofs.Common.{◌≡◌, map}
use Rattle.std.specs.List.{All}
use Rattle.c8_rig.specs.Rigged.{IsDiskFor}
use Rattle.c8_rig.proofs.threads.jobs_of.Given as goal

abbrev pub invariant-loop-entry : goal.invariant-loop-entry
invariant-loop-entry l = (map (λ job. job.entry) l.jobs.items ≡ l.yielded) × (l.many ≡ l.turns) × All (λ job. IsDiskFor l.turns job.disk) l.jobs.items
