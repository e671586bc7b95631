-- The entries and the peers so far are those that the threads returned, in order; no peer was missing.
use Rattle.std.proofs.Common.{◌≡◌, map, Some}
use Rattle.c8_rig.proofs.threads.parted.Given as goal

abbrev pub invariant-loop-one : goal.invariant-loop-one
invariant-loop-one l = (l.entries.items ≡ map (λ one. one.entry) l.yielded) × (map Some l.peers.items ≡ map (λ one. one.peer) l.yielded)
