-- The notes of the entries before `place` are their players' parts of the log; no entry has changed, nor the log.
use Rattle.std.proofs.Common.{◌≡◌, ◌<◌, ℕ, Some}
use Rattle.std.specs.List.{slice_get}
use Rattle.c8_rig.specs.Log.{part_of}
use Rattle.c8_rig.specs.Tokens.{EntryValue}
use Rattle.c8_rig.proofs.ether.Ether.into_log.Given as goal

abbrev pub invariant-loop-place : goal.invariant-loop-place
invariant-loop-place g l =
    (l.entries.items ≡ l.initial.entries.items) × (l.book ≡ l.initial.book)
    × ((i : ℕ) (e : EntryValue) → i < l.place → slice_get l.initial.entries.items i ≡ Some e → e.notes ≡ part_of e.player l.initial.book)
