-- What one call of a disk leaves, and what the calls of an opening do.
use Rattle.std.proofs.Common.{◌≡◌, ⊎_elim, inl, inr, ℕ, List, refl, ap, ◌∙◌, arith}
use Rattle.c8_disk.specs.Disk.{AddsNone, Elapses}
use Rattle.c8_disk.specs.declared.disk.Disk.{Ghosts}
use Rattle.c8_disk.specs.Runs.{LeavesOnly, ReadsOnly}
use Rattle.c8_disk.specs.checked.RunLaws.{weaker, then_run}
use Rattle.c8_log.specs.Slots.{kept}
use Rattle.c8_log.specs.Log.{KeepsOneOf}

module _ {D : Type 0} (g : Ghosts D) (only_now : (disk : D) (image : List ℕ) → g.left_since disk (g.moment disk) image → g.may_leave disk image) where
  -- a call that adds no image
  pub leaves_once : (old new : D) → AddsNone (g.may_leave old) (g.may_leave new)
      → Elapses (g.moment old) (g.moment new) (g.left_since old) (g.left_since new) (g.may_leave new)
      → LeavesOnly g old new (g.may_leave old)
  leaves_once old new none time = record {
    later = time.later;
    each = λ image left. ⊎_elim (λ past. only_now old image past) (λ now. none image now) (time.nothing_else (g.moment old) image (omega arith) left);
    before = λ t image le left. ⊎_elim (λ past. inl past) (λ now. inr (none image now)) (time.nothing_else t image le left);
  }

  -- a sync, then reading, and then a repair, which keeps the bodies that are seen
  pub settles : ((disk : D) → g.may_leave disk (g.seen disk)) → (old synced read new : D) → g.seen synced ≡ g.seen old
      → AddsNone (g.may_leave old) (g.may_leave synced)
      → Elapses (g.moment old) (g.moment synced) (g.left_since old) (g.left_since synced) (g.may_leave synced) → ReadsOnly g synced read
      → LeavesOnly g read new (λ image. kept image ≡ kept (g.seen read)) → LeavesOnly g old new (KeepsOneOf (g.may_leave old))
  settles reads_now old synced read new seen none time reads repaired =
      let P : List ℕ → Type 0 = KeepsOneOf (g.may_leave old) in
      let first = weaker g old synced (g.may_leave old) P (leaves_once old synced none time) (λ image left. (image, left, refl)) in
      let second = weaker g synced read (g.may_leave synced) P reads.any_moment (λ image left. (image, none image left, refl)) in
      let third = weaker g read new (λ image. kept image ≡ kept (g.seen read)) P repaired
      (λ image keeps. (g.seen old, reads_now old, keeps ∙ ap kept (reads.seen ∙ seen))) in
      then_run g old synced new P first (then_run g synced read new P second third)
