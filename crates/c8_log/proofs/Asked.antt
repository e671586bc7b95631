-- Which calls an append makes, by the room that there is.
use Rattle.std.proofs.Common.{◌≡◌, inl, inr, ◌<◌, ◌≤◌, ℕ, ◌+◌, ◌*◌, List, [], length, Err, false, refl, ap, subst, ◌∙◌}
use Rattle.c8_disk.specs.declared.disk.Disk.{Ghosts}
use Rattle.c8_disk.specs.declared.error.DiskError.{DiskError}
use Rattle.c8_disk.specs.declared.error.DiskError.TheVariants as errors
use Rattle.c8_disk.specs.Asks.{Answer, Asks}
use Rattle.c8_log.specs.Log.{LogValue, log_error}
use Rattle.c8_log.specs.Journal.{JournalValue, journal_over, IsJournal}
use Rattle.c8_log.specs.Asked.{Append, AppendWithin, told_by}

-- the log tells the disk's error
pub told_error : (T : Type 0) (why : DiskError) → Err why ≡ told_by {T = T} (Err (log_error why))
told_error T errors.Failed = refl
told_error T errors.Full = refl

module _ {D : Type 0} (g : Ghosts D) (capacity n : ℕ) (body : List ℕ) where
  pub within : (old new : D) (answer : Answer) → 144 * (n + 1) + 1 ≤ capacity → Asks g (Append n body) answer old new
      → Asks g (AppendWithin capacity n body) answer old new
  within old new answer fits asks = record { calls = asks.calls; led = asks.led; is = inl (fits, asks.is) }

  pub without : (disk : D) → capacity < 144 * (n + 1) + 1 → Asks g (AppendWithin capacity n body) (Err errors.Full) disk disk
  without disk full = record { calls = []; led = refl; is = inr (full, refl, refl) }

  -- what a journal asks, by what its log does
  pub of_journal : (journal : JournalValue D) (log : LogValue D) (refused : List (List ℕ)) (new : D) (answer : Answer)
      → IsJournal g (journal_over g log refused) log.count → journal_over g log refused ≡ journal
      → journal.is_down ≡ false → capacity ≡ g.capacity journal.disk → n ≡ length journal.bodies
      → (log.down ≡ false → Asks g (AppendWithin (g.capacity log.disk) log.count body) answer log.disk new)
      → Asks g (AppendWithin capacity n body) answer journal.disk new
  of_journal journal log refused new answer is view_is up capacity_is n_is asks =
      rw (capacity_is, n_is)
      (subst (λ v. Asks g (AppendWithin (g.capacity v.disk) (length v.bodies) body) answer v.disk new) view_is
      (subst (λ (m : ℕ). Asks g (AppendWithin (g.capacity log.disk) m body) answer log.disk new) is.count_is
      (asks (ap (λ v. v.is_down) view_is ∙ up))))
