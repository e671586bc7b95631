-- A journal after a refused append.
use Rattle.std.proofs.Common.{◌≡◌, ◌≤◌, ℕ, true, false, List, [], ◌∷◌, length, take, Some, sym, ◌∙◌, ap, subst, ⊎_elim}
use Rattle.std.proofs.Math.Seq.{take-length, take-append_seam}
use Rattle.std.proofs.lemmas.Bool.{true≢false}
use Rattle.c8_disk.specs.Runs.{LeavesOnly}
use Rattle.c8_disk.specs.checked.RunLaws.{at_the_end}
use Rattle.c8_disk.specs.declared.disk.Disk.{Ghosts}
use Rattle.c8_log.specs.Slots.{kept}
use Rattle.c8_log.specs.Log.{LogValue, KeepsWithOrWithout}
use Rattle.c8_log.specs.Journal.{JournalValue, KeepsBodies, journal_over, IsJournal}

-- the kept bodies begin with those from before the append
first_of : (bodies : List (List ℕ)) (body image : List ℕ) → KeepsWithOrWithout bodies body image → take (length bodies) (kept image) ≡ bodies
first_of bodies body image = ⊎_elim
    (λ without. ap (take (length bodies)) without ∙ take-length bodies)
    (λ with_it. ap (take (length bodies)) with_it ∙ take-append_seam bodies (body ∷ []))

module _ {D : Type 0} (g : Ghosts D) (reads_now : (disk : D) → g.may_leave disk (g.seen disk))
    (counts_now : (disk : D) (t : ℕ) (image : List ℕ) → t ≤ g.moment disk → g.may_leave disk image → g.left_since disk t image)
    (journal : JournalValue D) (old new : LogValue D) (before after : List (List ℕ)) (body : List ℕ)
    (is : IsJournal g (journal_over g old before) old.count) (view_is : journal_over g old before ≡ journal) (up : journal.is_down ≡ false)
    (new_is : new ≡ record old { disk = new.disk; down = true }) (after_is : after ≡ body ∷ [])
    (run : old.down ≡ false → LeavesOnly g old.disk new.disk (KeepsWithOrWithout (kept (g.seen old.disk)) body)) where
  old_up : old.down ≡ false
  old_up = ap (λ v. v.is_down) view_is ∙ up

  -- one that is up keeps all that a read gives
  all_kept : kept (g.seen old.disk) ≡ journal.bodies
  all_kept =
      subst (λ pending. KeepsBodies (journal_over g old before).bodies pending (g.seen old.disk)) (is.up old_up)
      (is.keeps (g.seen old.disk) (reads_now old.disk))
      ∙ ap (λ v. v.bodies) view_is

  here : LeavesOnly g old.disk new.disk (KeepsWithOrWithout journal.bodies body)
  here = subst (λ bodies. LeavesOnly g old.disk new.disk (KeepsWithOrWithout bodies body)) all_kept (run old_up)

  pub leaves : LeavesOnly g journal.disk new.disk (KeepsBodies journal.bodies (Some body))
  leaves = subst (λ disk. LeavesOnly g disk new.disk (KeepsWithOrWithout journal.bodies body)) (ap (λ v. v.disk) view_is) here

  ends : (image : List ℕ) → g.may_leave new.disk image → KeepsWithOrWithout journal.bodies body image
  ends = at_the_end g counts_now old.disk new.disk (KeepsWithOrWithout journal.bodies body) here

  count_is : new.count ≡ length journal.bodies
  count_is = ap (λ log. log.count) new_is ∙ is.count_is ∙ ap (λ v. length v.bodies) view_is

  same : take new.count (kept (g.seen new.disk)) ≡ journal.bodies
  same = ap (λ n. take n (kept (g.seen new.disk))) count_is
      ∙ first_of journal.bodies body (g.seen new.disk) (ends (g.seen new.disk) (reads_now new.disk))

  pub value_is : journal_over g new after ≡ record journal { disk = new.disk; pending = Some body; is_down = true }
  value_is = ap (journal_over g new) after_is ∙ (λ i. record { disk = new.disk; bodies = same i; pending = Some body; is_down = (new_is i).down })

  pub is_journal : IsJournal g (journal_over g new after) new.count
  is_journal = subst (λ value. IsJournal g value new.count) (sym value_is) (record {
    count_is = count_is;
    keeps = ends;
    up = λ up. absurd (true≢false up);
  })
