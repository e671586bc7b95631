-- Checked, not believed: how runs of a disk's calls join. Crates above may cite these, or call the laws in
-- `src/laws.rt`.
use Rattle.std.proofs.Common.{inl, inr, ⊎_elim, ◌≤◌, ℕ, List, [], ◌∷◌, ◌++◌, subst, ◌∙◌, arith}
use Rattle.c8_disk.specs.Disk.{DiskCall, Elapses}
use Rattle.c8_disk.specs.Runs.{LeavesOnly, Leads, IsSameDisk, ReadsOnly}
use Rattle.c8_disk.specs.declared.disk.Disk.{Ghosts}

module _ {D : Type 0} (g : Ghosts D) where
  -- nothing is done, and each image that a crash now leaves has P
  pub nothing_done : (disk : D) (P : List ℕ → Type 0) → ((image : List ℕ) → g.left_since disk (g.moment disk) image → P image)
      → LeavesOnly g disk disk P
  nothing_done disk P here = record { later = omega arith; each = here; before = λ t image le left. inl left }

  -- one more call, after which a crash leaves an image with P
  pub one_call_more : (old mid new : D) (P : List ℕ → Type 0) → LeavesOnly g old mid P
      → Elapses (g.moment mid) (g.moment new) (g.left_since mid) (g.left_since new) (g.may_leave new)
      → ((image : List ℕ) → g.may_leave new image → P image) → LeavesOnly g old new P
  one_call_more old mid new P so_far time here = record {
    later = omega (arith, so_far.later, time.later);
    each = λ image left. ⊎_elim (so_far.each image) (here image) (time.nothing_else (g.moment old) image so_far.later left);
    before = λ t image le left. ⊎_elim (so_far.before t image le) (λ now. inr (here image now))
        (time.nothing_else t image (omega (arith, le, so_far.later)) left);
  }

  -- a property P that implies Q
  pub weaker : (old new : D) (P Q : List ℕ → Type 0) → LeavesOnly g old new P → ((image : List ℕ) → P image → Q image) → LeavesOnly g old new Q
  weaker old new P Q run so = record {
    later = run.later;
    each = λ image left. so image (run.each image left);
    before = λ t image le left. ⊎_elim (λ past. inl past) (λ p. inr (so image p)) (run.before t image le left);
  }

  -- one run after another
  pub then_run : (old mid new : D) (P : List ℕ → Type 0) → LeavesOnly g old mid P → LeavesOnly g mid new P → LeavesOnly g old new P
  then_run old mid new P first second = record {
    later = omega (arith, first.later, second.later);
    each = λ image left. ⊎_elim (first.each image) (λ p. p) (second.before (g.moment old) image first.later left);
    before = λ t image le left. ⊎_elim (first.before t image le) (λ p. inr p) (second.before t image (omega (arith, le, first.later)) left);
  }

  -- what holds for all images since an earlier moment also holds through a run
  pub since_earlier : (old new : D) (P : List ℕ → Type 0) (t : ℕ) → t ≤ g.moment old
      → ((image : List ℕ) → g.left_since old t image → P image) → LeavesOnly g old new P
      → (image : List ℕ) → g.left_since new t image → P image
  since_earlier old new P t le so_far run image left = ⊎_elim (so_far image) (λ p. p) (run.before t image le left)

  -- and for what a crash leaves at its end, since the present moment is among those since an earlier one
  pub at_the_end : ((disk : D) (t : ℕ) (image : List ℕ) → t ≤ g.moment disk → g.may_leave disk image → g.left_since disk t image)
      → (old new : D) (P : List ℕ → Type 0) → LeavesOnly g old new P → (image : List ℕ) → g.may_leave new image → P image
  at_the_end counts_now old new P run image left = run.each image (counts_now new (g.moment old) image run.later left)

  -- some calls, and then more
  pub leads_then : (a b c : D) (first second : List DiskCall) → Leads g first a b → Leads g second b c → Leads g (first ++ second) a c
  leads_then a b c [] second led on = subst (λ (d : D). Leads g second d c) led on
  leads_then a b c (call ∷ first) second (mid, does, led) on = (mid, does, leads_then mid b c first second led on)

  pub same_then : (a b c : D) → IsSameDisk g a b → IsSameDisk g b c → IsSameDisk g a c
  same_then a b c first second = record {
    capacity = second.capacity ∙ first.capacity;
    arms = second.arms ∙ first.arms;
    no_fewer = omega (arith, first.no_fewer, second.no_fewer);
  }

  -- two runs that only read
  pub reads_then : (a b c : D) → ReadsOnly g a b → ReadsOnly g b c → ReadsOnly g a c
  reads_then a b c first second = record {
    seen = second.seen ∙ first.seen;
    crash = λ image left. first.crash image (second.crash image left);
    any_moment = then_run a b c (g.may_leave a) first.any_moment (weaker b c (g.may_leave b) (g.may_leave a) second.any_moment first.crash);
    changes = second.changes ∙ first.changes;
    same = same_then a b c first.same second.same;
  }

  -- a run, and then one that only reads
  pub then_reads : ((disk : D) (t : ℕ) (image : List ℕ) → t ≤ g.moment disk → g.may_leave disk image → g.left_since disk t image)
      → (a b c : D) (P : List ℕ → Type 0) → LeavesOnly g a b P → ReadsOnly g b c → LeavesOnly g a c P
  then_reads counts_now a b c P run reads = then_run a b c P run (weaker b c (g.may_leave b) P reads.any_moment (at_the_end counts_now a b P run))
