-- Checked, not believed: how runs of known calls join. Crates above may cite these.
use Rattle.std.proofs.Common.{◌≡◌, inl, inr, ◌≤◌, ℕ, zero, suc, ◌+◌, List, [], ◌∷◌, ◌++◌, Ok, Err, refl, sym, ap, subst, arith}
use Rattle.c8_disk.specs.declared.disk.Disk.{Ghosts}
use Rattle.c8_disk.specs.declared.error.DiskError.{DiskError}
use Rattle.c8_disk.specs.Disk.{DiskCall, Reading, Writing, Syncing}
use Rattle.c8_disk.specs.checked.RunLaws.{leads_then}
use Rattle.c8_disk.specs.Asks.{Answer, Run, Nothing, Write, Sync, Reads, After, Then, Asks}

-- served reads, and more reads after them
reads_join : (some more : ℕ) (first rest : List DiskCall) (answer : Answer) → Reads some first (Ok tt) → Reads more rest answer
    → Reads (some + more) (first ++ rest) answer
reads_join zero more first rest answer none reads =
    let many : more ≡ zero + more = omega arith in
    let calls : rest ≡ first ++ rest = ap (λ (l : List DiskCall). l ++ rest) (sym none.0) in
    subst (λ (n : ℕ). Reads n (first ++ rest) answer) many (subst (λ (l : List DiskCall). Reads more l answer) calls reads)
reads_join (suc some) more [] rest answer served reads = absurd served
reads_join (suc some) more (Reading at count result ∷ first) rest answer (inl (ok, served)) reads =
    let many : suc (some + more) ≡ suc some + more = omega arith in
    subst (λ (n : ℕ). Reads n (Reading at count result ∷ first ++ rest) answer) many (inl (ok, reads_join some more first rest answer served reads))
reads_join (suc some) more (Reading at count result ∷ first) rest answer (inr (why, refused, never, none)) reads = absurd (cc never)
reads_join (suc some) more (Writing at bytes result ∷ first) rest answer served reads = absurd served
reads_join (suc some) more (Syncing result ∷ first) rest answer served reads = absurd served

-- a refused run of reads is a refused run of more reads too
reads_cut : (few most : ℕ) (calls : List DiskCall) (why : DiskError) → few ≤ most → Reads few calls (Err why) → Reads most calls (Err why)
reads_cut zero most calls why le none = absurd (cc none.1)
reads_cut (suc few) zero calls why le reads = absurd (omega (arith, le))
reads_cut (suc few) (suc most) [] why le reads = absurd reads
reads_cut (suc few) (suc most) (Reading at count result ∷ calls) why le (inl (ok, served)) =
    inl (ok, reads_cut few most calls why (omega (arith, le)) served)
reads_cut (suc few) (suc most) (Reading at count result ∷ calls) why le (inr refused) = inr refused
reads_cut (suc few) (suc most) (Writing at bytes result ∷ calls) why le reads = absurd reads
reads_cut (suc few) (suc most) (Syncing result ∷ calls) why le reads = absurd reads

one_read : (at count : ℕ) (answer : Answer) → Reads 1 (Reading at count answer ∷ []) answer
one_read at count (Ok found) = inl (refl, (refl, refl))
one_read at count (Err why) = inr (why, refl, refl, refl)

module _ {D : Type 0} (g : Ghosts D) where
  -- no call, and one call
  pub asks_nothing : (disk : D) → Asks g Nothing (Ok tt) disk disk
  asks_nothing disk = record { calls = []; led = refl; is = (refl, refl) }

  pub asks_write : (old new : D) (at : ℕ) (bytes : List ℕ) (told answer : Answer) → told ≡ answer → g.does old (Writing at bytes told) new
      → Asks g (Write at bytes) answer old new
  asks_write old new at bytes told answer same does =
      record { calls = Writing at bytes told ∷ []; led = (new, does, refl); is = ap (λ (a : Answer). Writing at bytes a ∷ []) same }

  pub asks_sync : (old new : D) (told answer : Answer) → told ≡ answer → g.does old (Syncing told) new → Asks g Sync answer old new
  asks_sync old new told answer same does =
      record { calls = Syncing told ∷ []; led = (new, does, refl); is = ap (λ (a : Answer). Syncing a ∷ []) same }

  -- no read, one read, and more reads
  pub asks_no_read : (disk : D) → Asks g (Reads 0) (Ok tt) disk disk
  asks_no_read disk = record { calls = []; led = refl; is = (refl, refl) }

  pub asks_read : (old new : D) (at count : ℕ) (told answer : Answer) → told ≡ answer → g.does old (Reading at count told) new
      → Asks g (Reads 1) answer old new
  asks_read old new at count told answer same does =
      record {
        calls = Reading at count told ∷ [];
        led = (new, does, refl);
        is = subst (λ (a : Answer). Reads 1 (Reading at count told ∷ []) a) same (one_read at count told);
      }

  pub asks_reads : (old mid new : D) (some more : ℕ) (answer : Answer) → Asks g (Reads some) (Ok tt) old mid
      → Asks g (Reads more) answer mid new → Asks g (Reads (some + more)) answer old new
  asks_reads old mid new some more answer first second = record {
    calls = first.calls ++ second.calls;
    led = leads_then g old mid new first.calls second.calls first.led second.led;
    is = reads_join some more first.calls second.calls answer first.is second.is;
  }

  pub asks_cut : (old new : D) (few most : ℕ) (why : DiskError) → few ≤ most → Asks g (Reads few) (Err why) old new
      → Asks g (Reads most) (Err why) old new
  asks_cut old new few most why le reads = record { calls = reads.calls; led = reads.led; is = reads_cut few most reads.calls why le reads.is }

  -- one run after another, and a refused run in place of both
  pub asks_after : (P Q : Run) (old mid new : D) (answer : Answer) → Asks g P (Ok tt) old mid → Asks g Q answer mid new
      → Asks g (After P Q) answer old new
  asks_after P Q old mid new answer first second = record {
    calls = first.calls ++ second.calls;
    led = leads_then g old mid new first.calls second.calls first.led second.led;
    is = (first.calls, second.calls, refl, first.is, second.is);
  }

  pub asks_then : (P Q : Run) (old mid new : D) (answer : Answer) → Asks g P (Ok tt) old mid → Asks g Q answer mid new
      → Asks g (Then P Q) answer old new
  asks_then P Q old mid new answer first second =
      let both = asks_after P Q old mid new answer first second in record { calls = both.calls; led = both.led; is = inl both.is }

  pub asks_refused : (P Q : Run) (old new : D) (why : DiskError) → Asks g P (Err why) old new → Asks g (Then P Q) (Err why) old new
  asks_refused P Q old new why first = record { calls = first.calls; led = first.led; is = inr (why, refl, first.is) }

  -- an equal answer may take the place of the answer
  pub asks_as : (P : Run) (old new : D) (told answer : Answer) → told ≡ answer → Asks g P told old new → Asks g P answer old new
  asks_as P old new told answer same asks = subst (λ (a : Answer). Asks g P a old new) same asks
