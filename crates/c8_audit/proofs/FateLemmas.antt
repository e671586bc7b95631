-- What becomes of the pending record that a reading found.
use Rattle.std.proofs.Common.{◌≡◌, ◌≢◌, ℕ, ◌+◌, ◌⊎◌, inl, inr, ⊎_elim, List, [], ◌∷◌, ◌++◌, length, Bool, true, false, Option, Some, None}
use Rattle.std.proofs.Common.{refl, sym, subst, ◌∙◌, arith, length-append}
use Rattle.std.specs.Prelude.{option_to_list}
use Rattle.std.specs.List.{slice_get}
use Rattle.std.proofs.lemmas.List.{append-nil}
use Rattle.c8_game.specs.Rules.{Rules}
use Rattle.c8_known.specs.Journal.{Record, player_of}
use Rattle.c8_known.specs.Known.{known_of}
use Rattle.c8_known.specs.Growth.{Begins}
use Rattle.c8_known.specs.checked.BeginsLaws.{begins_same, begins_more, begins_append, begins_get, begins_length, begins_longer}
use Rattle.c8_record.specs.Allowed.{IsOpening}
use Rattle.c8_peer.specs.State as states
use Rattle.c8_peer.specs.State.{Mode, Down, Away, State, Call, Outcome}
use Rattle.c8_peer.specs.Steps.{DiskOutcome, Works, Refuses, outcome, done, at_mode, step}
use Rattle.c8_peer.specs.Told.{told_of}
use Rattle.c8_peer.specs.Opening.{Opening, NoPlayer, Stands, NotWritten, NoMemory, NotRead, Unfit, Spent, found, away, opened, opening_record}
use Rattle.c8_audit.proofs.StepLemmas.{HoldsForSteps}

-- ---- journals grow, and an open peer has no pending record

abbrev pub IsSettled : State → Type 0
IsSettled s = s.mode ≡ states.Open → s.pending ≡ None

pub record Grows (s t : State) : Type 0 where
  pub grown : Begins s.journal t.journal
  pub settled : IsSettled s → IsSettled t

pub found_grows : (s : State) (finds : Bool) → Begins s.journal (found s finds)
found_grows s true = begins_append s.journal (option_to_list s.pending)
found_grows s false = begins_same s.journal

done_grows : (s : State) (call : Call) (o : Outcome) (keeps : Option Record) (on_disk : DiskOutcome) → Grows s (done s call o keeps on_disk).state
done_grows s call o None on_disk = record { grown = begins_same s.journal; settled = λ was. was }
done_grows s call o (Some r) Works = record { grown = begins_append s.journal (r ∷ []); settled = λ was. was }
done_grows s call o (Some r) (Refuses why) = record { grown = begins_same s.journal; settled = λ was up. absurd cc }

mode_grows : (s : State) (call : Call) (o : Outcome) (mode : Mode) (on_disk : DiskOutcome) → Grows s (at_mode s call o mode on_disk).state
mode_grows s call o states.Open on_disk = done_grows s call o o.keeps on_disk
mode_grows s call o Down on_disk = record { grown = begins_same s.journal; settled = λ was. was }
mode_grows s call o Away on_disk = record { grown = begins_same s.journal; settled = λ was. was }

step_grows : (rules : Rules) (me : ℕ) (s : State) (call : Call) (on_disk : DiskOutcome) → Grows s (step rules me s call on_disk).state
step_grows rules me s call on_disk = mode_grows s call
    (outcome rules (told_of rules me s.journal) (known_of rules me s.journal) s.memory call) s.mode on_disk

away_grows : (s : State) (journal : List Record) (pending : Option Record) → Begins s.journal journal → Grows s (away s journal pending)
away_grows s journal pending begins = record { grown = begins; settled = λ was up. absurd cc }

opened_grows : (rules : Rules) (room me : ℕ) (s : State) (journal : List Record) (o : Opening) → Begins s.journal journal
    → Grows s (opened rules room me s journal o).state
opened_grows rules room me s journal Stands begins =
    record { grown = begins_longer s.journal journal (opening_record rules room me journal ∷ []) begins; settled = λ was up. refl }
opened_grows rules room me s journal (NotWritten why) begins = away_grows s journal (Some (opening_record rules room me journal)) begins
opened_grows rules room me s journal NoPlayer begins = away_grows s s.journal s.pending (begins_same s.journal)
opened_grows rules room me s journal NoMemory begins = away_grows s s.journal s.pending (begins_same s.journal)
opened_grows rules room me s journal (NotRead why) begins = away_grows s s.journal s.pending (begins_same s.journal)
opened_grows rules room me s journal (Unfit error) begins = away_grows s journal None begins
opened_grows rules room me s journal Spent begins = away_grows s journal None begins

pub all_grow : (rules : Rules) (room p : ℕ) → HoldsForSteps rules room p Grows
all_grow rules room p = record {
  same = λ s. record { grown = begins_same s.journal; settled = λ was. was };
  more = λ s u t one two. record {
    grown = begins_more s.journal u.journal t.journal one.grown two.grown;
    settled = λ was. two.settled (one.settled was);
  };
  called = λ s call on_disk up. step_grows rules p s call on_disk;
  opens = λ s finds o down. opened_grows rules room p s (found s finds) o (found_grows s finds);
  crashes = λ s finds. away_grows s (found s finds) None (found_grows s finds);
}

-- ---- a pending record

-- the record of an opening
pub record IsOpeningOf (me : ℕ) (r : Record) : Type 0 where
  pub opening : IsOpening r
  pub own : player_of r ≡ me

abbrev pub IsPendingOpening : ℕ → Option Record → Type 0
IsPendingOpening me None = Unit {0}
IsPendingOpening me (Some r) = IsOpeningOf me r

-- record x was pending after these records, and still is
pub record Waits (before : List Record) (x : Record) (s : State) : Type 0 where
  pub journal : s.journal ≡ before
  pub pending : s.pending ≡ Some x
  pub mode : s.mode ≢ states.Open

-- record x is still pending, or is in the journal
abbrev pub Keeps : List Record → Record → State → Type 0
Keeps before x s = Waits before x s ⊎ Begins (before ++ x ∷ []) s.journal

-- record x was lost, and at most the record of an opening came next
pub record IsWithout (me : ℕ) (before : List Record) (s : State) : Type 0 where
  pub journal : s.journal ≡ before
  pub pending : IsPendingOpening me s.pending
  pub mode : s.mode ≢ states.Open

pub record HasOpening (me : ℕ) (before journal : List Record) : Type 0 where
  pub record_is : Record
  pub opening : IsOpeningOf me record_is
  pub begins : Begins (before ++ record_is ∷ []) journal

abbrev pub Lacks : ℕ → List Record → State → Type 0
Lacks me before s = IsWithout me before s ⊎ HasOpening me before s.journal

pub opening_is : (rules : Rules) (room me : ℕ) (journal : List Record) → IsOpeningOf me (opening_record rules room me journal)
opening_is rules room me [] = record { opening = tt; own = refl }
opening_is rules room me (r ∷ rest) = record { opening = tt; own = refl }

-- what a read of the disk finds
keeps_read : (before : List Record) (x : Record) (s : State) (finds : Bool) → Keeps before x s
    → Begins (before ++ x ∷ []) (found s finds) ⊎ (found s finds ≡ before)
keeps_read before x s finds (inr begins) = inl (begins_more (before ++ x ∷ []) s.journal (found s finds) begins (found_grows s finds))
keeps_read before x s true (inl waits) =
    inl (subst (λ (o : Option Record). Begins (before ++ x ∷ []) (s.journal ++ option_to_list o)) (sym waits.pending)
    (subst (λ (j : List Record). Begins (before ++ x ∷ []) (j ++ x ∷ [])) (sym waits.journal) (begins_same (before ++ x ∷ []))))
keeps_read before x s false (inl waits) = inr waits.journal

pending_read : (me : ℕ) (before journal : List Record) (pending : Option Record) → journal ≡ before → IsPendingOpening me pending
    → HasOpening me before (journal ++ option_to_list pending) ⊎ (journal ++ option_to_list pending ≡ before)
pending_read me before journal None same opening = inr (append-nil journal ∙ same)
pending_read me before journal (Some r) same opening =
    inl (record {
      record_is = r;
      opening = opening;
      begins = subst (λ (j : List Record). Begins (before ++ r ∷ []) (j ++ r ∷ [])) (sym same) (begins_same (before ++ r ∷ []));
    })

pub lacks_read : (me : ℕ) (before : List Record) (s : State) (finds : Bool) → Lacks me before s
    → HasOpening me before (found s finds) ⊎ (found s finds ≡ before)
lacks_read me before s finds (inr has) = inl
    (record {
      record_is = has.record_is;
      opening = has.opening;
      begins = begins_more (before ++ has.record_is ∷ []) s.journal (found s finds) has.begins (found_grows s finds);
    })
lacks_read me before s true (inl without) = pending_read me before s.journal s.pending without.journal without.pending
lacks_read me before s false (inl without) = inr without.journal

away_open : (s : State) (journal : List Record) (pending : Option Record) → (away s journal pending).mode ≢ states.Open
away_open s journal pending e = cc

-- a crash after a read
crash_keeps : (me : ℕ) (before : List Record) (x : Record) (s : State) (journal : List Record)
    → Begins (before ++ x ∷ []) journal ⊎ (journal ≡ before)
    → Keeps before x (away s journal None) ⊎ Lacks me before (away s journal None)
crash_keeps me before x s journal (inl begins) = inl (inr begins)
crash_keeps me before x s journal (inr same) = inr (inl (record { journal = same; pending = tt; mode = away_open s journal None }))

crash_lacks : (me : ℕ) (before : List Record) (s : State) (journal : List Record) → HasOpening me before journal ⊎ (journal ≡ before)
    → Lacks me before (away s journal None)
crash_lacks me before s journal (inl has) = inr has
crash_lacks me before s journal (inr same) = inl (record { journal = same; pending = tt; mode = away_open s journal None })

-- an opening that read nothing
unread_keeps : (before : List Record) (x : Record) (s : State) → Keeps before x s → Keeps before x (away s s.journal s.pending)
unread_keeps before x s (inl waits) = inl (record { journal = waits.journal; pending = waits.pending; mode = away_open s s.journal s.pending })
unread_keeps before x s (inr begins) = inr begins

unread_lacks : (me : ℕ) (before : List Record) (s : State) → Lacks me before s → Lacks me before (away s s.journal s.pending)
unread_lacks me before s (inl without) = inl (record { journal = without.journal; pending = without.pending; mode = away_open s s.journal s.pending })
unread_lacks me before s (inr has) = inr has

-- an opening's record after the same records is the one that came next
next_opening : (rules : Rules) (room me : ℕ) (before journal : List Record) → journal ≡ before
    → HasOpening me before (journal ++ opening_record rules room me journal ∷ [])
next_opening rules room me before journal same = record {
  record_is = opening_record rules room me journal;
  opening = opening_is rules room me journal;
  begins = subst (λ (j : List Record). Begins (before ++ opening_record rules room me journal ∷ [])
      (j ++ opening_record rules room me journal ∷ [])) (sym same) (begins_same (before ++ opening_record rules room me journal ∷ []));
}

stands_keeps : (rules : Rules) (room me : ℕ) (before : List Record) (x : Record) (s : State) (journal : List Record)
    → Begins (before ++ x ∷ []) journal ⊎ (journal ≡ before)
    → Keeps before x (opened rules room me s journal Stands).state ⊎ Lacks me before (opened rules room me s journal Stands).state
stands_keeps rules room me before x s journal (inl begins) =
    inl (inr (begins_longer (before ++ x ∷ []) journal (opening_record rules room me journal ∷ []) begins))
stands_keeps rules room me before x s journal (inr same) = inr (inr (next_opening rules room me before journal same))

stands_lacks : (rules : Rules) (room me : ℕ) (before : List Record) (s : State) (journal : List Record)
    → HasOpening me before journal ⊎ (journal ≡ before) → Lacks me before (opened rules room me s journal Stands).state
stands_lacks rules room me before s journal (inl has) =
    inr (record {
      record_is = has.record_is;
      opening = has.opening;
      begins = begins_longer (before ++ has.record_is ∷ []) journal (opening_record rules room me journal ∷ []) has.begins;
    })
stands_lacks rules room me before s journal (inr same) = inr (next_opening rules room me before journal same)

unwritten_keeps : (rules : Rules) (room me : ℕ) (before : List Record) (x : Record) (s : State) (journal : List Record)
    → Begins (before ++ x ∷ []) journal ⊎ (journal ≡ before)
    → Keeps before x (away s journal (Some (opening_record rules room me journal)))
    ⊎ Lacks me before (away s journal (Some (opening_record rules room me journal)))
unwritten_keeps rules room me before x s journal (inl begins) = inl (inr begins)
unwritten_keeps rules room me before x s journal (inr same) =
    inr (inl (record {
      journal = same;
      pending = opening_is rules room me journal;
      mode = away_open s journal (Some (opening_record rules room me journal));
    }))

unwritten_lacks : (rules : Rules) (room me : ℕ) (before : List Record) (s : State) (journal : List Record)
    → HasOpening me before journal ⊎ (journal ≡ before)
    → Lacks me before (away s journal (Some (opening_record rules room me journal)))
unwritten_lacks rules room me before s journal (inl has) = inr has
unwritten_lacks rules room me before s journal (inr same) =
    inl (record {
      journal = same;
      pending = opening_is rules room me journal;
      mode = away_open s journal (Some (opening_record rules room me journal));
    })

opened_keeps : (rules : Rules) (room me : ℕ) (before : List Record) (x : Record) (s : State) (finds : Bool) (o : Opening) → Keeps before x s
    → Keeps before x (opened rules room me s (found s finds) o).state ⊎ Lacks me before (opened rules room me s (found s finds) o).state
opened_keeps rules room me before x s finds Stands keeps = stands_keeps rules room me before x s (found s finds) (keeps_read before x s finds keeps)
opened_keeps rules room me before x s finds (NotWritten why) keeps =
    unwritten_keeps rules room me before x s (found s finds) (keeps_read before x s finds keeps)
opened_keeps rules room me before x s finds NoPlayer keeps = inl (unread_keeps before x s keeps)
opened_keeps rules room me before x s finds NoMemory keeps = inl (unread_keeps before x s keeps)
opened_keeps rules room me before x s finds (NotRead why) keeps = inl (unread_keeps before x s keeps)
opened_keeps rules room me before x s finds (Unfit error) keeps = crash_keeps me before x s (found s finds) (keeps_read before x s finds keeps)
opened_keeps rules room me before x s finds Spent keeps = crash_keeps me before x s (found s finds) (keeps_read before x s finds keeps)

opened_lacks : (rules : Rules) (room me : ℕ) (before : List Record) (s : State) (finds : Bool) (o : Opening) → Lacks me before s
    → Lacks me before (opened rules room me s (found s finds) o).state
opened_lacks rules room me before s finds Stands lacks = stands_lacks rules room me before s (found s finds) (lacks_read me before s finds lacks)
opened_lacks rules room me before s finds (NotWritten why) lacks =
    unwritten_lacks rules room me before s (found s finds) (lacks_read me before s finds lacks)
opened_lacks rules room me before s finds NoPlayer lacks = unread_lacks me before s lacks
opened_lacks rules room me before s finds NoMemory lacks = unread_lacks me before s lacks
opened_lacks rules room me before s finds (NotRead why) lacks = unread_lacks me before s lacks
opened_lacks rules room me before s finds (Unfit error) lacks = crash_lacks me before s (found s finds) (lacks_read me before s finds lacks)
opened_lacks rules room me before s finds Spent lacks = crash_lacks me before s (found s finds) (lacks_read me before s finds lacks)

-- What becomes of record x: each step keeps or loses it, and a lost record stays lost.
pub record Fares (me : ℕ) (before : List Record) (x : Record) (s t : State) : Type 0 where
  pub kept : Keeps before x s → Keeps before x t ⊎ Lacks me before t
  pub lost : Lacks me before s → Lacks me before t

step_keeps : (rules : Rules) (me : ℕ) (before : List Record) (x : Record) (s : State) (call : Call) (on_disk : DiskOutcome)
    → s.mode ≡ states.Open → Keeps before x s
    → Keeps before x (step rules me s call on_disk).state
step_keeps rules me before x s call on_disk up (inl waits) = absurd (waits.mode up)
step_keeps rules me before x s call on_disk up (inr begins) =
    inr (begins_more (before ++ x ∷ []) s.journal (step rules me s call on_disk).state.journal begins (step_grows rules me s call on_disk).grown)

step_lacks : (rules : Rules) (me : ℕ) (before : List Record) (s : State) (call : Call) (on_disk : DiskOutcome) → s.mode ≡ states.Open
    → Lacks me before s → Lacks me before (step rules me s call on_disk).state
step_lacks rules me before s call on_disk up (inl without) = absurd (without.mode up)
step_lacks rules me before s call on_disk up (inr has) =
    inr (record {
      record_is = has.record_is;
      opening = has.opening;
      begins = begins_more (before ++ has.record_is ∷ []) s.journal (step rules me s call on_disk).state.journal has.begins
          (step_grows rules me s call on_disk).grown;
    })

pub all_fare : (rules : Rules) (room p : ℕ) (before : List Record) (x : Record) → HoldsForSteps rules room p (Fares p before x)
all_fare rules room p before x = record {
  same = λ s. record { kept = λ keeps. inl keeps; lost = λ lacks. lacks };
  more = λ s u t one two. record {
    kept = λ keeps. ⊎_elim (λ still. two.kept still) (λ lacks. inr (two.lost lacks)) (one.kept keeps);
    lost = λ lacks. two.lost (one.lost lacks);
  };
  called = λ s call on_disk up. record {
    kept = λ keeps. inl (step_keeps rules p before x s call on_disk up keeps);
    lost = λ lacks. step_lacks rules p before s call on_disk up lacks;
  };
  opens = λ s finds o down. record {
    kept = λ keeps. opened_keeps rules room p before x s finds o keeps;
    lost = λ lacks. opened_lacks rules room p before s finds o lacks;
  };
  crashes = λ s finds. record {
    kept = λ keeps. crash_keeps p before x s (found s finds) (keeps_read before x s finds keeps);
    lost = λ lacks. crash_lacks p before s (found s finds) (lacks_read p before s finds lacks);
  };
}

-- ---- a list that begins with both

get_last : {X : Type 0} (xs : List X) (x : X) → slice_get (xs ++ x ∷ []) (length xs) ≡ Some x
get_last [] x = refl
get_last (y ∷ xs) x = get_last xs x

-- two records after the same records are equal
pub same_next : (before all : List Record) (x y : Record) → Begins (before ++ x ∷ []) all → Begins (before ++ y ∷ []) all → x ≡ y
same_next before all x y one other =
    let at_x = begins_get (before ++ x ∷ []) all (length before) x one (get_last before x) in
    let at_y = begins_get (before ++ y ∷ []) all (length before) y other (get_last before y) in
    let same : Some x ≡ Some y = sym at_x ∙ at_y in
    cc

-- a list with one more record does not begin the shorter list
pub never_shorter : (before : List Record) (x : Record) → Begins (before ++ x ∷ []) before → ⊥
never_shorter before x begins =
    let long = begins_length (before ++ x ∷ []) before begins in
    let many : length (before ++ x ∷ []) ≡ length before + length (x ∷ []) = length-append before (x ∷ []) in
    omega (arith, long, many)
