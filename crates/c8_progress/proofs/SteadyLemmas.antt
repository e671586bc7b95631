-- In a calm run answers and counts of a drop round stay, and a stayer that has answered holds no more until the cut; for PassingLemmas.
use Rattle.std.proofs.Common.{◌≡◌, ◌≢◌, ℕ, suc, ◌-◌, ◌≤◌, ◌⊎◌, inl, inr, ⊎_elim, List, [], Option, Some, None, refl, sym, ap, subst, ◌∙◌, arith}
use Rattle.std.proofs.Common.{slice_set, slice_index_or}
use Rattle.std.specs.Prelude.{max}
use Rattle.c8_game.specs.Rules.{Rules}
use Rattle.c8_known.specs.Journal.{Record, count, cut_of}
use Rattle.c8_known.specs.Known.{KnownValue, known_of}
use Rattle.c8_round.specs.Round.{raised, ChairValue, report_of, with_report, StayerValue, have_of, with_have}
use Rattle.c8_peer.specs.Told.{Told, told_of}
use Rattle.c8_peer.specs.State as states
use Rattle.c8_peer.specs.State.{Memory, State, Call, Outcome}
use Rattle.c8_peer.specs.Steps.{outcome, Works, Stepped, done}
use Rattle.c8_world.specs.World.{World, peer_of, journal_of}
use Rattle.c8_world.specs.Agreement.{IsPlayer}
use Rattle.c8_progress.specs.Rounds.{Run}
use Rattle.c8_progress.proofs.ReportLemmas.{SameRound, HearsFreeze, HearsFrozen, call_rounds}
use Rattle.c8_progress.proofs.RememberedLemmas.{set_is, reached_remembers, report_true}
use Rattle.c8_progress.proofs.GoingLemmas.{cut_begins}
use Rattle.c8_progress.proofs.EventLemmas.{IsCalled, done_at}
use Rattle.c8_progress.proofs.OneLemmas.{event_one}
use Rattle.c8_progress.proofs.CalmLemmas.{Goes, Stays, later_on, reached_at, well_at, first_stays, open_at, awake_at, called_at, journal_later}

-- ---- what is remembered of a drop round

-- player 1 said that it holds at least so many inputs of L
abbrev pub HasHave : StayerValue → ℕ → ℕ → Type 0
HasHave v L h = (n : ℕ) × (have_of v L ≡ Some n) × (h ≤ n)

-- q answered that it holds at least so many inputs of L
abbrev pub HasReport : ChairValue → ℕ → ℕ → ℕ → Type 0
HasReport c L q h = (n : ℕ) × (report_of c L q ≡ Some n) × (h ≤ n)

raised_more : (o : Option ℕ) (more n h : ℕ) → o ≡ Some n → h ≤ n → (m : ℕ) × (raised o more ≡ Some m) × (h ≤ m)
raised_more None more n h e low = absurd cc
raised_more (Some b) more n h e low = let same : b ≡ n = cc in (max b more, refl, omega (arith, same, low))

pub raised_least : (o : Option ℕ) (n : ℕ) → (m : ℕ) × (raised o n ≡ Some m) × (n ≤ m)
raised_least None n = (n, refl, omega arith)
raised_least (Some b) n = (max b n, refl, omega arith)

have_with : (v : StayerValue) (M more L h : ℕ) → HasHave v L h → HasHave (with_have v M more) L h
have_with v M more L h is =
    elim (set_is v.haves (M - 1) (L - 1) (raised (have_of v M) more) None) [
      | inl old ↦ (is.0, old ∙ is.1, is.2)
      | inr here ↦
          let at : have_of v M ≡ Some is.0 = ap (λ (i : ℕ). slice_index_or v.haves i None) (sym here.0) ∙ is.1 in
          let top = raised_more (have_of v M) more is.0 h at is.2 in
          (top.0, here.1 ∙ top.1, top.2)
    ]

report_with : (c : ChairValue) (M r more L q h : ℕ) → HasReport c L q h → HasReport (with_report c M r more) L q h
report_with c M r more L q h is =
    let row : List (Option ℕ) = slice_index_or c.reports (M - 1) [] in
    let new : Option ℕ = raised (report_of c M r) more in
    let set_row : List (Option ℕ) = slice_set row (r - 1) new in
    elim (set_is c.reports (M - 1) (L - 1) set_row []) [
      | inl old ↦ (is.0, ap (λ (x : List (Option ℕ)). slice_index_or x (q - 1) None) old ∙ is.1, is.2)
      | inr here ↦
          let rows : slice_index_or c.reports (L - 1) [] ≡ row = ap (λ (i : ℕ). slice_index_or c.reports i []) here.0 in
          let was : slice_index_or row (q - 1) None ≡ Some is.0 = ap (λ (x : List (Option ℕ)). slice_index_or x (q - 1) None) (sym rows) ∙ is.1 in
          let first : report_of (with_report c M r more) L q ≡ slice_index_or set_row (q - 1) None =
          ap (λ (x : List (Option ℕ)). slice_index_or x (q - 1) None) here.1 in
          elim (set_is row (r - 1) (q - 1) new None) [
            | inl kept ↦ (is.0, first ∙ kept ∙ was, is.2)
            | inr there ↦
                let at : report_of c M r ≡ Some is.0 = ap (λ (i : ℕ). slice_index_or row i None) (sym there.0) ∙ was in
                let top = raised_more (report_of c M r) more is.0 h at is.2 in
                (top.0, first ∙ there.1 ∙ top.1, top.2)
          ]
    ]

-- what a call does to it
abbrev RoundMoves : Memory → Memory → Type 0
RoundMoves m n = SameRound m n ⊎ ((call : Call) × (HearsFreeze m call n ⊎ HearsFrozen m call n))

done_rounds : (rules : Rules) (t : Told) (k : KnownValue) (s : State) (call : Call) (kept : Option Record)
    → RoundMoves s.memory (done s call (outcome rules t k s.memory call) kept Works).state.memory
done_rounds rules t k s call None = ⊎_elim (λ same. inl same) (λ h. inr (call, h)) (call_rounds rules t k s.memory call)
done_rounds rules t k s call (Some r) = ⊎_elim (λ same. inl same) (λ h. inr (call, h)) (call_rounds rules t k s.memory call)

called_rounds : (rules : Rules) (w : World) (p : ℕ) (t : State) → (peer_of w p).mode ≡ states.Open → IsCalled rules w p t
    → RoundMoves (peer_of w p).memory t.memory
called_rounds rules w p t up is =
    let s : State = peer_of w p in
    ⊎_elim
    (λ same. subst (λ (x : State). RoundMoves s.memory x.memory) (sym same) (inl (refl, refl)))
    (λ c.
    let o : Outcome = outcome rules (told_of rules p s.journal) (known_of rules p s.journal) s.memory c.0 in
    subst (λ (x : State). RoundMoves s.memory x.memory) (sym (c.2 ∙ ap (λ (x : Stepped). x.state) (done_at rules p s c.0 Works up)))
    (done_rounds rules (told_of rules p s.journal) (known_of rules p s.journal) s c.0 o.keeps))
    is

have_next : (m n : Memory) (L h : ℕ) → RoundMoves m n → HasHave m.stayer L h → HasHave n.stayer L h
have_next m n L h moves is = ⊎_elim
    (λ same. subst (λ (v : StayerValue). HasHave v L h) (sym same.1) is)
    (λ more. ⊎_elim
    (λ f. subst (λ (v : StayerValue). HasHave v L h) (sym f.stayer) (have_with m.stayer f.told.leaver f.told.have L h is))
    (λ f. subst (λ (v : StayerValue). HasHave v L h) (sym f.stayer) is)
    more.1)
    moves

report_next : (m n : Memory) (L q h : ℕ) → RoundMoves m n → HasReport m.chair L q h → HasReport n.chair L q h
report_next m n L q h moves is = ⊎_elim
    (λ same. subst (λ (c : ChairValue). HasReport c L q h) (sym same.0) is)
    (λ more. ⊎_elim
    (λ f. subst (λ (c : ChairValue). HasReport c L q h) (sym f.chair) is)
    (λ f. subst (λ (c : ChairValue). HasReport c L q h) (sym f.chair) (report_with m.chair f.told.leaver f.packet.head.from f.told.length L q h is))
    more.1)
    moves

rounds_at : (rules : Rules) (room : ℕ) (run : Run rules room) → Goes rules room run → (p t : ℕ) → Stays rules room run p
    → RoundMoves (peer_of (run.world t) p).memory (peer_of (run.world (suc t)) p).memory
rounds_at rules room run goes p t stays =
    called_rounds rules (run.world t) p (peer_of (run.world (suc t)) p) (open_at rules room run goes p t stays)
    (called_at rules room run goes p t stays)

pub have_later : (rules : Rules) (room : ℕ) (run : Run rules room) → Goes rules room run → (p L h t u : ℕ) → Stays rules room run p → t ≤ u
    → HasHave (peer_of (run.world t) p).memory.stayer L h → HasHave (peer_of (run.world u) p).memory.stayer L h
have_later rules room run goes p L h t u stays up_to is =
    later_on (λ x. HasHave (peer_of (run.world x) p).memory.stayer L h)
    (λ x was. have_next (peer_of (run.world x) p).memory (peer_of (run.world (suc x)) p).memory L h (rounds_at rules room run goes p x stays) was)
    t u up_to is

pub report_later : (rules : Rules) (room : ℕ) (run : Run rules room) → Goes rules room run → (L q h t u : ℕ) → t ≤ u
    → HasReport (peer_of (run.world t) 1).memory.chair L q h → HasReport (peer_of (run.world u) 1).memory.chair L q h
report_later rules room run goes L q h t u up_to is =
    later_on (λ x. HasReport (peer_of (run.world x) 1).memory.chair L q h)
    (λ x was. report_next (peer_of (run.world x) 1).memory (peer_of (run.world (suc x)) 1).memory L q h
    (rounds_at rules room run goes 1 x (first_stays rules room run goes)) was) t u up_to is

-- ---- a stayer that has answered

pub none_or : (o : Option ℕ) → ((n : ℕ) → o ≡ Some n → ⊥) → o ≡ None
none_or None never = refl
none_or (Some n) never = absurd (never n refl)

-- a list that is not cut was not cut before
pub uncut_before : (rules : Rules) (room : ℕ) (run : Run rules room) → Goes rules room run → (L p t u : ℕ) → Stays rules room run p → t ≤ u
    → cut_of L (journal_of (run.world u) p) ≡ None → cut_of L (journal_of (run.world t) p) ≡ None
uncut_before rules room run goes L p t u stays up_to uncut =
    none_or (cut_of L (journal_of (run.world t) p)) (λ K e.
    let later = cut_begins L K (journal_of (run.world t) p) (journal_of (run.world u) p) (journal_later rules room run goes p t u stays up_to) e in
    cc (later, uncut))

-- until player 1 cuts, an answer is what its stayer holds
pub counted : (rules : Rules) (room : ℕ) (run : Run rules room) → Goes rules room run → (L q t n : ℕ) → IsPlayer rules L → Stays rules room run q
    → report_of (peer_of (run.world t) 1).memory.chair L q ≡ Some n → cut_of L (journal_of (run.world t) 1) ≡ None
    → n ≡ count rules L (journal_of (run.world t) q)
counted rules room run goes L q t n leaver stays told uncut =
    let w : World = run.world t in
    let first = first_stays rules room run goes in
    let awake = awake_at rules room run goes 1 t first in
    let reached = reached_at rules room run goes t in
    let laws = goes.laws w reached in
    let memory = reached_remembers rules room w 1 goes.range reached first.plays awake in
    let low = report_true rules room w L q n laws (memory.reports L q n leaver.from_one stays.plays.from_one told) in
    let high = laws.reports q stays.plays awake L n told uncut in
    omega (arith, low, high)

steady_next : (rules : Rules) (room : ℕ) (run : Run rules room) → Goes rules room run → (L q t n : ℕ) → IsPlayer rules L → Stays rules room run q
    → q ≢ 1 → report_of (peer_of (run.world t) 1).memory.chair L q ≡ Some n → cut_of L (journal_of (run.world (suc t)) 1) ≡ None
    → count rules L (journal_of (run.world (suc t)) q) ≡ count rules L (journal_of (run.world t) q)
steady_next rules room run goes L q t n leaver stays other told uncut =
    let first = first_stays rules room run goes in
    ⊎_elim
    (λ same.
    let uncut_now = uncut_before rules room run goes L 1 t (suc t) first (omega arith) uncut in
    let now = counted rules room run goes L q t n leaver stays told uncut_now in
    let then = counted rules room run goes L q (suc t) n leaver stays (ap (λ (s : State). report_of s.memory.chair L q) same ∙ told) uncut in
    omega (arith, now, then))
    (λ same. ap (λ (s : State). count rules L s.journal) same)
    (event_one rules room (run.world t) (run.world (suc t)) 1 q (run.event t) (run.answer t) goes.range.at_most_four
    (well_at rules room run goes t) first.plays stays.plays (λ e. other (sym e)) (run.step t) (open_at rules room run goes 1 (suc t) first)
    (open_at rules room run goes q (suc t) stays))

-- an answer, and the count since then
record IsSteady (rules : Rules) (room : ℕ) (run : Run rules room) (L q h t u : ℕ) : Type 0 where
  told : HasReport (peer_of (run.world u) 1).memory.chair L q h
  same : cut_of L (journal_of (run.world u) 1) ≡ None → count rules L (journal_of (run.world u) q) ≡ count rules L (journal_of (run.world t) q)

pub steady : (rules : Rules) (room : ℕ) (run : Run rules room) → Goes rules room run → (L q h t u : ℕ) → IsPlayer rules L → Stays rules room run q
    → q ≢ 1 → t ≤ u → HasReport (peer_of (run.world t) 1).memory.chair L q h → cut_of L (journal_of (run.world u) 1) ≡ None
    → count rules L (journal_of (run.world u) q) ≡ count rules L (journal_of (run.world t) q)
steady rules room run goes L q h t u leaver stays other up_to told =
    let first = first_stays rules room run goes in
    (later_on (IsSteady rules room run L q h t) (λ x is. record {
      told = report_next (peer_of (run.world x) 1).memory (peer_of (run.world (suc x)) 1).memory L q h (rounds_at rules room run goes 1 x first)
          is.told;
      same = λ uncut.
          steady_next rules room run goes L q x is.told.0 leaver stays other is.told.1 uncut
          ∙ is.same (uncut_before rules room run goes L 1 x (suc x) first (omega arith) uncut);
    }) t u up_to (record { told = told; same = λ uncut. refl })).same
