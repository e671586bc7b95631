-- Fair rounds end every drop round: seven of them, once the links are open; for `fair_rounds_end_a_match`.
use Rattle.std.proofs.Common.{◌≡◌, ◌≢◌, ℕ, suc, ◌+◌, ◌≤◌, ◌<◌, ◌⊎◌, inl, inr, ⊎_elim, List, true, false, Option, Some, None, refl, sym, ap, subst}
use Rattle.std.proofs.Common.{◌∙◌, arith}
use Rattle.std.proofs.lemmas.Bool.{cases_Bool, cases_eq, both_ways}
use Rattle.c8_game.specs.Rules.{Rules}
use Rattle.c8_hand.specs.Links.{link_to}
use Rattle.c8_known.specs.Journal.{Record, held, count, has_freeze, has_leave, cut_of}
use Rattle.c8_known.specs.checked.BeginsLaws.{begins_length}
use Rattle.c8_known.specs.checked.JournalLaws.{leave_stays, had_stayed}
use Rattle.c8_peer.specs.State as states
use Rattle.c8_round.specs.Round.{is_ready}
use Rattle.c8_world.specs.World as worlds
use Rattle.c8_world.specs.World.{peer_of, journal_of, known_by, Do}
use Rattle.c8_world.specs.Agreement.{IsPlayer, IsUndropped}
use Rattle.c8_progress.specs.Exchange.{links_of}
use Rattle.c8_progress.specs.Rounds.{Run, FairRounds, DropsAreOver}
use Rattle.c8_progress.proofs.OrderLemmas.{IsCut}
use Rattle.c8_progress.proofs.DroppedLemmas.{reached_ordered}
use Rattle.c8_progress.proofs.ExchangeLemmas.{missing_few}
use Rattle.c8_progress.proofs.GoingLemmas.{IsOn, stays_clean, cut_begins}
use Rattle.c8_progress.proofs.CuttingLemmas.{cut_count}
use Rattle.c8_progress.proofs.SettlingLemmas.{HasTold, ready}
use Rattle.c8_progress.proofs.CalmLemmas.{Goes, Stays, reached_at, undropped_at, first_stays, linked_at, journal_later, count_later, fresh_later}
use Rattle.c8_progress.proofs.FourLemmas.{turn_of, begins_next, due_arrives, four_rounds_open}
use Rattle.c8_progress.proofs.SteadyLemmas.{HasReport, have_later, report_later, uncut_before, counted, steady}
use Rattle.c8_progress.proofs.PassingLemmas.{Drops, AreJoined, IsFrozen, frozen_later, freeze_arrives, IsAnswered, frozen_arrives, is_cut_later}
use Rattle.c8_progress.proofs.PassingLemmas.{leaves_at, cut_arrives, decides_cut}

-- ---- what two journals say of a leaver

-- a stayer cuts only what player 1 has cut
one_cuts : (rules : Rules) (room : ℕ) (run : Run rules room) (L q t : ℕ) → Drops rules room run L q → IsCut L (journal_of (run.world t) q)
    → IsCut L (journal_of (run.world t) 1)
one_cuts rules room run L q t d is =
    ((reached_ordered rules room (run.world t) d.goes.range d.goes.laws (reached_at rules room run d.goes t)).journals q d.stays.plays).ended
    d.other L is.0 is.1

-- whoever has not cut a leaver's list lacks at most 32 of its inputs
few_at : (rules : Rules) (room : ℕ) (run : Run rules room) → Goes rules room run → (L p q t : ℕ) → IsPlayer rules L → Stays rules room run p
    → Stays rules room run q → cut_of L (journal_of (run.world t) q) ≡ None
    → count rules L (journal_of (run.world t) p) ≤ count rules L (journal_of (run.world t) q) + 32
few_at rules room run goes L p q t leaver one other uncut =
    let reached = reached_at rules room run goes t in
    let laws = goes.laws (run.world t) reached in
    let clean = stays_clean rules room (run.world t) q L goes.range goes.laws reached (undropped_at rules room run goes q t other) leaver in
    let few = missing_few rules room (run.world t) L q goes.range laws leaver other.plays (record { one = uncut; other = clean.uncut }) in
    let fewer = begins_length (held rules L (journal_of (run.world t) p)) (held rules L (journal_of (run.world t) L)) (laws.begins L p leaver
    one.plays) in
    let window = goes.range.window in
    let delay = goes.range.delay in
    omega (arith, few, fewer, window, delay)

-- ---- one round

-- the links are open from the fourth round on
joined : (rules : Rules) (room : ℕ) (run : Run rules room) (n L q t : ℕ) (r : FairRounds rules room run n) → 3 < n → Drops rules room run L q
    → r.begin 4 ≤ t → AreJoined rules room run q t
joined rules room run n L q t r some d after =
    let first = first_stays rules room run d.goes in
    record {
      one = fresh_later rules room run d.goes 1 q (r.begin 4) t first d.stays after
          (four_rounds_open rules room run d.goes n 1 q r some first d.stays (λ e. d.other (sym e)));
      other = fresh_later rules room run d.goes q 1 (r.begin 4) t d.stays first after
          (four_rounds_open rules room run d.goes n q 1 r some d.stays first d.other);
    }

open_to : (rules : Rules) (room : ℕ) (run : Run rules room) (L q t : ℕ) → Drops rules room run L q → AreJoined rules room run q t
    → (link_to (links_of (run.world t) 1) q).is_open ≡ true
open_to rules room run L q t d is =
    subst (λ (x : ℕ). (link_to (links_of (run.world t) 1) x).is_open ≡ true) (linked_at rules room run d.goes q t d.stays).me is.one.is_open

open_back : (rules : Rules) (room : ℕ) (run : Run rules room) (L q t : ℕ) → Drops rules room run L q → AreJoined rules room run q t
    → (link_to (links_of (run.world t) q) 1).is_open ≡ true
open_back rules room run L q t d is =
    subst (λ (x : ℕ). (link_to (links_of (run.world t) q) x).is_open ≡ true)
    (linked_at rules room run d.goes 1 t (first_stays rules room run d.goes)).me is.other.is_open

-- in a round player 1 says FREEZE, or it has cut the list
freezes : (rules : Rules) (room : ℕ) (run : Run rules room) (n i L q : ℕ) (r : FairRounds rules room run n) (o : Option ℕ) → i < n → 3 < n
    → r.begin 4 ≤ r.begin i → Drops rules room run L q → cut_of L (journal_of (run.world (r.speak i 1)) 1) ≡ o
    → IsCut L (journal_of (run.world (r.speak i 1)) 1) ⊎ IsFrozen rules room run L q (r.speak i 1) (r.begin (suc i))
freezes rules room run n i L q r (Some K) less some begun d cut = inl (K, cut)
freezes rules room run n i L q r None less some begun d uncut =
    let t : ℕ = r.speak i 1 in
    let first = first_stays rules room run d.goes in
    let from = (turn_of rules room run n i 1 r less first).from in
    let is = joined rules room run n L q t r some d (omega (arith, begun, from)) in
    inr (freeze_arrives rules room run L q t (r.begin (suc i)) d is
    (due_arrives rules room run d.goes n i 1 q r (states.Freeze L) less first d.stays (λ e. d.other (sym e))
    (open_to rules room run L q t d is, refl, leaves_at rules room run L q t d, uncut, undropped_at rules room run d.goes q t d.stays)))

-- then q has frozen the leaver
frozen_by : (rules : Rules) (room : ℕ) (run : Run rules room) (n i L q : ℕ) (r : FairRounds rules room run n) → i < n → 3 < n
    → r.begin 4 ≤ r.begin i → Drops rules room run L q → has_freeze L (journal_of (run.world (r.begin (suc i))) q) ≡ true
frozen_by rules room run n i L q r less some begun d =
    let t : ℕ = r.speak i 1 in
    let first = first_stays rules room run d.goes in
    let to = (turn_of rules room run n i 1 r less first).to in
    let laws = d.goes.laws (run.world t) (reached_at rules room run d.goes t) in
    ⊎_elim
    (λ cut. frozen_later rules room run d.goes L q t (r.begin (suc i)) d.stays to
    (laws.frozen q d.stays.plays (undropped_at rules room run d.goes q t d.stays) d.other L cut.0 cut.1))
    (λ is. is.frozen)
    (freezes rules room run n i L q r (cut_of L (journal_of (run.world t) 1)) less some begun d refl)

-- in a round q says FROZEN, or it has cut the list
record SaysFrozen (rules : Rules) (room : ℕ) (run : Run rules room) (L q t u : ℕ) : Type 0 where
  uncut : cut_of L (journal_of (run.world t) q) ≡ None
  is : IsAnswered rules room run L q t u

answers : (rules : Rules) (room : ℕ) (run : Run rules room) (n i L q : ℕ) (r : FairRounds rules room run n) (o : Option ℕ) → i < n → 3 < n
    → r.begin 4 ≤ r.begin i → Drops rules room run L q → has_freeze L (journal_of (run.world (r.begin i)) q) ≡ true
    → cut_of L (journal_of (run.world (r.speak i q)) q) ≡ o
    → IsCut L (journal_of (run.world (r.speak i q)) q) ⊎ SaysFrozen rules room run L q (r.speak i q) (r.begin (suc i))
answers rules room run n i L q r (Some K) less some begun d frozen cut = inl (K, cut)
answers rules room run n i L q r None less some begun d frozen uncut =
    let t : ℕ = r.speak i q in
    let first = first_stays rules room run d.goes in
    let from = (turn_of rules room run n i q r less d.stays).from in
    let is = joined rules room run n L q t r some d (omega (arith, begun, from)) in
    let now = frozen_later rules room run d.goes L q (r.begin i) t d.stays from frozen in
    inr (record {
      uncut = uncut;
      is = frozen_arrives rules room run L q t (r.begin (suc i)) d is now
          (due_arrives rules room run d.goes n i q 1 r (states.Frozen L) less d.stays first d.other
          (open_back rules room run L q t d is, refl, now, uncut));
    })

-- ---- until player 1 may decide

-- player 1 has cut the list, or q has answered, and holds no more than player 1
abbrev IsReady : (rules : Rules) (room : ℕ) → Run rules room → ℕ → ℕ → ℕ → Type 0
IsReady rules room run L q t = IsCut L (journal_of (run.world t) 1) ⊎
    (((h : ℕ) × HasReport (peer_of (run.world t) 1).memory.chair L q h) ×
    (count rules L (journal_of (run.world t) q) ≤ count rules L (journal_of (run.world t) 1)))

-- q has answered, then heard how much player 1 holds, and answered again
again : (rules : Rules) (room : ℕ) (run : Run rules room) (L q h b6 t6 b7 t7 b8 : ℕ) (o : Option ℕ) → Drops rules room run L q → b6 ≤ t6 → t6 ≤ b7
    → b7 ≤ t7 → t7 ≤ b8 → HasReport (peer_of (run.world b6) 1).memory.chair L q h → IsFrozen rules room run L q t6 b7
    → IsAnswered rules room run L q t7 b8 → cut_of L (journal_of (run.world b8) 1) ≡ o → IsReady rules room run L q b8
again rules room run L q h b6 t6 b7 t7 b8 (Some K) d one two three four told f a cut = inl (K, cut)
again rules room run L q h b6 t6 b7 t7 b8 None d one two three four told f a uncut =
    let first = first_stays rules room run d.goes in
    let uncut_at : (t : ℕ) → t ≤ b8 → cut_of L (journal_of (run.world t) 1) ≡ None =
    λ t up_to. uncut_before rules room run d.goes L 1 t b8 first up_to uncut in
    let at6 = steady rules room run d.goes L q h b6 t6 d.leaver d.stays d.other one told (uncut_at t6 (omega (arith, two, three, four))) in
    let at7 = steady rules room run d.goes L q h b6 t7 d.leaver d.stays d.other (omega (arith, one, two, three)) told (uncut_at t7 four) in
    let at8 = steady rules room run d.goes L q h b6 b8 d.leaver d.stays d.other (omega (arith, one, two, three, four)) told uncut in
    let few = few_at rules room run d.goes L q 1 t6 d.leaver d.stays first (uncut_at t6 (omega (arith, two, three, four))) in
    let have = have_later rules room run d.goes q L (count rules L (journal_of (run.world t6) 1)) b7 t7 d.stays three f.have in
    let holds = a.holds (count rules L (journal_of (run.world t6) 1)) have (omega (arith, at6, at7, few)) uncut in
    inr ((h, report_later rules room run d.goes L q h b6 b8 (omega (arith, one, two, three, four)) told), omega (arith, holds, at7, at8))

-- four rounds after the links are open it may
is_ready_by : (rules : Rules) (room : ℕ) (run : Run rules room) (n L q : ℕ) (r : FairRounds rules room run n) → 10 < n → Drops rules room run L q
    → IsReady rules room run L q (r.begin 8)
is_ready_by rules room run n L q r long d =
    let first = first_stays rules room run d.goes in
    let some : 3 < n = omega (arith, long) in
    let four : r.begin 4 ≤ r.begin 5 = begins_next rules room run n 4 1 r (omega (arith, long)) first in
    let five : r.begin 5 ≤ r.begin 6 = begins_next rules room run n 5 1 r (omega (arith, long)) first in
    let six : r.begin 6 ≤ r.begin 7 = begins_next rules room run n 6 1 r (omega (arith, long)) first in
    let seven : r.begin 7 ≤ r.begin 8 = begins_next rules room run n 7 1 r (omega (arith, long)) first in
    let t5 = turn_of rules room run n 5 q r (omega (arith, long)) d.stays in
    let t6 = turn_of rules room run n 6 1 r (omega (arith, long)) first in
    let t7 = turn_of rules room run n 7 q r (omega (arith, long)) d.stays in
    let s5_to : r.speak 5 q ≤ r.begin 6 = t5.to in
    let s6_from : r.begin 6 ≤ r.speak 6 1 = t6.from in
    let s6_to : r.speak 6 1 ≤ r.begin 7 = t6.to in
    let s7_from : r.begin 7 ≤ r.speak 7 q = t7.from in
    let s7_to : r.speak 7 q ≤ r.begin 8 = t7.to in
    let frozen : has_freeze L (journal_of (run.world (r.begin 5)) q) ≡ true =
    frozen_by rules room run n 4 L q r (omega (arith, long)) some (omega arith) d in
    let frozen_then : has_freeze L (journal_of (run.world (r.begin 7)) q) ≡ true =
    frozen_later rules room run d.goes L q (r.begin 5) (r.begin 7) d.stays (omega (arith, five, six)) frozen in
    let by_q : (t : ℕ) → t ≤ r.begin 8 → IsCut L (journal_of (run.world t) q) → IsReady rules room run L q (r.begin 8) = λ t up_to cut.
    inl (is_cut_later rules room run d.goes L 1 t (r.begin 8) first up_to (one_cuts rules room run L q t d cut)) in
    ⊎_elim
    (λ cut. by_q (r.speak 5 q) (omega (arith, s5_to, six, seven)) cut)
    (λ a5. ⊎_elim
    (λ cut. inl (is_cut_later rules room run d.goes L 1 (r.speak 6 1) (r.begin 8) first (omega (arith, s6_to, seven)) cut))
    (λ f6. ⊎_elim
    (λ cut. by_q (r.speak 7 q) s7_to cut)
    (λ a7. again rules room run L q (count rules L (journal_of (run.world (r.speak 5 q)) q)) (r.begin 6) (r.speak 6 1) (r.begin 7) (r.speak 7 q)
    (r.begin 8) (cut_of L (journal_of (run.world (r.begin 8)) 1)) d s6_from s6_to s7_from s7_to a5.is.told f6 a7.is refl)
    (answers rules room run n 7 L q r (cut_of L (journal_of (run.world (r.speak 7 q)) q)) (omega (arith, long)) some
    (omega (arith, four, five, six)) d frozen_then refl))
    (freezes rules room run n 6 L q r (cut_of L (journal_of (run.world (r.speak 6 1)) 1)) (omega (arith, long)) some (omega (arith, four, five)) d
    refl))
    (answers rules room run n 5 L q r (cut_of L (journal_of (run.world (r.speak 5 q)) q)) (omega (arith, long)) some four d frozen refl)

-- ---- player 1 decides

-- who is not dropped now was not dropped before
stays_before : (rules : Rules) (room : ℕ) (run : Run rules room) → Goes rules room run → (q t : ℕ) → IsPlayer rules q
    → IsUndropped (run.world t) q → Stays rules room run q
stays_before rules room run goes q t plays undropped =
    let ones = journal_later rules room run goes 1 0 t (first_stays rules room run goes) (omega arith) in
    record {
      plays = plays;
      undropped = had_stayed q (journal_of (run.world 0) 1) ones.rest (ap (has_leave q) (sym ones.is) ∙ undropped);
    }

told_at : (rules : Rules) (room : ℕ) (run : Run rules room) (L q t u : ℕ) → Drops rules room run L q → t ≤ u
    → cut_of L (journal_of (run.world u) 1) ≡ None → IsReady rules room run L q t → HasTold rules (run.world u) L q
told_at rules room run L q t u d up_to uncut is = ⊎_elim
    (λ cut.
    let none = uncut_before rules room run d.goes L 1 t u (first_stays rules room run d.goes) up_to uncut in
    let had = cut.1 in
    absurd (cc (had, none)))
    (λ told.
    let first = first_stays rules room run d.goes in
    let now = report_later rules room run d.goes L q told.0.0 t u up_to told.0.1 in
    let same = counted rules room run d.goes L q u now.0 d.leaver d.stays now.1 uncut in
    let kept = steady rules room run d.goes L q told.0.0 t u d.leaver d.stays d.other up_to told.0.1 uncut in
    let more = count_later rules room run d.goes L 1 t u first up_to in
    let low = told.1 in
    record { n = now.0; reported = now.1; holds = omega (arith, same, kept, more, low) })
    is

-- a leaver, whoever stays
record Leaves (rules : Rules) (room : ℕ) (run : Run rules room) (L : ℕ) : Type 0 where
  goes : Goes rules room run
  leaver : IsPlayer rules L
  leaves : has_leave L (journal_of (run.world 0) 1) ≡ true

drops_of : (rules : Rules) (room : ℕ) (run : Run rules room) (L q : ℕ) → Leaves rules room run L → Stays rules room run q → q ≢ 1
    → Drops rules room run L q
drops_of rules room run L q l stays other = record { goes = l.goes; leaver = l.leaver; leaves = l.leaves; stays = stays; other = other }

decided_at : (rules : Rules) (room : ℕ) (run : Run rules room) (n L t : ℕ) (r : FairRounds rules room run n) (o : Option ℕ) → 10 < n
    → Leaves rules room run L → r.begin 8 ≤ t → cut_of L (journal_of (run.world t) 1) ≡ o
    → IsCut L (journal_of (run.world t) 1) ⊎ (is_ready (peer_of (run.world t) 1).memory.chair (known_by rules (run.world t) 1) L ≡ true)
decided_at rules room run n L t r (Some K) long l after cut = inl (K, cut)
decided_at rules room run n L t r None long l after uncut =
    let goes = l.goes in
    let ones = journal_later rules room run goes 1 0 t (first_stays rules room run goes) (omega arith) in
    let leaves : has_leave L (journal_of (run.world t) 1) ≡ true =
    subst (λ (j : List Record). has_leave L j ≡ true) (sym ones.is) (leave_stays L (journal_of (run.world 0) 1) ones.rest l.leaves) in
    let on : IsOn rules room (λ p. has_leave p (journal_of (run.world t) 1)) (run.world t) = record {
      reached = reached_at rules room run goes t;
      leaves = λ p. refl;
      up = λ p plays stays. goes.calm.up t p plays stays;
    } in
    inr (ready rules room (λ p. has_leave p (journal_of (run.world t) 1)) (run.world t) L goes.range on l.leaver leaves (λ q plays other stays.
    let d = drops_of rules room run L q l (stays_before rules room run goes q t plays stays) other in
    told_at rules room run L q (r.begin 8) t d after uncut (is_ready_by rules room run n L q r long d)))

cut_or : (rules : Rules) (room : ℕ) (run : Run rules room) (L t u : ℕ) (o : Option ℕ) → Goes rules room run → IsPlayer rules L
    → has_leave L (journal_of (run.world t) 1) ≡ true → suc t ≤ u → cut_of L (journal_of (run.world t) 1) ≡ o
    → (IsCut L (journal_of (run.world t) 1) ⊎ (is_ready (peer_of (run.world t) 1).memory.chair (known_by rules (run.world t) 1) L ≡ true))
    → ((run.event t ≡ Do (worlds.Decide L))
    ⊎ ((is_ready (peer_of (run.world t) 1).memory.chair (known_by rules (run.world t) 1) L ≡ false) ⊎ IsCut L (journal_of (run.world t) 1)))
    → IsCut L (journal_of (run.world u) 1)
cut_or rules room run L t u (Some K) goes leaver leaves up_to cut which decides =
    is_cut_later rules room run goes L 1 t u (first_stays rules room run goes) (omega (arith, up_to)) (K, cut)
cut_or rules room run L t u None goes leaver leaves up_to uncut which decides =
    let first = first_stays rules room run goes in
    ⊎_elim
    (λ cut. is_cut_later rules room run goes L 1 t u first (omega (arith, up_to)) cut)
    (λ yes. ⊎_elim
    (λ event. is_cut_later rules room run goes L 1 (suc t) u first up_to (decides_cut rules room run goes L t leaver leaves uncut yes event))
    (λ waits. ⊎_elim (λ no. absurd (cc (yes, no))) (λ cut. is_cut_later rules room run goes L 1 t u first (omega (arith, up_to)) cut) waits)
    decides)
    which

first_cuts : (rules : Rules) (room : ℕ) (run : Run rules room) (n L : ℕ) (r : FairRounds rules room run n) → 10 < n → Leaves rules room run L
    → IsCut L (journal_of (run.world (r.begin 9)) 1)
first_cuts rules room run n L r long l =
    let goes = l.goes in
    let first = first_stays rules room run goes in
    let turn = turn_of rules room run n 8 1 r (omega (arith, long)) first in
    let to : r.speak 8 1 ≤ r.begin 9 = turn.to in
    let ones = journal_later rules room run goes 1 0 (r.begin 8) first (omega arith) in
    let leaves : has_leave L (journal_of (run.world (r.begin 8)) 1) ≡ true =
    subst (λ (j : List Record). has_leave L j ≡ true) (sym ones.is) (leave_stays L (journal_of (run.world 0) 1) ones.rest l.leaves) in
    let decides = turn.decides refl L leaves in
    let t : ℕ = decides.at in
    let after = decides.after in
    let before = decides.before in
    let then = journal_later rules room run goes 1 0 t first (omega arith) in
    let leaves_then : has_leave L (journal_of (run.world t) 1) ≡ true =
    subst (λ (j : List Record). has_leave L j ≡ true) (sym then.is) (leave_stays L (journal_of (run.world 0) 1) then.rest l.leaves) in
    cut_or rules room run L t (r.begin 9) (cut_of L (journal_of (run.world t) 1)) goes l.leaver leaves_then (omega (arith, before, to)) refl
    (decided_at rules room run n L t r (cut_of L (journal_of (run.world t) 1)) long l after refl) decides.decides

-- ---- and each stayer cuts

stayer_cuts : (rules : Rules) (room : ℕ) (run : Run rules room) (n L q : ℕ) (r : FairRounds rules room run n) → 10 < n → Leaves rules room run L
    → Stays rules room run q → q ≢ 1 → IsCut L (journal_of (run.world (r.begin 11)) q)
stayer_cuts rules room run n L q r long l stays other =
    let goes = l.goes in
    let d = drops_of rules room run L q l stays other in
    let first = first_stays rules room run goes in
    let some : 3 < n = omega (arith, long) in
    let one = first_cuts rules room run n L r long l in
    let K : ℕ = one.0 in
    let four : r.begin 4 ≤ r.begin 5 = begins_next rules room run n 4 1 r (omega (arith, long)) first in
    let five : r.begin 5 ≤ r.begin 6 = begins_next rules room run n 5 1 r (omega (arith, long)) first in
    let six : r.begin 6 ≤ r.begin 7 = begins_next rules room run n 6 1 r (omega (arith, long)) first in
    let seven : r.begin 7 ≤ r.begin 8 = begins_next rules room run n 7 1 r (omega (arith, long)) first in
    let eight : r.begin 8 ≤ r.begin 9 = begins_next rules room run n 8 1 r (omega (arith, long)) first in
    let q_turn = turn_of rules room run n 9 q r (omega (arith, long)) stays in
    let q_from : r.begin 9 ≤ r.speak 9 q = q_turn.from in
    let q_to : r.speak 9 q ≤ r.begin 10 = q_turn.to in
    let turn = turn_of rules room run n 10 1 r long first in
    let from : r.begin 10 ≤ r.speak 10 1 = turn.from in
    let to : r.speak 10 1 ≤ r.begin 11 = turn.to in
    let begun : r.begin 4 ≤ r.begin 9 = omega (arith, four, five, six, seven, eight) in
    let frozen5 : has_freeze L (journal_of (run.world (r.begin 5)) q) ≡ true =
    frozen_by rules room run n 4 L q r (omega (arith, long)) some (omega arith) d in
    let frozen9 : has_freeze L (journal_of (run.world (r.begin 9)) q) ≡ true =
    frozen_later rules room run goes L q (r.begin 5) (r.begin 9) stays (omega (arith, five, six, seven, eight)) frozen5 in
    let t : ℕ = r.speak 9 q in
    let u : ℕ = r.speak 10 1 in
    ⊎_elim
    (λ cut. is_cut_later rules room run goes L q t (r.begin 11) stays (omega (arith, q_to, from, to)) cut)
    (λ a.
    let few = few_at rules room run goes L 1 q t l.leaver first stays a.uncut in
    let cut_t : cut_of L (journal_of (run.world t) 1) ≡ Some K =
    cut_begins L K (journal_of (run.world (r.begin 9)) 1) (journal_of (run.world t) 1)
    (journal_later rules room run goes 1 (r.begin 9) t first q_from) one.1 in
    let all = cut_count rules room (run.world t) L K goes.range goes.laws (reached_at rules room run goes t) l.leaver cut_t in
    let cut_u : cut_of L (journal_of (run.world u) 1) ≡ Some K =
    cut_begins L K (journal_of (run.world t) 1) (journal_of (run.world u) 1)
    (journal_later rules room run goes 1 t u first (omega (arith, q_to, from))) cut_t in
    let h : ℕ = count rules L (journal_of (run.world t) q) in
    let told = report_later rules room run goes L q h (r.begin 10) u from a.is.told in
    let linked = joined rules room run n L q u r some d (omega (arith, begun, q_from, q_to, from)) in
    let frozen_u = frozen_later rules room run goes L q (r.begin 9) u stays (omega (arith, q_from, q_to, from)) frozen9 in
    cut_arrives rules room run L q u (r.begin 11) K h d linked frozen_u cut_u told (omega (arith, all, few))
    (due_arrives rules room run goes n 10 1 q r (states.Cut L) long first stays (λ e. other (sym e))
    (open_to rules room run L q u d linked, refl, (K, cut_u))))
    (answers rules room run n 9 L q r (cut_of L (journal_of (run.world t) q)) (omega (arith, long)) some begun d frozen9 refl)

pub drops_end : (rules : Rules) (room : ℕ) (run : Run rules room) → Goes rules room run → (n : ℕ) (r : FairRounds rules room run n) → 10 < n
    → DropsAreOver rules (run.world (r.begin 11))
drops_end rules room run goes n r long L q leaver gone plays undropped =
    let first = first_stays rules room run goes in
    let stays = stays_before rules room run goes q (r.begin 11) plays undropped in
    elim (cases_Bool (has_leave L (journal_of (run.world 0) 1))) [
      | inr in_it ↦
          let still = undropped_at rules room run goes L (r.begin 11) (record { plays = leaver; undropped = in_it }) in
          absurd (both_ways (has_leave L (journal_of (run.world (r.begin 11)) 1)) still gone)
      | inl leaves ↦
          let l : Leaves rules room run L = record { goes = goes; leaver = leaver; leaves = leaves } in
          elim (cases_eq q 1) [
            | inr other ↦ stayer_cuts rules room run n L q r long l stays other
            | inl one ↦
                let nine : r.begin 9 ≤ r.begin 10 = begins_next rules room run n 9 1 r (omega (arith, long)) first in
                let ten : r.begin 10 ≤ r.begin 11 = begins_next rules room run n 10 1 r long first in
                subst (λ (x : ℕ). IsCut L (journal_of (run.world (r.begin 11)) x)) (sym one)
                (is_cut_later rules room run goes L 1 (r.begin 9) (r.begin 11) first (omega (arith, nine, ten))
                (first_cuts rules room run n L r long l))
          ]
    ]
