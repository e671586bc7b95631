-- Each drop round comes to its end: every undropped player has cut every leaver's list; for OpeningLemmas.
use Rattle.std.proofs.Common.{◌≡◌, ◌≢◌, ℕ, zero, suc, ◌+◌, ◌-◌, ◌≤◌, ◌⊎◌, inl, inr, ⊎_elim, length, Bool, true, false, not, ◌&&◌, ◌||◌, Option, Some}
use Rattle.std.proofs.Common.{None, refl, sym, ap, subst, ◌∙◌, arith, slice_index_or}
use Rattle.std.specs.Prelude.{◌==◌}
use Rattle.std.specs.List.{range_with_len, list_all, AllPass}
use Rattle.std.proofs.lemmas.Bool.{cases_Bool, cases_eq, eq-eqb, le-leb}
use Rattle.std.proofs.lemmas.List.FromFn.{length-range_with_len, get_or-range_with_len}
use Rattle.std.proofs.lemmas.List.Sums.{list_all-from_AllPass}
use Rattle.c8_game.specs.Rules.{Rules, AreInRange}
use Rattle.c8_known.specs.Journal.{count, cut_of}
use Rattle.c8_known.specs.Known.{PlayerValue, KnownValue, player_in, count_in, known_of}
use Rattle.c8_known.specs.checked.OneMore.{player_known}
use Rattle.c8_known.specs.checked.StartLaws.{players_known}
use Rattle.c8_round.specs.Round.{ChairValue, report_of, has_answered, is_stayer, is_ready}
use Rattle.c8_world.specs.World as worlds
use Rattle.c8_world.specs.World.{World, acted, peer_of, journal_of}
use Rattle.c8_world.specs.Agreement.{IsPlayer}
use Rattle.c8_progress.specs.Exchange.{works}
use Rattle.c8_progress.proofs.LawLemmas.{Laws}
use Rattle.c8_progress.proofs.TellingLemmas.{count_known}
use Rattle.c8_progress.proofs.RememberedLemmas.{report_there, reached_remembers}
use Rattle.c8_progress.proofs.GreetingLemmas.{player_one}
use Rattle.c8_progress.proofs.CuttingLemmas.{CanRound, HasBrought, asked, answers, ended, ends, decides}
use Rattle.c8_progress.proofs.GoingLemmas.{IsOn, IsLater, later_same, later_more, one_stays, count_begins, cut_begins}

-- ---- all who stay answer

-- q has answered with no more than player 1 holds
pub record HasTold (rules : Rules) (w : World) (L q : ℕ) : Type 0 where
  pub n : ℕ
  pub reported : report_of (peer_of w 1).memory.chair L q ≡ Some n
  pub holds : n ≤ count rules L (journal_of w 1)

record HaveAnswered (rules : Rules) (room : ℕ) (out : ℕ → Bool) (w : World) (L n : ℕ) : Type 0 where
  end : World
  later : IsLater rules room out w end
  uncut : cut_of L (journal_of end 1) ≡ None
  told : (q : ℕ) → IsPlayer rules q → q ≤ n → q ≢ 1 → out q ≡ false → HasTold rules end L q

-- an older answer stands beside a new one
still_told : (rules : Rules) (room : ℕ) (out : ℕ → Bool) (w v : World) (L q r : ℕ) → AreInRange rules → IsOn rules room out w → IsPlayer rules L
    → IsPlayer rules q → IsPlayer rules r → r ≢ q → out 1 ≡ false → HasBrought rules room out w v L q → HasTold rules w L r → HasTold rules v L r
still_told rules room out w v L q r range on leaver plays also apart stays is was =
    let one = player_one rules range in
    let up = on.up 1 one stays in
    let memory = reached_remembers rules room w 1 range on.reached one (λ gone. cc (up, gone)) in
    let from = leaver.from_one in
    let to = leaver.in_game in
    let four = range.at_most_four in
    let a = plays.from_one in
    let b = also.from_one in
    let kept : report_of (peer_of v 1).memory.chair L r ≡ report_of (peer_of w 1).memory.chair L r =
    ap (λ (c : ChairValue). report_of c L r) is.answered.chair
    ∙ report_there (peer_of w 1).memory.chair L q is.answered.n r memory.table from (omega (arith, to, four)) (λ e. apart (omega (arith, e, a, b))) in
    let more = count_begins rules L (journal_of w 1) (journal_of v 1) (is.answered.later.grows 1 one) in
    let low = was.holds in
    record { n = was.n; reported = kept ∙ was.reported; holds = omega (arith, low, more) }

below : (q n : ℕ) → q ≤ suc n → q ≢ suc n → q ≤ n
below q n upto apart = omega (arith, upto, apart)

-- one more player
answered_past : (rules : Rules) (room : ℕ) (out : ℕ → Bool) (w : World) (L n : ℕ) → HaveAnswered rules room out w L n
    → ((suc n ≡ 1) ⊎ (out (suc n) ≡ true)) → HaveAnswered rules room out w L (suc n)
answered_past rules room out w L n before skip = record {
  end = before.end;
  later = before.later;
  uncut = before.uncut;
  told = λ q plays upto other stays. before.told q plays (below q n upto (λ at. ⊎_elim
      (λ one. other (at ∙ one)) (λ gone. let same = ap out at in cc (same, gone, stays)) skip)) other stays;
}

have_answered : (rules : Rules) (room : ℕ) (out : ℕ → Bool) (w : World) (L n : ℕ) → AreInRange rules → Laws rules room → IsOn rules room out w
    → IsPlayer rules L → out L ≡ true → cut_of L (journal_of w 1) ≡ None → n ≤ rules.players → HaveAnswered rules room out w L n
have_answered rules room out w L zero range laws on leaver leaves uncut within = record {
  end = w;
  later = later_same rules room out w on;
  uncut = uncut;
  told = λ q plays none. absurd (let from = plays.from_one in omega (arith, from, none));
}
have_answered rules room out w L (suc n) range laws on leaver leaves uncut within =
    let before = have_answered rules room out w L n range laws on leaver leaves uncut (omega (arith, within)) in
    elim (cases_eq (suc n) 1) [
      | inl one ↦ answered_past rules room out w L n before (inl one)
      | inr other ↦ elim (cases_Bool (out (suc n))) [
        | inl gone ↦ answered_past rules room out w L n before (inr gone)
        | inr stays ↦
            let u : World = before.end in
            let v : World = asked rules room u L (suc n) in
            let plays : IsPlayer rules (suc n) = record { from_one = omega arith; in_game = within } in
            let can : CanRound rules room out u L (suc n) = record {
              on = before.later.on;
              plays = plays;
              other = other;
              stays = stays;
              leaver = leaver;
              leaves = leaves;
            } in
            let is = answers rules room out u L (suc n) range laws can before.uncut in
            let first = one_stays rules room out w range laws on in
            record {
              end = v;
              later = later_more rules room out w u v before.later is.answered.later;
              uncut = is.uncut;
              told = λ q q_plays upto q_other q_stays. elim (cases_eq q (suc n)) [
                | inl at ↦ subst (λ (x : ℕ). HasTold rules v L x) (sym at)
                    (record { n = is.answered.n; reported = is.answered.reported; holds = is.holds })
                | inr apart ↦ still_told rules room out u v L (suc n) q range before.later.on leaver plays q_plays apart first is
                    (before.told q q_plays (below q n upto apart) q_other q_stays)
              ];
            }
      ]
    ]

-- ---- then player 1 may decide

or_true : (a b : Bool) → b ≡ true → (a || b) ≡ true
or_true true b e = refl
or_true false b e = e

or_first : (a b : Bool) → a ≡ true → (a || b) ≡ true
or_first true b e = refl
or_first false b e = absurd cc

not_and : (a : Bool) → not (a && not true) ≡ true
not_and true = refl
not_and false = refl

and_both : (a b : Bool) → a ≡ true → b ≡ true → (a && b) ≡ true
and_both true b one two = two
and_both false b one two = absurd cc

answered_test : (count n : ℕ) (o : Option ℕ) → o ≡ Some n → n ≤ count → has_answered count o ≡ true
answered_test count n None e low = absurd cc
answered_test count n (Some held) e low = le-leb held count (let same : held ≡ n = cc in omega (arith, same, low))

not_stayer : (k : KnownValue) (q : ℕ) → q ≡ 1 → not (is_stayer k q) ≡ true
not_stayer k q one = rw (eq-eqb q 1 one) refl

gone_stayer : (k : KnownValue) (q : ℕ) → (player_in k q).leaving ≡ true → not (is_stayer k q) ≡ true
gone_stayer k q gone = rw gone (not_and (not (q == 1)))

pub ready : (rules : Rules) (room : ℕ) (out : ℕ → Bool) (w : World) (L : ℕ) → AreInRange rules → IsOn rules room out w → IsPlayer rules L
    → out L ≡ true → ((q : ℕ) → IsPlayer rules q → q ≢ 1 → out q ≡ false → HasTold rules w L q)
    → is_ready (peer_of w 1).memory.chair (known_of rules 1 (journal_of w 1)) L ≡ true
unfolding is_ready
ready rules room out w L range on leaver leaves told =
    let k : KnownValue = known_of rules 1 (journal_of w 1) in
    let c : ChairValue = (peer_of w 1).memory.chair in
    let n : ℕ = length k.players in
    let long = players_known rules 1 (journal_of w 1) in
    let test : ℕ → Bool = λ q. not (is_stayer k q) || has_answered (count_in k L) (report_of c L q) in
    let counted = count_known rules 1 L (journal_of w 1) leaver.from_one leaver.in_game in
    let gone_by : (q : ℕ) → IsPlayer rules q → (player_in k q).leaving ≡ out q = λ q plays.
    ap (λ (v : PlayerValue). v.leaving) (player_known rules 1 q (journal_of w 1) plays.from_one plays.in_game) ∙ on.leaves q in
    let each : (q : ℕ) → IsPlayer rules q → test q ≡ true = λ q plays. elim (cases_eq q 1) [
      | inl one ↦ or_first (not (is_stayer k q)) (has_answered (count_in k L) (report_of c L q)) (not_stayer k q one)
      | inr other ↦ elim (cases_Bool (out q)) [
        | inl gone ↦ or_first (not (is_stayer k q)) (has_answered (count_in k L) (report_of c L q)) (gone_stayer k q (gone_by q plays ∙ gone))
        | inr stays ↦
            let is = told q plays other stays in
            let low = is.holds in
            or_true (not (is_stayer k q)) (has_answered (count_in k L) (report_of c L q))
            (answered_test (count_in k L) is.n (report_of c L q) is.reported (omega (arith, low, counted)))
      ]
    ] in
    let all : AllPass test (range_with_len 1 n) = λ i d within.
    let less = length-range_with_len 1 n in
    let at : slice_index_or (range_with_len 1 n) i d ≡ 1 + i = get_or-range_with_len 1 n i d (omega (arith, within, less)) in
    subst (λ (q : ℕ). test q ≡ true) (sym at)
    (each (1 + i) (record { from_one = omega arith; in_game = omega (arith, within, less, long) })) in
    and_both (player_in k L).leaving (list_all test (range_with_len 1 n)) (gone_by L leaver ∙ leaves)
    (list_all-from_AllPass test (range_with_len 1 n) all)

-- ---- one leaver

-- player 1 and each of players 1 to n that was not dropped have cut L's list
record HaveCut (rules : Rules) (room : ℕ) (out : ℕ → Bool) (w : World) (L n : ℕ) : Type 0 where
  end : World
  later : IsLater rules room out w end
  first : (K : ℕ) × (cut_of L (journal_of end 1) ≡ Some K)
  cut : (q : ℕ) → IsPlayer rules q → q ≤ n → out q ≡ false → (K : ℕ) × (cut_of L (journal_of end q) ≡ Some K)

-- player 1 cuts the list, if it has not
first_cut : (rules : Rules) (room : ℕ) (out : ℕ → Bool) (w : World) (L : ℕ) (o : Option ℕ) → AreInRange rules → Laws rules room
    → IsOn rules room out w → IsPlayer rules L → out L ≡ true → cut_of L (journal_of w 1) ≡ o → HaveCut rules room out w L 0
first_cut rules room out w L (Some K) range laws on leaver leaves cut = record {
  end = w;
  later = later_same rules room out w on;
  first = (K, cut);
  cut = λ q plays none. absurd (let from = plays.from_one in omega (arith, from, none));
}
first_cut rules room out w L None range laws on leaver leaves uncut =
    let all = have_answered rules room out w L rules.players range laws on leaver leaves uncut (omega arith) in
    let u : World = all.end in
    let is_ready = ready rules room out u L range all.later.on leaver leaves (λ q plays. all.told q plays plays.in_game) in
    let is = decides rules room out u L range laws all.later.on leaver leaves all.uncut is_ready in
    let v : World = (acted rules room u (worlds.Decide L) works).world in
    record {
      end = v;
      later = later_more rules room out w u v all.later is.later;
      first = is.cut;
      cut = λ q plays none. absurd (let from = plays.from_one in omega (arith, from, none));
    }

cut_still : (rules : Rules) (room : ℕ) (out : ℕ → Bool) (w v : World) (L q : ℕ) → IsLater rules room out w v → IsPlayer rules q
    → (K : ℕ) × (cut_of L (journal_of w q) ≡ Some K) → (K : ℕ) × (cut_of L (journal_of v q) ≡ Some K)
cut_still rules room out w v L q later plays was = (was.0, cut_begins L was.0 (journal_of w q) (journal_of v q) (later.grows q plays) was.1)

-- q cuts the list, if it has not
record CutsToo (rules : Rules) (room : ℕ) (out : ℕ → Bool) (w : World) (L q : ℕ) : Type 0 where
  end : World
  later : IsLater rules room out w end
  cut : (K : ℕ) × (cut_of L (journal_of end q) ≡ Some K)

cuts_too : (rules : Rules) (room : ℕ) (out : ℕ → Bool) (w : World) (L q K : ℕ) (o : Option ℕ) → AreInRange rules → Laws rules room
    → CanRound rules room out w L q → cut_of L (journal_of w 1) ≡ Some K → cut_of L (journal_of w q) ≡ o → CutsToo rules room out w L q
cuts_too rules room out w L q K (Some other) range laws can cut had =
    record { end = w; later = later_same rules room out w can.on; cut = (other, had) }
cuts_too rules room out w L q K None range laws can cut uncut =
    let is = ends rules room out w L q K range laws can cut uncut in
    record { end = ended rules room w L q; later = is.later; cut = is.cut }

cut_past : (rules : Rules) (room : ℕ) (out : ℕ → Bool) (w : World) (L n : ℕ) → HaveCut rules room out w L n
    → ((suc n ≡ 1) ⊎ (out (suc n) ≡ true)) → HaveCut rules room out w L (suc n)
cut_past rules room out w L n before skip = record {
  end = before.end;
  later = before.later;
  first = before.first;
  cut = λ q plays upto stays. elim (cases_eq q (suc n)) [
    | inr apart ↦ before.cut q plays (below q n upto apart) stays
    | inl at ↦ ⊎_elim
        (λ one. (before.first.0, subst (λ (x : ℕ). cut_of L (journal_of before.end x) ≡ Some before.first.0) (sym (at ∙ one)) before.first.1))
        (λ gone. absurd (let same = ap out at in cc (same, gone, stays))) skip
  ];
}

have_cut : (rules : Rules) (room : ℕ) (out : ℕ → Bool) (w : World) (L n : ℕ) → AreInRange rules → Laws rules room → IsOn rules room out w
    → IsPlayer rules L → out L ≡ true → n ≤ rules.players → HaveCut rules room out w L n
have_cut rules room out w L zero range laws on leaver leaves within =
    first_cut rules room out w L (cut_of L (journal_of w 1)) range laws on leaver leaves refl
have_cut rules room out w L (suc n) range laws on leaver leaves within =
    let before = have_cut rules room out w L n range laws on leaver leaves (omega (arith, within)) in
    elim (cases_eq (suc n) 1) [
      | inl one ↦ cut_past rules room out w L n before (inl one)
      | inr other ↦ elim (cases_Bool (out (suc n))) [
        | inl gone ↦ cut_past rules room out w L n before (inr gone)
        | inr stays ↦
            let u : World = before.end in
            let plays : IsPlayer rules (suc n) = record { from_one = omega arith; in_game = within } in
            let can : CanRound rules room out u L (suc n) = record {
              on = before.later.on;
              plays = plays;
              other = other;
              stays = stays;
              leaver = leaver;
              leaves = leaves;
            } in
            let is = cuts_too rules room out u L (suc n) before.first.0 (cut_of L (journal_of u (suc n))) range laws can before.first.1 refl in
            record {
              end = is.end;
              later = later_more rules room out w u is.end before.later is.later;
              first = cut_still rules room out u is.end L 1 is.later (player_one rules range) before.first;
              cut = λ q q_plays upto q_stays. elim (cases_eq q (suc n)) [
                | inl at ↦ subst (λ (x : ℕ). (K : ℕ) × (cut_of L (journal_of is.end x) ≡ Some K)) (sym at) is.cut
                | inr apart ↦ cut_still rules room out u is.end L q is.later q_plays (before.cut q q_plays (below q n upto apart) q_stays)
              ];
            }
      ]
    ]

-- ---- all leavers

-- each undropped player has cut the lists of those of players 1 to n that player 1 has dropped
pub record HaveAllCut (rules : Rules) (room : ℕ) (out : ℕ → Bool) (w : World) (n : ℕ) : Type 0 where
  pub end : World
  pub later : IsLater rules room out w end
  pub cut : (L q : ℕ) → IsPlayer rules L → L ≤ n → out L ≡ true → IsPlayer rules q → out q ≡ false
      → (K : ℕ) × (cut_of L (journal_of end q) ≡ Some K)

pub all_cut : (rules : Rules) (room : ℕ) (out : ℕ → Bool) (w : World) (n : ℕ) → AreInRange rules → Laws rules room → IsOn rules room out w
    → n ≤ rules.players → HaveAllCut rules room out w n
all_cut rules room out w zero range laws on within = record {
  end = w;
  later = later_same rules room out w on;
  cut = λ L q plays none. absurd (let from = plays.from_one in omega (arith, from, none));
}
all_cut rules room out w (suc n) range laws on within =
    let before = all_cut rules room out w n range laws on (omega (arith, within)) in
    elim (cases_Bool (out (suc n))) [
      | inr stays ↦ record {
        end = before.end;
        later = before.later;
        cut = λ L q plays upto leaves. before.cut L q plays (below L n upto (λ at. let same = ap out at in cc (same, stays, leaves))) leaves;
      }
      | inl gone ↦
          let u : World = before.end in
          let plays : IsPlayer rules (suc n) = record { from_one = omega arith; in_game = within } in
          let is = have_cut rules room out u (suc n) rules.players range laws before.later.on plays gone (omega arith) in
          record {
            end = is.end;
            later = later_more rules room out w u is.end before.later is.later;
            cut = λ L q L_plays upto leaves q_plays q_stays. elim (cases_eq L (suc n)) [
              | inl at ↦ subst (λ (x : ℕ). (K : ℕ) × (cut_of x (journal_of is.end q) ≡ Some K)) (sym at) (is.cut q q_plays q_plays.in_game q_stays)
              | inr apart ↦ cut_still rules room out u is.end L q is.later q_plays
                  (before.cut L q L_plays (below L n upto apart) leaves q_plays q_stays)
            ];
          }
    ]
