-- Each undropped player brings its inputs to each other; for EndingLemmas.
use Rattle.std.proofs.Common.{inl, inr, ◌≡◌, ◌≢◌, ℕ, zero, suc, ◌≤◌, Bool, true, false, sym, ap, subst, ◌∙◌, arith}
use Rattle.std.proofs.lemmas.Bool.{cases_eq, cases_Bool}
use Rattle.c8_game.specs.Rules.{Rules, AreInRange}
use Rattle.c8_known.specs.Journal.{count}
use Rattle.c8_world.specs.World.{World, journal_of}
use Rattle.c8_world.specs.Agreement.{IsPlayer}
use Rattle.c8_progress.specs.Exchange.{got_on}
use Rattle.c8_progress.proofs.ExchangeLemmas.{Takes, AreUncut, pair_gets_on, pair_gets_all}
use Rattle.c8_progress.proofs.LawLemmas.{Laws}
use Rattle.c8_progress.proofs.GoingLemmas.{IsOn, IsLater, later_same, later_more, grown_longer, later_by, got_on_leads, undropped_clean, on_pair}
use Rattle.c8_progress.proofs.GoingLemmas.{count_begins}

-- ---- bringing

-- If neither was dropped, q holds what p has entered.
record IsBrought (rules : Rules) (room : ℕ) (out : ℕ → Bool) (w : World) (p q : ℕ) : Type 0 where
  end : World
  later : IsLater rules room out w end
  holds : out p ≡ false → out q ≡ false → count rules p (journal_of w p) ≤ count rules p (journal_of end q)

both_ways : {A : Type 0} (b : Bool) → b ≡ true → b ≡ false → A
both_ways b one other = absurd (cc (one, other))

got_on_brings : (rules : Rules) (room : ℕ) (out : ℕ → Bool) (w : World) (p q : ℕ) → AreInRange rules → Laws rules room → IsOn rules room out w
    → IsPlayer rules p → IsPlayer rules q → p ≢ q → out p ≡ false → out q ≡ false → IsBrought rules room out w p q
got_on_brings rules room out w p q range laws on plays also apart stays also_stays =
    let v : World = got_on rules room w p q in
    let are = on_pair rules room out w p q range laws on plays also apart stays also_stays in
    let here = undropped_clean rules room out w p q range laws on stays also in
    let there = undropped_clean rules room out w q p range laws on also_stays plays in
    let takes : Takes w p q = record { unfrozen = here.unfrozen; unleft = here.stays } in
    let uncut : AreUncut w p q = record { one = here.uncut; other = there.uncut } in
    let is = (pair_gets_on rules room w p q range on.reached laws are takes).entered in
    record {
      end = v;
      later = later_by rules room out w v q range on (got_on_leads rules room w p q) (record {
        modes = is.modes;
        here = grown_longer (journal_of w q) (journal_of v q) is.here;
        there = is.there;
      });
      holds = λ a b. pair_gets_all rules room w p q range on.reached laws are takes uncut;
    }

brought : (rules : Rules) (room : ℕ) (out : ℕ → Bool) (w : World) (p q : ℕ) → AreInRange rules → Laws rules room → IsOn rules room out w
    → IsPlayer rules p → IsPlayer rules q → IsBrought rules room out w p q
brought rules room out w p q range laws on plays also =
    let same = later_same rules room out w on in
    elim (cases_eq p q) [
      | inl at ↦ record {
        end = w;
        later = same;
        holds = λ a b. omega (arith, ap (λ (x : ℕ). count rules p (journal_of w x)) at);
      }
      | inr apart ↦ elim (cases_Bool (out p)) [
        | inl gone ↦ record { end = w; later = same; holds = λ a b. both_ways (out p) gone a }
        | inr stays ↦ elim (cases_Bool (out q)) [
          | inl gone ↦ record { end = w; later = same; holds = λ a b. both_ways (out q) gone b }
          | inr also_stays ↦ got_on_brings rules room out w p q range laws on plays also apart stays also_stays
        ]
      ]
    ]

pub count_later : (rules : Rules) (room : ℕ) (out : ℕ → Bool) (w v : World) (p q : ℕ) → IsLater rules room out w v → IsPlayer rules q
    → count rules p (journal_of w q) ≤ count rules p (journal_of v q)
count_later rules room out w v p q later plays = count_begins rules p (journal_of w q) (journal_of v q) (later.grows q plays)

pub below : (q n : ℕ) → q ≤ suc n → q ≢ suc n → q ≤ n
below q n upto apart = omega (arith, upto, apart)

-- players 1 to n bring theirs to q
record AreBroughtTo (rules : Rules) (room : ℕ) (out : ℕ → Bool) (w : World) (q n : ℕ) : Type 0 where
  end : World
  later : IsLater rules room out w end
  holds : (p : ℕ) → IsPlayer rules p → p ≤ n → out p ≡ false → out q ≡ false → count rules p (journal_of w p) ≤ count rules p (journal_of end q)

brought_to : (rules : Rules) (room : ℕ) (out : ℕ → Bool) (w : World) (q n : ℕ) → AreInRange rules → Laws rules room → IsOn rules room out w
    → IsPlayer rules q → n ≤ rules.players → AreBroughtTo rules room out w q n
brought_to rules room out w q zero range laws on also within = record {
  end = w;
  later = later_same rules room out w on;
  holds = λ p plays none. absurd (let from = plays.from_one in omega (arith, from, none));
}
brought_to rules room out w q (suc n) range laws on also within =
    let before = brought_to rules room out w q n range laws on also (omega (arith, within)) in
    let u : World = before.end in
    let plays : IsPlayer rules (suc n) = record { from_one = omega arith; in_game = within } in
    let one = brought rules room out u (suc n) q range laws before.later.on plays also in
    let v : World = one.end in
    record {
      end = v;
      later = later_more rules room out w u v before.later one.later;
      holds = λ p p_plays upto stays also_stays. elim (cases_eq p (suc n)) [
        | inl same ↦
            let own = count_later rules room out w u (suc n) (suc n) before.later plays in
            let now = one.holds (ap out (sym same) ∙ stays) also_stays in
            subst (λ (x : ℕ). count rules x (journal_of w x) ≤ count rules x (journal_of v q)) (sym same) (omega (arith, own, now))
        | inr other ↦
            let was = before.holds p p_plays (below p n upto other) stays also_stays in
            let still = count_later rules room out u v p q one.later also in
            omega (arith, was, still)
      ];
    }

-- all bring theirs to players 1 to n
pub record AreAllBrought (rules : Rules) (room : ℕ) (out : ℕ → Bool) (w : World) (n : ℕ) : Type 0 where
  pub end : World
  pub later : IsLater rules room out w end
  pub holds : (p q : ℕ) → IsPlayer rules p → IsPlayer rules q → q ≤ n → out p ≡ false → out q ≡ false
      → count rules p (journal_of w p) ≤ count rules p (journal_of end q)

pub all_brought : (rules : Rules) (room : ℕ) (out : ℕ → Bool) (w : World) (n : ℕ) → AreInRange rules → Laws rules room → IsOn rules room out w
    → n ≤ rules.players → AreAllBrought rules room out w n
all_brought rules room out w zero range laws on within = record {
  end = w;
  later = later_same rules room out w on;
  holds = λ p q plays also none. absurd (let from = also.from_one in omega (arith, from, none));
}
all_brought rules room out w (suc n) range laws on within =
    let before = all_brought rules room out w n range laws on (omega (arith, within)) in
    let u : World = before.end in
    let plays : IsPlayer rules (suc n) = record { from_one = omega arith; in_game = within } in
    let one = brought_to rules room out u (suc n) rules.players range laws before.later.on plays (omega arith) in
    let v : World = one.end in
    record {
      end = v;
      later = later_more rules room out w u v before.later one.later;
      holds = λ p q p_plays q_plays upto stays also_stays. elim (cases_eq q (suc n)) [
        | inl same ↦
            let own = count_later rules room out w u p p before.later p_plays in
            let now = one.holds p p_plays p_plays.in_game stays (ap out (sym same) ∙ also_stays) in
            subst (λ (x : ℕ). count rules p (journal_of w p) ≤ count rules p (journal_of v x)) (sym same) (omega (arith, own, now))
        | inr other ↦
            let was = before.holds p q p_plays q_plays (below q n upto other) stays also_stays in
            let still = count_later rules room out u v p q one.later q_plays in
            omega (arith, was, still)
      ];
    }
