-- The least count, with one more player.
use Rattle.std.proofs.Common.{◌≡◌, ℕ, ◌+◌, ◌<◌, ◌≤◌, ◌⊎◌, inl, inr, ⊎_elim, min, Option, Some, None, refl, sym, ap, subst, ◌∙◌, arith}
use Rattle.std.proofs.lemmas.Bool.{cases_lt}
use Rattle.c8_game.specs.Rules.{Rules}
use Rattle.c8_known.specs.Confirmed.{confirmed}
use Rattle.c8_audit.specs.Counts.{lesser_of, IsCountBelow, IsLesserBelow}
use Rattle.c8_audit.specs.Journals.{Seen, AllSeen, AreOfGame, Stays}
use Rattle.c8_audit.specs.Search.{IsStayer}
use Rattle.c8_audit.specs.Verdicts.{IsLeastCount}

below_next : (k n : ℕ) → k < n + 1 → (k < n) ⊎ (k ≡ n)
below_next k n below = elim (cases_lt k n) [ inl less ↦ inl less | inr more ↦ inr (omega (arith, below, more)) ]

some_same : {X : Type 0} (x y : X) → Some x ≡ Some y → x ≡ y
some_same x y same = cc

-- one player has one journal
same_seen : (all : AllSeen) (p q : ℕ) (s t : Seen) → Stays all p s → Stays all q t → p ≡ q → s ≡ t
same_seen all p q s t at_p at_q same = some_same s t (sym at_p.given.is ∙ ap all same ∙ at_q.given.is)

pub lesser_next : (all : AllSeen) (n : ℕ) (least : Option ℕ) (o : Option Seen) → IsLesserBelow all n least → IsStayer all n o
    → IsLesserBelow all (n + 1) (lesser_of least o)
lesser_next all n None None before now =
    λ p s below stays. ⊎_elim (λ less. before p s less stays) (λ here. now s (subst (λ (x : ℕ). Stays all x s) here stays)) (below_next p n below)
lesser_next all n (Some N) None before now = record {
  player = before.player;
  seen = before.seen;
  stays = before.stays;
  count = before.count;
  least = λ p s below stays. ⊎_elim (λ less. before.least p s less stays)
      (λ here. absurd (now s (subst (λ (x : ℕ). Stays all x s) here stays))) (below_next p n below);
}
lesser_next all n None (Some t) before now = record {
  player = n;
  seen = t;
  stays = now;
  count = refl;
  least = λ p s below stays. ⊎_elim
      (λ less. absurd (before p s less stays))
      (λ here. let same = ap (λ (x : Seen). confirmed x.first) (same_seen all p n s t stays now here) in omega (arith, same))
      (below_next p n below);
}
lesser_next all n (Some N) (Some t) before now =
    let count = before.count in
    let least : (p : ℕ) (s : Seen) → p < n + 1 → Stays all p s → min N (confirmed t.first) ≤ confirmed s.first = λ p s below stays. ⊎_elim
    (λ less. let more = before.least p s less stays in omega (arith, more))
    (λ here. let same = ap (λ (x : Seen). confirmed x.first) (same_seen all p n s t stays now here) in omega (arith, same))
    (below_next p n below) in
    elim (cases_lt (confirmed t.first) N) [
      | inl less ↦ record { player = n; seen = t; stays = now; count = omega (arith, less); least = least }
      | inr more ↦ record { player = before.player; seen = before.seen; stays = before.stays; count = omega (arith, count, more); least = least }
    ]

-- the stayers' numbers are below 5
below_five : (rules : Rules) (all : AllSeen) (p : ℕ) (s : Seen) → AreOfGame rules all → Stays all p s → p < 5
below_five rules all p s of_game stays =
    let four = of_game.at_most_four in
    omega (arith, four, of_game.players p s stays.given)

pub count_at_end : (rules : Rules) (all : AllSeen) (N : ℕ) → AreOfGame rules all → IsCountBelow all 5 N → IsLeastCount all N
count_at_end rules all N of_game is = record {
  player = is.player;
  seen = is.seen;
  stays = is.stays;
  count = is.count;
  least = λ p s stays. is.least p s (below_five rules all p s of_game stays) stays;
}
