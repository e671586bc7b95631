-- True checkpoints, journal by journal.
use Rattle.std.proofs.Common.{◌≡◌, ℕ, ◌<◌, ◌≤◌, inl, inr, Bool, true, Option, Some, sym, subst, ◌∙◌, arith}
use Rattle.std.specs.Prelude.{◌↔◌}
use Rattle.std.proofs.lemmas.Bool.{cases_lt}
use Rattle.c8_game.specs.Rules.{Rules}
use Rattle.c8_digest.specs.Origin.{Origin}
use Rattle.c8_roll.specs.Roll.{IsOnTheWay}
use Rattle.c8_audit.specs.Journals.{Seen, AllSeen, AreOfGame}
use Rattle.c8_audit.specs.Marked.{IsTrueAt}
use Rattle.c8_audit.specs.Verdicts.{AreTrue, IsUntrue}

some_same : {X : Type 0} (x y : X) → Some x ≡ Some y → x ≡ y
some_same x y same = cc

-- the last checkpoint is true, if it is
pub true_at : (rules : Rules) (s : Seen) (from : Origin) (b : Bool) → Some from ≡ s.last → (b ≡ true) ↔ IsOnTheWay rules s.first from
    → (b ≡ true) ↔ IsTrueAt rules (Some s)
true_at rules s from b last is = (
  λ yes other at. subst (λ (o : Origin). IsOnTheWay rules s.first o) (some_same from other (last ∙ at)) (is.0 yes),
  λ holds. is.1 (holds from (sym last)),
)

-- all checkpoints are true, if those of the players below 5 are
pub true_at_end : (rules : Rules) (all : AllSeen) → AreOfGame rules all → ((p : ℕ) → 1 ≤ p → p < 5 → IsTrueAt rules (all p)) → AreTrue rules all
true_at_end rules all of_game holds p s given from last =
    let four = of_game.at_most_four in
    let within = of_game.players p s given in
    let here : IsTrueAt rules (Some s) = subst (λ (o : Option Seen). IsTrueAt rules o) given.is
    (holds p given.from_one (omega (arith, four, within))) in
    here from last

-- a checkpoint that is not true is no fault of a player before, if those before are true
pub not_before : (rules : Rules) (all : AllSeen) (n p : ℕ) → ((q : ℕ) → 1 ≤ q → q < n → IsTrueAt rules (all q)) → IsUntrue rules all p → n ≤ p
not_before rules all n p holds untrue =
    elim (cases_lt p n) [
      | inl less ↦
          let given = untrue.given in
          let here : IsTrueAt rules (Some untrue.seen) = subst (λ (o : Option Seen). IsTrueAt rules o) given.is (holds p given.from_one less) in
          absurd (untrue.never (here untrue.last untrue.last_is))
      | inr more ↦ more
    ]
