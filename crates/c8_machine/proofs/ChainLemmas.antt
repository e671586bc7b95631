-- Chains with one more step.
use Rattle.std.proofs.Common.{◌≡◌, ℕ, ◌+◌, ◌<◌, true, false, List, [], ◌∷◌, ◌++◌, replicate, subst, inr, refl}
use Rattle.std.proofs.lemmas.List.{replicate_more}
use Rattle.c8_game.specs.Rules.{Rules}
use Rattle.c8_machine.specs.declared.machine.Step.{Step}
use Rattle.c8_machine.specs.declared.machine.Step.TheVariants.{Went, Drew, Waits, Stopped, Held}
use Rattle.c8_machine.specs.State.{State}
use Rattle.c8_machine.specs.Steps.{IsStep}
use Rattle.c8_machine.specs.Frames.{IsChain, Runs, goes_on}

IsChain-push : (rules : Rules) (keys : ℕ) (s mid t : State) (steps : List Step) (step : Step) → IsChain rules keys s steps mid
    → IsStep rules keys mid t step → IsChain rules keys s (steps ++ step ∷ []) t
IsChain-push rules keys s mid t [] step same next = (t, subst (λ (m : State). IsStep rules keys m t step) same next, refl)
IsChain-push rules keys s mid t (x ∷ xs) step (first, here, rest) next = (first, here, IsChain-push rules keys first mid t xs step rest next)

went : (step : Step) → goes_on step ≡ true → step ≡ Went
went Went goes = refl
went Drew goes = cc
went Waits goes = cc
went Stopped goes = cc
went Held goes = cc

-- a step that goes on, after n that answered Went
pub one_more : (rules : Rules) (keys : ℕ) (s mid t : State) (n : ℕ) (step : Step) → IsChain rules keys s (replicate n Went) mid
    → IsStep rules keys mid t step → goes_on step ≡ true → IsChain rules keys s (replicate (n + 1) Went) t
one_more rules keys s mid t n step chain next goes =
    let steps : replicate n Went ++ step ∷ [] ≡ replicate (n + 1) Went = rw (went step goes) (replicate_more n Went) in
    rw steps at (IsChain-push rules keys s mid t (replicate n Went) step chain next)

-- a step that ends the frame, after fewer than `ipf` that answered Went
pub ends_early : (rules : Rules) (keys : ℕ) (s mid t : State) (n : ℕ) (step : Step) → IsChain rules keys s (replicate n Went) mid
    → IsStep rules keys mid t step → goes_on step ≡ false → n < rules.ipf → Runs rules keys s t
ends_early rules keys s mid t n step chain next ends fewer = record {
  steps = replicate n Went ++ step ∷ [];
  whole = inr (record { before = n; last = step; fewer = fewer; ends = ends; all = refl });
  chain = IsChain-push rules keys s mid t (replicate n Went) step chain next;
}
