-- Checked, not believed: each machine has a frame for any keys. Other files use only the type of `framed`.
use Rattle.std.specs.Prelude.{MatchBool, length, nat_lt, ◌≡◌, ℕ, zero, suc, false, Option, Some, None, MatchOption, List, [], ◌∷◌}
use Rattle.std.proofs.Common.{Bool, true, false, zero-le, suc-le-suc, ap, inl, inr, refl}
use Rattle.c8_game.specs.Rules.{Rules}
use Rattle.c8_machine.specs.declared.machine.Step.{Step}
use Rattle.c8_machine.specs.declared.machine.Step.TheVariants.{Went}
use Rattle.c8_machine.specs.declared.machine.Stop.{Stop}
use Rattle.c8_machine.specs.Instructions.{Instruction, Return, Call}
use Rattle.c8_machine.specs.checked.Decoding.{instruction_of}
use Rattle.c8_machine.specs.State.{State}
use Rattle.c8_machine.specs.checked.DecodingLaws.{is_instruction_of}
use Rattle.c8_machine.specs.Steps.{Does, Executes, IsStep, code_at}
use Rattle.c8_machine.specs.Frames.{IsFrame, IsLiveFrame, IsChain, Runs, FillsFrame, settled, ended, goes_on}

-- what an instruction does that depends on a test
one_or_other : (test : Bool) (s t : State) (when_true when_false : Step)
    → (u : State) × (step : Step) × MatchBool test ((step ≡ when_true) × (u ≡ s)) ((step ≡ when_false) × (u ≡ t))
one_or_other true s t when_true when_false = (s, when_true, (refl, refl))
one_or_other false s t when_true when_false = (t, when_false, (refl, refl))

-- each instruction takes a machine to some machine
does : (rules : Rules) (keys : ℕ) (i : Instruction) (s : State) → (t : State) × (step : Step) × Does rules keys i s t step
does rules keys Return s = one_or_other (nat_lt 0 (length s.stack)) _ _ _ _
does rules keys (Call to) s = one_or_other (nat_lt (length s.stack) 16) _ _ _ _
does rules keys i s = (_, _, (refl, refl))

executes : (rules : Rules) (keys : ℕ) (i : Option Instruction) (s : State) → (t : State) × (step : Step) × Executes rules keys i s t step
executes rules keys (Some i) s = does rules keys i s
executes rules keys None s = (_, _, (refl, refl))

step_of : (rules : Rules) (keys : ℕ) (s : State) → (t : State) × (step : Step) × IsStep rules keys s t step
step_of rules keys s =
    let done = executes rules keys (instruction_of (code_at s)) s in
    (done.0, done.1, record { instruction = instruction_of (code_at s); is = is_instruction_of (code_at s); does = done.2 })

record Run (rules : Rules) (keys n : ℕ) (s : State) : Type 0 where
  end : State
  steps : List Step
  whole : FillsFrame n steps
  chain : IsChain rules keys s steps end

-- a step that answers Went, before steps that fill a frame
longer : (n : ℕ) (steps : List Step) → FillsFrame n steps → FillsFrame (suc n) (Went ∷ steps)
longer n steps (inl all) = inl (ap (λ (rest : List Step). Went ∷ rest) all)
longer n steps (inr early) = inr (record {
  before = suc early.before;
  last = early.last;
  fewer = suc-le-suc early.fewer;
  ends = early.ends;
  all = ap (λ (rest : List Step). Went ∷ rest) early.all;
})

-- a run whose first step ends the frame
ends_at_once : (rules : Rules) (keys n : ℕ) (s mid : State) (step : Step) → goes_on step ≡ false → IsStep rules keys s mid step
    → Run rules keys (suc n) s
ends_at_once rules keys n s mid step ends here = record {
  end = mid;
  steps = step ∷ [];
  whole = inr (record { before = 0; last = step; fewer = suc-le-suc zero-le; ends = ends; all = refl });
  chain = (mid, here, refl);
}

run_on : (rules : Rules) (keys n : ℕ) (s mid : State) (step : Step) → IsStep rules keys s mid step → Run rules keys n mid → Run rules keys (suc n) s
run_on rules keys n s mid Went here rest =
    record { end = rest.end; steps = Went ∷ rest.steps; whole = longer n rest.steps rest.whole; chain = (mid, here, rest.chain) }
run_on rules keys n s mid step here rest = ends_at_once rules keys n s mid step refl here

run : (rules : Rules) (keys n : ℕ) (s : State) → Run rules keys n s
run rules keys zero s = record { end = s; steps = []; whole = inl refl; chain = refl }
run rules keys (suc n) s = let done = step_of rules keys s in run_on rules keys n s done.0 done.1 done.2 (run rules keys n done.0)

act : (rules : Rules) (keys : ℕ) (s : State) (waits : Option ℕ) → (t : State) × MatchOption waits (Runs rules keys s t) (λ _. t ≡ s)
act rules keys s None = let whole = run rules keys rules.ipf s in
    (whole.end, record { steps = whole.steps; whole = whole.whole; chain = whole.chain })
act rules keys s (Some x) = (s, refl)

frame : (rules : Rules) (keys : ℕ) (s : State) (stop : Option Stop) → (t : State) × MatchOption stop (IsLiveFrame rules keys s t) (λ _. t ≡ s)
frame rules keys s None =
    let done = act rules keys (settled s s.waits keys) (settled s s.waits keys).waits in
    (ended keys done.0, record { mid = done.0; acts = done.1; ends = refl })
frame rules keys s (Some why) = (s, refl)

pub framed : (rules : Rules) (keys : ℕ) (s : State) → (t : State) × IsFrame rules keys s t
framed rules keys s = frame rules keys s s.stop
