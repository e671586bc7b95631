-- A machine has exactly one frame for the keys that are down.
use Rattle.std.proofs.Common.{Bool, MatchBool, length, nat_lt, ◌≡◌, ℕ, zero, suc, ◌<◌, true, false, Option, Some, None, MatchOption, List}
use Rattle.std.proofs.Common.{[], ◌∷◌, ◌++◌, replicate, ap, sym, ◌∙◌, subst, inl, inr, refl, arith}
use Rattle.std.proofs.lemmas.Bool.{true≢false, cases_Bool}
use Rattle.c8_game.specs.Rules.{Rules}
use Rattle.c8_machine.specs.declared.machine.Step.{Step}
use Rattle.c8_machine.specs.declared.machine.Step.TheVariants.{Went}
use Rattle.c8_machine.specs.declared.machine.Stop.{Stop}
use Rattle.c8_machine.specs.Instructions.{Instruction, Return, Call}
use Rattle.c8_machine.specs.checked.Decoding.{instruction_of}
use Rattle.c8_machine.specs.State.{State}
use Rattle.c8_machine.specs.Steps.{Does, Executes, IsStep, code_at}
use Rattle.c8_machine.specs.Frames.{IsFrame, IsLiveFrame, IsChain, Runs, FillsFrame, settled, ended, goes_on}
use Rattle.c8_machine.specs.checked.FrameExists.{framed}
use Rattle.c8_machine.specs.checked.DecodingLaws.{is_instruction_of, only_instruction}
use Rattle.c8_machine.specs.Serial.{frame_of}

record Same (s t : State) (step other : Step) : Type 0 where
  machine : s ≡ t
  what : step ≡ other

by_test : (test : Bool) (v w : State) (when_true when_false : Step) (t u : State) (step other : Step)
    → MatchBool test ((step ≡ when_true) × (t ≡ v)) ((step ≡ when_false) × (t ≡ w))
    → MatchBool test ((other ≡ when_true) × (u ≡ v)) ((other ≡ when_false) × (u ≡ w)) → Same t u step other
by_test true v w when_true when_false t u step other (a, b) (c, d) = record { machine = b ∙ sym d; what = a ∙ sym c }
by_test false v w when_true when_false t u step other (a, b) (c, d) = record { machine = b ∙ sym d; what = a ∙ sym c }

-- an instruction takes a machine to one machine only
does_once : (rules : Rules) (keys : ℕ) (i : Instruction) (s t u : State) (step other : Step) → Does rules keys i s t step
    → Does rules keys i s u other → Same t u step other
does_once rules keys Return s t u step other a b = by_test (nat_lt 0 (length s.stack)) _ _ _ _ t u step other a b
does_once rules keys (Call to) s t u step other a b = by_test (nat_lt (length s.stack) 16) _ _ _ _ t u step other a b
does_once rules keys i s t u step other (a, b) (c, d) = record { machine = b ∙ sym d; what = a ∙ sym c }

executes_once : (rules : Rules) (keys : ℕ) (i : Option Instruction) (s t u : State) (step other : Step) → Executes rules keys i s t step
    → Executes rules keys i s u other → Same t u step other
executes_once rules keys (Some i) s t u step other a b = does_once rules keys i s t u step other a b
executes_once rules keys None s t u step other (a, b) (c, d) = record { machine = b ∙ sym d; what = a ∙ sym c }

at_its_code : (rules : Rules) (keys : ℕ) (s t : State) (step : Step) → IsStep rules keys s t step
    → Executes rules keys (instruction_of (code_at s)) s t step
at_its_code rules keys s t step is = rw (only_instruction (code_at s) is.instruction is.is) at is.does

-- a machine has one step only
steps_once : (rules : Rules) (keys : ℕ) (s t u : State) (step other : Step) → IsStep rules keys s t step → IsStep rules keys s u other
    → Same t u step other
steps_once rules keys s t u step other a b =
    executes_once rules keys (instruction_of (code_at s)) s t u step other (at_its_code rules keys s t step a) (at_its_code rules keys s u other b)

-- a frame of at most 0 steps has none
fills_none : (steps : List Step) → FillsFrame 0 steps → steps ≡ []
fills_none steps (inl all) = all
fills_none steps (inr early) = absurd (omega (arith, early.fewer))

-- the steps of a frame of at most n + 1: the first answers Went and the others fill a frame of n, or it is the only one
record First (n : ℕ) (steps : List Step) : Type 0 where
  first : Step
  rest : List Step
  all : steps ≡ first ∷ rest
  then_fills : goes_on first ≡ true → FillsFrame n rest
  else_none : goes_on first ≡ false → rest ≡ []

first : (n : ℕ) (steps : List Step) → FillsFrame (suc n) steps → First n steps
first n steps (inl all) = record {
  first = Went;
  rest = replicate n Went;
  all = all;
  then_fills = λ _. inl refl;
  else_none = λ e. absurd (true≢false e);
}
first n steps (inr early) = by_first early.before early.last early.fewer early.ends early.all where
  by_first : (before : ℕ) (last : Step) → before < suc n → goes_on last ≡ false → steps ≡ replicate before Went ++ last ∷ [] → First n steps
  by_first zero last fewer ends all = record {
    first = last;
    rest = [];
    all = all;
    then_fills = λ e. absurd (true≢false (sym e ∙ ends));
    else_none = λ _. refl;
  }
  by_first (suc before) last fewer ends all = record {
    first = Went;
    rest = replicate before Went ++ last ∷ [];
    all = all;
    then_fills = λ _. inr (record { before = before; last = last; fewer = omega (arith, fewer); ends = ends; all = refl });
    else_none = λ e. absurd (true≢false e);
  }

-- two chains that fill a frame end in the same machine
chains_agree : (rules : Rules) (keys n : ℕ) (s t u : State) (xs ys : List Step) → FillsFrame n xs → FillsFrame n ys
    → IsChain rules keys s xs t → IsChain rules keys s ys u → t ≡ u
chains_agree rules keys zero s t u xs ys fills also chain other =
    let same : t ≡ s = rw (fills_none xs fills) at chain in
    let too : u ≡ s = rw (fills_none ys also) at other in
    same ∙ sym too
chains_agree rules keys (suc n) s t u xs ys fills also chain other =
    let x = first n xs fills in
    let y = first n ys also in
    let left : IsChain rules keys s (x.first ∷ x.rest) t = subst (λ (steps : List Step). IsChain rules keys s steps t) x.all chain in
    let right : IsChain rules keys s (y.first ∷ y.rest) u = subst (λ (steps : List Step). IsChain rules keys s steps u) y.all other in
    let same = steps_once rules keys s left.0 right.0 x.first y.first left.1 right.1 in
    let moved : IsChain rules keys left.0 y.rest u = subst (λ (mid : State). IsChain rules keys mid y.rest u) (sym same.machine) right.2 in
    elim (cases_Bool (goes_on x.first)) [
      | inl goes ↦ chains_agree rules keys n left.0 t u x.rest y.rest (x.then_fills goes) (y.then_fills (sym (ap goes_on same.what) ∙ goes))
          left.2 moved
      | inr ends ↦
          let at_left : t ≡ left.0 = subst (λ (steps : List Step). IsChain rules keys left.0 steps t) (x.else_none ends) left.2 in
          let at_right : u ≡ left.0 = subst (λ (steps : List Step). IsChain rules keys left.0 steps u)
          (y.else_none (sym (ap goes_on same.what) ∙ ends)) moved in
          at_left ∙ sym at_right
    ]

acts_once : (rules : Rules) (keys : ℕ) (s t u : State) (waits : Option ℕ) → MatchOption waits (Runs rules keys s t) (λ _. t ≡ s)
    → MatchOption waits (Runs rules keys s u) (λ _. u ≡ s) → t ≡ u
acts_once rules keys s t u None a b = chains_agree rules keys rules.ipf s t u a.steps b.steps a.whole b.whole a.chain b.chain
acts_once rules keys s t u (Some x) a b = a ∙ sym b

frame_once_by : (rules : Rules) (keys : ℕ) (s t u : State) (stop : Option Stop) → MatchOption stop (IsLiveFrame rules keys s t) (λ _. t ≡ s)
    → MatchOption stop (IsLiveFrame rules keys s u) (λ _. u ≡ s) → t ≡ u
frame_once_by rules keys s t u None a b =
    a.ends ∙ ap (ended keys) (acts_once rules keys (settled s s.waits keys) a.mid b.mid (settled s s.waits keys).waits a.acts b.acts) ∙ sym b.ends
frame_once_by rules keys s t u (Some why) a b = a ∙ sym b

pub is_frame : (rules : Rules) (keys : ℕ) (s : State) → IsFrame rules keys s (frame_of rules keys s)
is_frame rules keys s = (framed rules keys s).1

pub frame_once : (rules : Rules) (keys : ℕ) (s t : State) → IsFrame rules keys s t → t ≡ frame_of rules keys s
frame_once rules keys s t frame = frame_once_by rules keys s t (frame_of rules keys s) s.stop frame (is_frame rules keys s)

-- performing the instruction of the code at the counter is a step
pub step_at_code : (rules : Rules) (keys : ℕ) (s t : State) (code : ℕ) (i : Option Instruction) (step : Step) → code ≡ code_at s
    → i ≡ instruction_of code → Executes rules keys i s t step → IsStep rules keys s t step
step_at_code rules keys s t code i step here found done =
    let is : i ≡ instruction_of (code_at s) = found ∙ ap instruction_of here in
    record {
      instruction = i;
      is = rw is (is_instruction_of (code_at s));
      does = done;
    }
