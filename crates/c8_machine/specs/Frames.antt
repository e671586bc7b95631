-- One frame, as a relation over chains of steps.
use Rattle.std.specs.Prelude.{◌≡◌, ℕ, ◌-◌, ◌<◌, ◌&&◌, ◌⊎◌, Bool, true, false, not, Option, Some, None, MatchOption, List, [], ◌∷◌, ◌++◌}
use Rattle.std.specs.Prelude.{find, replicate}
use Rattle.c8_game.specs.Rules.{Rules}
use Rattle.c8_machine.specs.declared.machine.Step.{Step}
use Rattle.c8_machine.specs.declared.machine.Step.TheVariants.{Went, Drew, Waits, Stopped, Held}
use Rattle.c8_machine.specs.State.{State}
use Rattle.c8_machine.specs.Steps.{IsStep, is_down, with_register}

-- the sixteen keys, lowest first
abbrev pub all_keys : List ℕ
all_keys = 0x0 ∷ 0x1 ∷ 0x2 ∷ 0x3 ∷ 0x4 ∷ 0x5 ∷ 0x6 ∷ 0x7 ∷ 0x8 ∷ 0x9 ∷ 0xA ∷ 0xB ∷ 0xC ∷ 0xD ∷ 0xE ∷ 0xF ∷ []

-- the lowest key that was down before and is not down now
unfoldable pub lowest_released : ℕ → ℕ → Option ℕ
lowest_released before keys = find (λ key. is_down before key && not (is_down keys key)) all_keys

-- the machine after register x, which waits, got the key, if there is one
abbrev pub with_key : State → ℕ → Option ℕ → State
with_key s x None = s
with_key s x (Some key) = record (with_register s x key) { waits = None }

-- the machine after its wait, if it has one, was tried against the keys of the frame
abbrev pub settled : State → Option ℕ → ℕ → State
settled s None keys = s
settled s (Some x) keys = with_key s x (lowest_released s.keys keys)

-- a frame goes on only after a step that answers Went
abbrev pub goes_on : Step → Bool
goes_on Went = true
goes_on Drew = false
goes_on Waits = false
goes_on Stopped = false
goes_on Held = false

-- one step after another, with their answers in the list
abbrev pub IsChain : Rules → ℕ → State → List Step → State → Type 0
IsChain rules keys s [] t = t ≡ s
IsChain rules keys s (step ∷ steps) t = (mid : State) × IsStep rules keys s mid step × IsChain rules keys mid steps t

-- fewer than n steps that answer Went, and then one that ends the frame
pub record EndsEarly (n : ℕ) (steps : List Step) : Type 0 where
  pub before : ℕ
  pub last : Step
  pub fewer : before < n
  pub ends : goes_on last ≡ false
  pub all : steps ≡ replicate before Went ++ last ∷ []

-- the steps of a frame of at most n: n that answer Went, or fewer and then one that ends the frame
abbrev pub FillsFrame : ℕ → List Step → Type 0
FillsFrame n steps = (steps ≡ replicate n Went) ⊎ EndsEarly n steps

pub record Runs (rules : Rules) (keys : ℕ) (s t : State) : Type 0 where
  pub steps : List Step
  pub whole : FillsFrame rules.ipf steps
  pub chain : IsChain rules keys s steps t

-- the instructions of a frame: none while the machine still waits
abbrev pub Acts : Rules → ℕ → State → State → Type 0
Acts rules keys s t = MatchOption s.waits (Runs rules keys s t) (λ _. t ≡ s)

-- the end of a frame: each timer above 0 falls by one, and the keys are remembered
abbrev pub ended : ℕ → State → State
ended keys s = record s { timer = s.timer - 1; tone = s.tone - 1; keys = keys }

-- a frame of a machine that has not stopped
pub record IsLiveFrame (rules : Rules) (keys : ℕ) (s t : State) : Type 0 where
  pub mid : State
  pub acts : Acts rules keys (settled s s.waits keys) mid
  pub ends : t ≡ ended keys mid

-- one frame with these keys; a stopped machine does not change
abbrev pub IsFrame : Rules → ℕ → State → State → Type 0
IsFrame rules keys s t = MatchOption s.stop (IsLiveFrame rules keys s t) (λ _. t ≡ s)
