-- Until a match is over its rounds have all turns, so what they bring comes also if turns are wanted no longer; for the law on fair rounds.
use Rattle.std.proofs.Common.{◌≡◌, ◌≢◌, ℕ, zero, suc, ◌+◌, ◌-◌, ◌≤◌, ◌<◌, inl, inr, subst, arith}
use Rattle.std.proofs.lemmas.Bool.{cases_eq}
use Rattle.c8_game.specs.Rules.{Rules}
use Rattle.c8_known.specs.Confirmed.{confirmed}
use Rattle.c8_world.specs.World.{known_by}
use Rattle.c8_progress.specs.Rounds.{Run, FairRounds, GoesOn, FairMatch}
use Rattle.c8_progress.proofs.CalmLemmas.{Goes, Stays, undropped_at, calm_keeps}
use Rattle.c8_progress.proofs.RoundLemmas.{few_confirmed}

in_order : (rules : Rules) (room : ℕ) (run : Run rules room) (n i more : ℕ) (r : FairMatch rules room run n) → i + more ≤ n
    → r.begin i ≤ r.begin (i + more)
in_order rules room run n i zero r within = let e : i ≡ i + 0 = omega arith in subst (λ (x : ℕ). r.begin i ≤ r.begin x) e (omega arith)
in_order rules room run n i (suc more) r within =
    let before = in_order rules room run n i more r (omega (arith, within)) in
    let next = r.order (i + more) (omega (arith, within)) in
    let e : suc (i + more) ≡ i + suc more = omega arith in
    subst (λ (x : ℕ). r.begin i ≤ r.begin x) e (omega (arith, before, next))

begun_by : (rules : Rules) (room : ℕ) (run : Run rules room) (n i t : ℕ) (r : FairMatch rules room run n) → i < n → r.begin n ≤ t → r.begin i ≤ t
begun_by rules room run n i t r less late =
    let e : i + (n - i) ≡ n = omega (arith, less) in
    let up_to = subst (λ (x : ℕ). r.begin i ≤ r.begin x) e (in_order rules room run n i (n - i) r (omega (arith, less))) in
    omega (arith, up_to, late)

-- who lacks frames lacked them before
lacked : (rules : Rules) (room : ℕ) (run : Run rules room) → Goes rules room run → (p t u : ℕ) → Stays rules room run p → t ≤ u
    → confirmed (known_by rules (run.world u) p) ≢ rules.frames → GoesOn rules (run.world t)
lacked rules room run goes p t u stays up_to lacks =
    let rises = (calm_keeps rules room run goes p p t u stays stays up_to).confirms in
    let few = few_confirmed rules room run goes u p stays in
    record {
      player = p;
      plays = stays.plays;
      undropped = undropped_at rules room run goes p t stays;
      lacks = λ all. lacks (omega (arith, rises, few, all));
    }

-- p has confirmed all frames, if it has after rounds with all turns
pub ends_by : (rules : Rules) (room : ℕ) (run : Run rules room) → Goes rules room run → (n p t : ℕ) (r : FairMatch rules room run n) → r.begin n ≤ t
    → Stays rules room run p
    → ((fair : FairRounds rules room run n) → fair.begin n ≤ t → confirmed (known_by rules (run.world t) p) ≡ rules.frames)
    → confirmed (known_by rules (run.world t) p) ≡ rules.frames
ends_by rules room run goes n p t r late stays ends =
    elim (cases_eq (confirmed (known_by rules (run.world t) p)) rules.frames) [
      | inl all ↦ all
      | inr lacks ↦
          let fair : FairRounds rules room run n = record {
            begin = r.begin;
            speak = r.speak;
            turns = λ i q less plays undropped. r.turns i q less
                (lacked rules room run goes p (r.begin i) t stays (begun_by rules room run n i t r less late) lacks) plays undropped;
          } in
          ends fair late
    ]
