-- Calls do not change where a peer's machine began.
use Rattle.std.proofs.Common.{◌≡◌, ℕ, ◌^◌, ◌<◌, ◌≤◌, List, [], ◌∷◌, map, false, Option, Some, None, refl, sym, ap, ◌∙◌}
use Rattle.c8_game.specs.Rules.{Rules, AreInRange}
use Rattle.c8_known.specs.Journal.{Record}
use Rattle.c8_known.specs.Known.{known_of}
use Rattle.c8_record.specs.Checks.{begun_at}
use Rattle.c8_peer.specs.Told.{told_of}
use Rattle.c8_peer.specs.State.{Mode, Open, Down, Away, State, Call, Reply}
use Rattle.c8_peer.specs.Steps.{outcome, DiskOutcome, Works, Refuses, done, at_mode}
use Rattle.c8_peer.specs.Runs.{Does, After, IsRun, IsLawful}
use Rattle.c8_peer.proofs.PlainLemmas.{keeps_begun}
use Rattle.c8_peer.proofs.RunLemmas.{run_lawful}

done_begins : (rules : Rules) (room me : ℕ) (s : State) (call : Call) (keeps : Option Record) (on_disk : DiskOutcome) → AreInRange rules
    → 1 ≤ me → me ≤ rules.players → IsLawful rules room me s → s.mode ≡ Open
    → (outcome rules (told_of rules me s.journal) (known_of rules me s.journal) s.memory call).keeps ≡ keeps
    → begun_at rules (done s call (outcome rules (told_of rules me s.journal) (known_of rules me s.journal) s.memory call) keeps
    on_disk).state.journal ≡ begun_at rules s.journal
done_begins rules room me s call None on_disk range from to lawful up keeps = refl
done_begins rules room me s call (Some r) Works range from to lawful up keeps =
    keeps_begun rules me room s.journal s.memory call r range from to (lawful.journal false) (lawful.memory up) keeps
done_begins rules room me s call (Some r) (Refuses why) range from to lawful up keeps = refl

mode_begins : (rules : Rules) (room me : ℕ) (s : State) (call : Call) (on_disk : DiskOutcome) (mode : Mode) → AreInRange rules → 1 ≤ me
    → me ≤ rules.players → IsLawful rules room me s → s.mode ≡ mode
    → begun_at rules (at_mode s call (outcome rules (told_of rules me s.journal) (known_of rules me s.journal) s.memory call) mode
    on_disk).state.journal ≡ begun_at rules s.journal
mode_begins rules room me s call on_disk Open range from to lawful up =
    done_begins rules room me s call (outcome rules (told_of rules me s.journal) (known_of rules me s.journal) s.memory call).keeps on_disk
    range from to lawful up refl
mode_begins rules room me s call on_disk Down range from to lawful down = refl
mode_begins rules room me s call on_disk Away range from to lawful gone = refl

pub run_begins : (rules : Rules) (room me : ℕ) (s t : State) (calls : List (Call × DiskOutcome)) (answers : List (Option Reply))
    → AreInRange rules → 1 ≤ me → me ≤ rules.players → room < 2 ^ 64 → IsLawful rules room me s
    → IsRun rules room me s (map (λ call. Does call.0 call.1) calls) answers t → begun_at rules t.journal ≡ begun_at rules s.journal
run_begins rules room me s t [] [] range from to low lawful same = ap (λ (x : State). begun_at rules x.journal) same
run_begins rules room me s t [] (answer ∷ answers) range from to low lawful none = absurd none
run_begins rules room me s t (call ∷ calls) [] range from to low lawful none = absurd none
run_begins rules room me s t (call ∷ calls) (answer ∷ answers) range from to low lawful (u, is, run) =
    run_begins rules room me u t calls answers range from to low
    (run_lawful rules room me s u (Does call.0 call.1 ∷ []) (answer ∷ []) range from to low lawful (u, is, refl)) run
    ∙ ap (λ (a : After). begun_at rules a.state.journal) (sym is.is)
    ∙ mode_begins rules room me s call.0 call.1 s.mode range from to lawful refl
