-- The rows before a step's first frame are best rows already, so to go back there and run the rest is one run.
use Rattle.std.proofs.Common.{◌≡◌, ◌+◌, List, length, Some, ap, sym, ◌∙◌, arith}
use Rattle.c8_game.specs.declared.row.Row.{Row}
use Rattle.c8_embed.specs.Steps.{run}
use Rattle.c8_embed.proofs.StepsLemmas.{best_length, best_confirmed, step_resumes, state_now, step_first, window_suffices}
use Rattle.c8_embed.proofs.laws.an_engine_has_the_run.Goals as goal

pub returns-clause-kept : goal.returns-clause-kept
returns-clause-kept g c step start k most from count before after is = step_resumes step start k most from count before after is

pub returns-clause-now : goal.returns-clause-now
returns-clause-now g c step start k most from count before after is fewer =
    let all = is.all fewer in
    let long : length after ≡ from + count = ap (λ (rows : List Row). length rows) is.given ∙ best_length k (from + count) in
    state_now step start k most from count k.ticks before after is (omega (arith, long, all))

pub returns-clause-stays : goal.returns-clause-stays
returns-clause-stays g c step start k most from count n before after is confirmed_is within =
    state_now step start k most from count n before after is within
    ∙ ap (λ (rows : List Row). Some (run step start rows)) (best_confirmed k n confirmed_is)

pub returns-clause-same : goal.returns-clause-same
unfolding returns-clause-stays
returns-clause-same g c step start k j most from count more since given n before after earlier later is other known long there far same =
    returns-clause-stays g c step start k most from count n before after is known long
    ∙ ap (λ (rows : List Row). Some (run step start rows)) same
    ∙ sym (returns-clause-stays g c step start j more since given n earlier later other there far)

pub returns-clause-back : goal.returns-clause-back
returns-clause-back g c k j most from count more since given n before after later is next known there long same =
    step_first k j most from count more since given n before after later is next known there long same

pub returns-clause-window : goal.returns-clause-window
returns-clause-window g c k j window most from count more since given before after later is next ahead rises same =
    window_suffices k j window most from count more since given before after later is next ahead rises same
