-- Rows that are given from a frame on, and the states of an engine that runs them.
use Rattle.std.proofs.Common.{◌≡◌, ℕ, zero, suc, ◌+◌, ◌<◌, ◌≤◌, List, [], ◌∷◌, ◌++◌, length, take, drop, get_or, Some, inl, inr, refl, sym, ap}
use Rattle.std.proofs.Common.{◌∙◌, arith}
use Rattle.std.specs.List.{slice_get}
use Rattle.std.proofs.Math.Seq.{take-suc}
use Rattle.std.proofs.lemmas.Bool.{cases_lt}
use Rattle.std.proofs.lemmas.Option.{slice_get-get_or}
use Rattle.std.proofs.lemmas.List.FromFn.{length-map-range_with_len, take-map-range_with_len, map-range_with_len_more, get_or-map-range_with_len}
use Rattle.c8_game.specs.declared.row.Row.{Row}
use Rattle.c8_game.specs.Rules.{Rules}
use Rattle.c8_known.specs.Journal.{Record, ticks}
use Rattle.c8_known.specs.Known.{KnownValue, known_of}
use Rattle.c8_known.specs.Confirmed.{confirmed, row, rows_below, best_row, best_rows_below}
use Rattle.c8_known.specs.checked.ConfirmedLaws.{map_same, best_of_confirmed, confirmed_is}
use Rattle.c8_embed.specs.Steps.{StepsValue, IsTrueTo, IsFirstChange, run, states, goes_back, IsStepped}

-- the state at a frame is the run of the rows before it
pub state_at : {S : Type 0} (step : S → Row → S) (s : S) (rows : List Row) (n : ℕ) → n ≤ length rows
    → slice_get (states step s rows) n ≡ Some (run step s (take n rows))
state_at step s [] zero within = refl
state_at step s (row ∷ rows) zero within = refl
state_at step s [] (suc n) within = absurd (omega (arith, within))
state_at step s (row ∷ rows) (suc n) within = state_at step (step s row) rows n (omega (arith, within))

-- an engine that goes back to a frame up to which two lists of rows are the same has the states of the second one
pub resumed : {S : Type 0} (step : S → Row → S) (s : S) (before after : List Row) (from : ℕ) → from ≤ length before → from ≤ length after
    → take from before ≡ take from after → goes_back step (states step s before) from (drop from after) ≡ states step s after
resumed step s [] after zero within_before within_after same = refl
resumed step s (b ∷ before) after zero within_before within_after same = refl
resumed step s [] after (suc n) within_before within_after same = absurd (omega (arith, within_before))
resumed step s (b ∷ before) [] (suc n) within_before within_after same = absurd (omega (arith, within_after))
resumed {S = S} step s (b ∷ before) (a ∷ after) (suc n) within_before within_after same =
    let head : b ≡ a = cc in
    let tail : take n before ≡ take n after = cc in
    ap (λ (rest : List S). s ∷ rest)
    (resumed step (step s b) before after n (omega (arith, within_before)) (omega (arith, within_after)) tail
    ∙ ap (λ (r : Row). states step (step s r) after) head)

pub best_length : (k : KnownValue) (n : ℕ) → length (best_rows_below k n) ≡ n
best_length k n = length-map-range_with_len (best_row k) 0 n

pub best_take : (k : KnownValue) (n m : ℕ) → n ≤ m → take n (best_rows_below k m) ≡ best_rows_below k n
best_take k n m within = take-map-range_with_len (best_row k) 0 m n within

-- below what is confirmed the best rows are the confirmed ones
pub best_confirmed : (k : KnownValue) (n : ℕ) → n ≤ confirmed k → best_rows_below k n ≡ rows_below k n
best_confirmed k n within = map_same (best_row k) (row k) 0 n (λ i to. best_of_confirmed k i (omega (arith, to, within)))

pub step_resumes : {S : Type 0} (step : S → Row → S) (start : S) (k : KnownValue) (most from count : ℕ) (before after : List Row)
    → IsStepped k most before after from count → goes_back step (states step start before) from (drop from after) ≡ states step start after
step_resumes step start k most from count before after is =
    let long : length after ≡ from + count = ap (λ (rows : List Row). length rows) is.given ∙ best_length k (from + count) in
    let front : take from after ≡ best_rows_below k from = ap (take from) is.given ∙ best_take k from (from + count) (omega arith) in
    resumed step start before after from is.first.within (omega (arith, long)) (is.first.same ∙ sym front)

pub state_now : {S : Type 0} (step : S → Row → S) (start : S) (k : KnownValue) (most from count n : ℕ) (before after : List Row)
    → IsStepped k most before after from count → n ≤ length after
    → slice_get (states step start after) n ≡ Some (run step start (best_rows_below k n))
state_now step start k most from count n before after is within =
    let long : length after ≡ from + count = ap (λ (rows : List Row). length rows) is.given ∙ best_length k (from + count) in
    let front : take n after ≡ best_rows_below k n = ap (take n) is.given ∙ best_take k n (from + count) (omega (arith, long, within)) in
    state_at step start after n within ∙ ap (λ (rows : List Row). Some (run step start rows)) front

-- ---- the rows that are looked at

pub best_next : (k : KnownValue) (n : ℕ) → best_rows_below k (n + 1) ≡ best_rows_below k n ++ best_row k n ∷ []
best_next k n = map-range_with_len_more (best_row k) 0 n n (omega arith)

pub same_next : (k : KnownValue) (given : List Row) (n : ℕ) (d : Row) → n < length given → take n given ≡ best_rows_below k n
    → get_or given n d ≡ best_row k n → take (n + 1) given ≡ best_rows_below k (n + 1)
same_next k given n d within same here =
    let more : n + 1 ≡ suc n = omega arith in
    ap (λ (m : ℕ). take m given) more ∙ take-suc given n d within
    ∙ ap (λ (rows : List Row). rows ++ get_or given n d ∷ []) same ∙ ap (λ (r : Row). best_rows_below k n ++ r ∷ []) here ∙ sym (best_next k n)

pub settled_ticked : (k : KnownValue) (s : StepsValue) → IsTrueTo k s → s.settled ≤ k.ticks
settled_ticked k s is =
    let ticked = (confirmed_is k).ticked in
    let within = is.confirmed_is in
    omega (arith, ticked, within)

-- ---- a step goes back to no row that was given as confirmed

got_taken : {X : Type 0} (xs : List X) (n i : ℕ) → i < n → slice_get (take n xs) i ≡ slice_get xs i
got_taken xs zero i less = absurd (omega (arith, less))
got_taken [] (suc n) i less = refl
got_taken (x ∷ xs) (suc n) zero less = refl
got_taken (x ∷ xs) (suc n) (suc i) less = got_taken xs n i (omega (arith, less))

-- a row that was given as confirmed is the best row still
settled_row : (k : KnownValue) (s : StepsValue) (i : ℕ) → IsTrueTo k s → i < s.settled → slice_get s.given i ≡ Some (best_row k i)
settled_row k s i is less =
    let long : length (best_rows_below k s.settled) ≡ s.settled = best_length k s.settled in
    let here : get_or (best_rows_below k s.settled) i (best_row k i) ≡ best_row k i =
    get_or-map-range_with_len (best_row k) 0 s.settled i i (best_row k i) less (omega arith) in
    sym (got_taken s.given s.settled i less) ∙ ap (λ (rows : List Row). slice_get rows i) is.settled_is
    ∙ slice_get-get_or (best_rows_below k s.settled) i (best_row k i) (omega (arith, less, long)) ∙ ap (λ (r : Row). Some r) here

pub settled_first : (k : KnownValue) (s : StepsValue) (from : ℕ) → IsTrueTo k s → IsFirstChange k s.given from → s.settled ≤ from
settled_first k s from is first =
    elim (cases_lt from s.settled) [
      | inl less ↦
          let ticks = settled_ticked k s is in
          let long = is.within in
          absurd (first.differs (omega (arith, less, long)) (omega (arith, less, ticks)) (settled_row k s from is less))
      | inr past ↦ past
    ]

-- The rows of confirmed frames that a step gave are the best rows still if the confirmed ones stay, so the next step begins after them.
pub step_first : (k j : KnownValue) (most from count more since given n : ℕ) (before after later : List Row)
    → IsStepped k most before after from count → IsStepped j more after later since given
    → n ≤ confirmed k → n ≤ confirmed j → n ≤ length after → rows_below k n ≡ rows_below j n → n ≤ since
step_first k j most from count more since given n before after later is next known there long same =
    let all : length after ≡ from + count = ap (λ (rows : List Row). length rows) is.given ∙ best_length k (from + count) in
    let front : take n after ≡ best_rows_below k n = ap (take n) is.given ∙ best_take k n (from + count) (omega (arith, all, long)) in
    let s : StepsValue = record { given = after; settled = n; room = length after } in
    settled_first j s since (record {
      confirmed_is = there;
      within = long;
      settled_is = front ∙ best_confirmed k n known ∙ same ∙ sym (best_confirmed j n there);
    }) next.first

rows_take : (k : KnownValue) (n m : ℕ) → n ≤ m → take n (rows_below k m) ≡ rows_below k n
rows_take k n m within = take-map-range_with_len (row k) 0 m n within

-- so it goes back by a window at most
pub window_suffices : (k j : KnownValue) (window most from count more since given : ℕ) (before after later : List Row)
    → IsStepped k most before after from count → IsStepped j more after later since given
    → k.ticks ≤ confirmed k + window → confirmed k ≤ confirmed j → rows_below k (confirmed k) ≡ rows_below j (confirmed k)
    → length after ≤ since + window
window_suffices k j window most from count more since given before after later is next ahead rises same =
    let all : length after ≡ from + count = ap (λ (rows : List Row). length rows) is.given ∙ best_length k (from + count) in
    let ticked = is.ticked in
    elim (cases_lt (length after) (confirmed k)) [
      | inl less ↦
          let known : length after ≤ confirmed k = omega (arith, less) in
          let there : length after ≤ confirmed j = omega (arith, known, rises) in
          let rows : rows_below k (length after) ≡ rows_below j (length after) =
          sym (rows_take k (length after) (confirmed k) known) ∙ ap (take (length after)) same
          ∙ rows_take j (length after) (confirmed k) known in
          let back = step_first k j most from count more since given (length after) before after later is next known there (omega arith) rows in
          omega (arith, back)
      | inr past ↦
          let back = step_first k j most from count more since given (confirmed k) before after later is next (omega arith) rises past same in
          omega (arith, back, ahead, ticked, all)
    ]

pub ticked : (rules : Rules) (me : ℕ) (journal : List Record) → ticks journal ≡ (known_of rules me journal).ticks
unfolding known_of
ticked rules me journal = refl
