-- Frames that are run one after another, and what stays the same when more is known.
use Rattle.std.proofs.Common.{◌≡◌, ◌≢◌, ℕ, ◌+◌, ◌*◌, ◌/◌, ◌%◌, ◌-◌, ◌≤◌, List, [], ◌∷◌, ◌++◌, map, sym, ap, ◌∙◌, append_assoc, arith}
use Rattle.std.specs.List.{range_with_len}
use Rattle.std.proofs.lemmas.List.{append-nil}
use Rattle.std.proofs.lemmas.List.FromFn.{map-range_with_len_more}
use Rattle.c8_game.specs.Rules.{Rules}
use Rattle.c8_game.specs.declared.row.Row.{Row}
use Rattle.c8_digest.specs.declared.marks.FrameMark.{FrameMark}
use Rattle.c8_digest.specs.StateBytes.{mark_of}
use Rattle.c8_digest.specs.Marks.{kept}
use Rattle.c8_digest.specs.Origin.{Origin, run_since}
use Rattle.c8_known.specs.Known.{KnownValue}
use Rattle.c8_known.specs.Confirmed.{confirmed, row, rows_below, best_row, best_rows_below}
use Rattle.c8_known.specs.Growth.{IsStillKnown}
use Rattle.c8_known.specs.checked.ConfirmedLaws.{map_same, confirmed_rises, row_stays, best_of_confirmed}
use Rattle.c8_roll.specs.Roll.{mark_since, marks_since, RollValue, roll_since}

pub rows_next : (k : KnownValue) (n : ℕ) → rows_below k (n + 1) ≡ rows_below k n ++ row k n ∷ []
rows_next k n = map-range_with_len_more (row k) 0 n n (omega arith)

pub best_next : (k : KnownValue) (n : ℕ) → best_rows_below k (n + 1) ≡ best_rows_below k n ++ best_row k n ∷ []
best_next k n = map-range_with_len_more (best_row k) 0 n n (omega arith)

-- ---- marks

abbrev later_marks : Rules → Origin → KnownValue → ℕ → List FrameMark
later_marks rules from k count = map (λ i. mark_since rules from k (32 * i)) (range_with_len (from.frames / 32 + 1) count)

pub no_mark : (rules : Rules) (from : Origin) (k : KnownValue) (n : ℕ) → (n + 1) % 32 ≢ 0
    → marks_since rules from k (n + 1) ≡ marks_since rules from k n
no_mark rules from k n apart =
    let same : (n + 1) / 32 ≡ n / 32 = omega (arith, apart) in
    ap (λ (m : ℕ). kept (from.marks ++ later_marks rules from k (m - from.frames / 32))) same

pub next_mark : ((put : List FrameMark) (m : FrameMark) → kept (kept put ++ m ∷ []) ≡ kept (put ++ m ∷ []))
    → (rules : Rules) (from : Origin) (k : KnownValue) (n : ℕ) → from.frames ≤ n → (n + 1) % 32 ≡ 0
    → marks_since rules from k (n + 1) ≡ kept (marks_since rules from k n ++ mark_since rules from k (n + 1) ∷ [])
next_mark law rules from k n starts here =
    let marks : ℕ → FrameMark = λ i. mark_since rules from k (32 * i) in
    let first : ℕ = from.frames / 32 + 1 in
    let count : ℕ = n / 32 - from.frames / 32 in
    let up : (n + 1) / 32 - from.frames / 32 ≡ count + 1 = omega (arith, here, starts) in
    let at : first + count ≡ n / 32 + 1 = omega (arith, starts) in
    let place : 32 * (n / 32 + 1) ≡ n + 1 = omega (arith, here) in
    ap (λ (m : ℕ). kept (from.marks ++ later_marks rules from k m)) up
    ∙ ap (λ (later : List FrameMark). kept (from.marks ++ later)) (map-range_with_len_more marks first count (n / 32 + 1) at)
    ∙ ap (λ (m : ℕ). kept (from.marks ++ (later_marks rules from k count ++ mark_since rules from k m ∷ []))) place
    ∙ ap kept (sym (append_assoc from.marks (later_marks rules from k count) (mark_since rules from k (n + 1) ∷ [])))
    ∙ sym (law (from.marks ++ later_marks rules from k count) (mark_since rules from k (n + 1)))

-- at the origin's number of frames the marks are the origin's
pub first_marks : (rules : Rules) (from : Origin) (k : KnownValue) → kept from.marks ≡ marks_since rules from k from.frames
first_marks rules from k =
    let none : from.frames / 32 - from.frames / 32 ≡ 0 = omega arith in
    ap kept (sym (append-nil from.marks)) ∙ ap (λ (count : ℕ). kept (from.marks ++ later_marks rules from k count)) (sym none)

-- ---- when more is known

pub rows_same : (old new : KnownValue) → IsStillKnown old new → (n : ℕ) → n ≤ confirmed old → rows_below new n ≡ rows_below old n
rows_same old new still n within = map_same (row new) (row old) 0 n (λ i to. row_stays old new still i (omega (arith, to, within)))

pub marks_same : (rules : Rules) (from : Origin) (old new : KnownValue) → IsStillKnown old new → (n : ℕ) → from.frames ≤ n
    → n ≤ confirmed old → marks_since rules from new n ≡ marks_since rules from old n
marks_same rules from old new still n starts within =
    let first : ℕ = from.frames / 32 + 1 in
    let count : ℕ = n / 32 - from.frames / 32 in
    ap (λ (later : List FrameMark). kept (from.marks ++ later))
    (map_same (λ i. mark_since rules from new (32 * i)) (λ i. mark_since rules from old (32 * i)) first count
    (λ i to. ap (λ (rows : List Row). record { frame = 32 * i; mark = mark_of (run_since rules from rows) })
    (rows_same old new still (32 * i) (omega (arith, to, starts, within)))))

-- the best guesses at confirmed frames are their rows
pub best_sure : (k : KnownValue) (n : ℕ) → n ≤ confirmed k → best_rows_below k n ≡ rows_below k n
best_sure k n sure = map_same (best_row k) (row k) 0 n (λ i to. best_of_confirmed k i (omega (arith, to, sure)))

-- ---- rolls

-- what was run before is still right
pub record IsStill (rules : Rules) (from : Origin) (now : KnownValue) (old : RollValue) : Type 0 where
  pub starts : from.frames ≤ old.confirmed
  pub order : old.confirmed ≤ confirmed now
  pub base : old.base ≡ run_since rules from (rows_below now old.confirmed)
  pub marks : old.marks ≡ marks_since rules from now old.confirmed

pub still_rolled : (rules : Rules) (from : Origin) (before now : KnownValue) (old : RollValue) → from.frames ≤ confirmed before
    → old ≡ roll_since rules from before → IsStillKnown before now → IsStill rules from now old
unfolding roll_since
still_rolled rules from before now old starts is still =
    let was : old.confirmed ≡ confirmed before = ap (λ (r : RollValue). r.confirmed) is in
    record {
      starts = omega (arith, was, starts);
      order = omega (arith, was, confirmed_rises before now still);
      base = ap (λ (r : RollValue). r.base) is ∙ ap (run_since rules from)
          (sym (rows_same before now still (confirmed before) (omega arith))) ∙ ap (λ (n : ℕ). run_since rules from (rows_below now n)) (sym was);
      marks = ap (λ (r : RollValue). r.marks) is ∙ sym (marks_same rules from before now still (confirmed before) starts (omega arith))
          ∙ ap (λ (n : ℕ). marks_since rules from now n) (sym was);
    }
