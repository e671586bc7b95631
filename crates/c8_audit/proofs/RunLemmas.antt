-- A run of confirmed rows, with one more of them.
use Rattle.std.proofs.Common.{◌≡◌, ℕ, ◌+◌, inl, inr, List, [], ◌∷◌, ◌++◌, map, ap, subst, ◌∙◌, arith}
use Rattle.std.specs.List.{range_with_len}
use Rattle.std.proofs.lemmas.Bool.{cases_lt}
use Rattle.std.proofs.lemmas.List.{map-append}
use Rattle.c8_game.specs.Rules.{Rules}
use Rattle.c8_machine.specs.Serial.{serial}
use Rattle.c8_machine.specs.State.{State}
use Rattle.c8_digest.specs.StateBytes.{mark_of}
use Rattle.c8_known.specs.Known.{KnownValue}
use Rattle.c8_known.specs.Confirmed.{row, rows_below}
use Rattle.c8_known.specs.checked.ConfirmedLaws.{range_more}
use Rattle.c8_audit.specs.Marked.{HasMark, HaveMarksBelow}

pub row_more : (k : KnownValue) (frame : ℕ) → rows_below k (frame + 1) ≡ rows_below k frame ++ row k frame ∷ []
row_more k frame =
    let at : 0 + frame ≡ frame = omega arith in
    ap (map (row k)) (range_more 0 frame 1) ∙ map-append (row k) (range_with_len 0 frame) (range_with_len (0 + frame) 1)
    ∙ ap (λ (n : ℕ). rows_below k frame ++ row k n ∷ []) at

-- the mark of one more frame
pub have_more : (rules : Rules) (k : KnownValue) (frames : ℕ) (marks : List ℕ) (frame : ℕ) (machine : State)
    → machine ≡ serial rules (rows_below k frame)
    → HaveMarksBelow rules k frames marks frame → HasMark frames marks frame (mark_of machine) → HaveMarksBelow rules k frames marks (frame + 1)
have_more rules k frames marks frame machine run before here at below =
    elim (cases_lt at frame) [
      | inl less ↦ before at less
      | inr more ↦
          let same : frame ≡ at = omega (arith, below, more) in
          subst (λ (n : ℕ). HasMark frames marks n (mark_of (serial rules (rows_below k n)))) same
          (subst (λ (s : State). HasMark frames marks frame (mark_of s)) run here)
    ]
