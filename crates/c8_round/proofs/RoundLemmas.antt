-- When a leaver may be cut, and what an answer changes.
use Rattle.std.proofs.Common.{◌≡◌, ◌≢◌, ℕ, ◌+◌, ◌-◌, ◌≤◌, ◌⊎◌, inl, inr, List, [], length, Bool, true, false, not, ◌&&◌, ◌||◌, Option, Some}
use Rattle.std.proofs.Common.{None, refl, sym, ap, ◌∙◌, subst, arith, slice_index_or, slice_set}
use Rattle.std.specs.Prelude.{max}
use Rattle.std.specs.List.{range_with_len, list_all, AllPass}
use Rattle.std.proofs.lemmas.Bool.{cases_eq, cases_lt, ne_eqb, leb-true, both_ways, false_from_ne_true}
use Rattle.std.proofs.lemmas.List.{get_or-set_same, get_or-set_other, get_or_past, length-set}
use Rattle.std.proofs.lemmas.List.FromFn.{length-range_with_len, get_or-range_with_len}
use Rattle.std.proofs.lemmas.List.Sums.{AllPass-from_list_all}
use Rattle.c8_known.specs.Known.{KnownValue, player_in, count_in, Plays}
use Rattle.c8_round.specs.Round.{HasAnswered, IsOldOrNew, ChairValue, report_of, with_report, raised, has_answered, is_stayer, is_ready}

and_true : (a b : Bool) → (a && b) ≡ true → (a ≡ true) × (b ≡ true)
and_true true b e = (refl, e)
and_true false b e = absurd cc

answered : (count : ℕ) (o : Option ℕ) → has_answered count o ≡ true → (held : ℕ) × (o ≡ Some held) × (held ≤ count)
answered count None e = absurd cc
answered count (Some held) e = (held, refl, leb-true held count e)

stays_true : (k : KnownValue) (q : ℕ) → q ≢ 1 → (player_in k q).leaving ≡ false → is_stayer k q ≡ true
stays_true k q other stays = rw (ne_eqb q 1 other, stays) refl

past_not : (a b : Bool) → a ≡ true → (not a || b) ≡ true → b ≡ true
past_not true b is e = e
past_not false b is e = absurd cc

pub ready_leaves : (c : ChairValue) (k : KnownValue) (leaver : ℕ) → is_ready c k leaver ≡ true → (player_in k leaver).leaving ≡ true
unfolding is_ready
ready_leaves c k leaver ready = (and_true (player_in k leaver).leaving _ ready).0

pub ready_answered : (c : ChairValue) (k : KnownValue) (leaver : ℕ) → is_ready c k leaver ≡ true
    → (q : ℕ) → Plays k q → q ≢ 1 → (player_in k q).leaving ≡ false → HasAnswered c k leaver q
unfolding is_ready
ready_answered c k leaver ready q plays other stays =
    let from = plays.from_one in
    let to = plays.in_game in
    let n : ℕ = length k.players in
    let test : ℕ → Bool = λ p. not (is_stayer k p) || has_answered (count_in k leaver) (report_of c leaver p) in
    let all : AllPass test (range_with_len 1 n) = AllPass-from_list_all test (range_with_len 1 n) (and_true (player_in k leaver).leaving _ ready).1 in
    let at : slice_index_or (range_with_len 1 n) (q - 1) 0 ≡ 1 + (q - 1) = get_or-range_with_len 1 n (q - 1) 0 (omega (arith, from, to)) in
    let here : test q ≡ true = subst (λ (p : ℕ). test p ≡ true) (at ∙ omega (arith, from))
    (all (q - 1) 0 (omega (arith, from, to, length-range_with_len 1 n))) in
    let told = answered (count_in k leaver) (report_of c leaver q) (past_not (is_stayer k q) _ (stays_true k q other stays) here) in
    record { held = told.0; told = told.1; few = told.2 }

max_is : (a b : ℕ) → (max a b ≡ a) ⊎ (max a b ≡ b)
max_is a b =
    elim (cases_lt a b) [
      | inl less ↦ inr (omega (arith, less))
      | inr least ↦ inl (omega (arith, least))
    ]

raised_is : (o : Option ℕ) (held n : ℕ) → raised o held ≡ Some n → (o ≡ Some n) ⊎ (n ≡ held)
raised_is None held n e = inr cc
raised_is (Some before) held n e =
    elim (max_is before held) [
      | inl old ↦ inl (cc (old, e))
      | inr new ↦ inr (cc (new, e))
    ]

-- an entry of a table after one was set
set_is : {X : Type 0} (xs : List X) (place other : ℕ) (x d : X) → (slice_index_or (slice_set xs place x) other d ≡ slice_index_or xs other d)
    ⊎ ((other ≡ place) × (slice_index_or (slice_set xs place x) other d ≡ x))
set_is xs place other x d =
    elim (cases_eq other place) [
      | inr apart ↦ inl (get_or-set_other xs place other x d apart)
      | inl same ↦ elim (cases_lt place (length xs)) [
        | inl within ↦ inr (same, rw same (get_or-set_same xs place x d within))
        | inr past ↦ inl (rw same (get_or_past (slice_set xs place x) place d (omega (arith, past, length-set xs place x))
            ∙ sym (get_or_past xs place d past)))
      ]
    ]

pub report_is : (c : ChairValue) (leaver stayer held l s n : ℕ) → report_of (with_report c leaver stayer held) l s ≡ Some n
    → IsOldOrNew c leaver stayer held l s n
report_is c leaver stayer held l s n e =
    let row : List (Option ℕ) = slice_index_or c.reports (leaver - 1) [] in
    let new : Option ℕ = raised (report_of c leaver stayer) held in
    elim (set_is c.reports (leaver - 1) (l - 1) (slice_set row (stayer - 1) new) []) [
      | inl old ↦ inl (sym (ap (λ (r : List (Option ℕ)). slice_index_or r (s - 1) None) old) ∙ e)
      | inr here ↦
          let at : slice_index_or (slice_set row (stayer - 1) new) (s - 1) None ≡ Some n =
          sym (ap (λ (r : List (Option ℕ)). slice_index_or r (s - 1) None) here.1) ∙ e in
          let rows : slice_index_or c.reports (l - 1) [] ≡ row = ap (λ (place : ℕ). slice_index_or c.reports place []) here.0 in
          elim (set_is row (stayer - 1) (s - 1) new None) [
            | inl kept ↦ inl (ap (λ (r : List (Option ℕ)). slice_index_or r (s - 1) None) rows ∙ sym kept ∙ at)
            | inr there ↦
                elim (raised_is (report_of c leaver stayer) held n (sym there.1 ∙ at)) [
                  | inl before ↦ inl (ap (λ (r : List (Option ℕ)). slice_index_or r (s - 1) None) rows
                      ∙ ap (λ (place : ℕ). slice_index_or row place None) there.0 ∙ before)
                  | inr now ↦ inr (here.0, there.0, now)
                ]
          ]
    ]

-- a test that fails for one number of a range fails for the range
pub fails_at : (test : ℕ → Bool) (n m : ℕ) → 1 ≤ m → m ≤ n → test m ≡ false → list_all test (range_with_len 1 n) ≡ false
fails_at test n m from to fails =
    false_from_ne_true (list_all test (range_with_len 1 n)) (λ all.
    let each : AllPass test (range_with_len 1 n) = AllPass-from_list_all test (range_with_len 1 n) all in
    let at : slice_index_or (range_with_len 1 n) (m - 1) 0 ≡ 1 + (m - 1) = get_or-range_with_len 1 n (m - 1) 0 (omega (arith, from, to)) in
    let here : test m ≡ true = subst (λ (p : ℕ). test p ≡ true) (at ∙ omega (arith, from))
    (each (m - 1) 0 (omega (arith, from, to, length-range_with_len 1 n))) in
    both_ways (test m) fails here)
