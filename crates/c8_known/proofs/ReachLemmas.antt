-- The number of confirmed frames is the least reach of all players, or the own ticks if these are fewer.
use Rattle.std.proofs.Common.{◌≡◌, ℕ, zero, suc, ◌+◌, ◌-◌, ◌<◌, ◌≤◌, ◌⊎◌, List, [], ◌∷◌, length, map, min, take, fold, true, false, Option}
use Rattle.std.proofs.Common.{Some, None, refl, sym, ap, subst, ◌∙◌, inl, inr, arith, slice_index_or}
use Rattle.std.specs.List.{slice_get}
use Rattle.std.proofs.Math.Nat.{min-le_left, min-le_right}
use Rattle.std.proofs.Math.Seq.{take-suc}
use Rattle.std.proofs.lemmas.Bool.{cases_lt, both_ways, le-leb, lt-leb}
use Rattle.std.proofs.lemmas.List.{get_or-map, length-map}
use Rattle.std.proofs.lemmas.List.Sums.{fold-append}
use Rattle.std.proofs.lemmas.Option.{slice_get-get_or, slice_get_past, slice_get_within}
use Rattle.c8_known.specs.declared.table.Table.{Table}
use Rattle.c8_known.specs.Known.{PlayerValue, KnownValue, nobody, player_in, Plays}
use Rattle.c8_known.specs.Confirmed.{past_cut, input_of, is_settled_of, confirmed, IsConfirmed}
use Rattle.c8_known.specs.checked.ConfirmedLaws.{input_held, confirmed_only}
use Rattle.c8_known.specs.Tables.{table_value, reach_to, reach_of, least_of}

pub least_more : (tables : List Table) (place bound : ℕ) (table : Table) → place < length tables → table ≡ slice_index_or tables place table
    → least_of (take (place + 1) (map table_value tables)) bound
    ≡ min (least_of (take place (map table_value tables)) bound) (reach_of (table_value table) bound)
least_more tables place bound table within is =
    let players : List PlayerValue = map table_value tables in
    let inside : place < length players = omega (arith, within, length-map tables table_value) in
    let next : place + 1 ≡ suc place = omega arith in
    let here : slice_index_or players place nobody ≡ table_value table =
    get_or-map table_value tables place table nobody within ∙ ap table_value (sym is) in
    rw (
      next,
      take-suc players place nobody inside,
      fold-append (λ least p. min least (reach_of p bound)) bound (take place players) (slice_index_or players place nobody ∷ []),
      here,
    ) refl

-- ---- one player's reach

settled_within : (p : PlayerValue) (frame : ℕ) → frame < length p.held → is_settled_of p frame ≡ true
settled_within p frame within = rw (input_held p frame (slice_index_or p.held frame 0) (slice_get-get_or p.held frame 0 within)) refl

past_held : (p : PlayerValue) (frame : ℕ) → length p.held ≤ frame → input_of p frame ≡ past_cut p.cut frame
unfolding input_of
past_held p frame past = rw (slice_get_past p.held frame past) refl

settled_past : (p : PlayerValue) (K frame : ℕ) → p.cut ≡ Some K → K ≤ frame → length p.held ≤ frame → is_settled_of p frame ≡ true
settled_past p K frame cut from past = rw (past_held p frame past, cut, le-leb K frame from) refl

reaches : (cut : Option ℕ) (p : PlayerValue) (bound frame : ℕ) → p.cut ≡ cut → frame < reach_to cut (length p.held) bound
    → is_settled_of p frame ≡ true
reaches None p bound frame is below = settled_within p frame below
reaches (Some K) p bound frame is below =
    elim (cases_lt frame (length p.held)) [
      | inl within ↦ settled_within p frame within
      | inr past ↦ elim (cases_lt (length p.held) K) [
        | inl short ↦ absurd (let least : reach_to (Some K) (length p.held) bound ≡ length p.held =
            rw (lt-leb K (length p.held) short) refl in omega (arith, below, least, past))
        | inr long ↦ settled_past p K frame is (omega (arith, long, past)) past
      ]
    ]

stops : (cut : Option ℕ) (p : PlayerValue) (bound : ℕ) → p.cut ≡ cut → reach_to cut (length p.held) bound < bound
    → is_settled_of p (reach_to cut (length p.held) bound) ≡ false
stops None p bound is below = rw (past_held p (length p.held) (omega arith), is) refl
stops (Some K) p bound is below =
    elim (cases_lt (length p.held) K) [
      | inl short ↦
          let least : reach_to (Some K) (length p.held) bound ≡ length p.held = rw (lt-leb K (length p.held) short) refl in
          rw (least, past_held p (length p.held) (omega arith), is, lt-leb K (length p.held) short) refl
      | inr long ↦ absurd (let all : reach_to (Some K) (length p.held) bound ≡ bound = rw (le-leb K (length p.held) long) refl in
          omega (arith, below, all))
    ]

-- ---- the least reach of all players

least_le : (players : List PlayerValue) (bound from : ℕ) → fold (λ least p. min least (reach_of p bound)) from players ≤ from
least_le [] bound from = omega arith
least_le (p ∷ players) bound from =
    let rest = least_le players bound (min from (reach_of p bound)) in
    let left = min-le_left from (reach_of p bound) in
    omega (arith, rest, left)

least_each : (players : List PlayerValue) (bound from place : ℕ) (p : PlayerValue) → slice_get players place ≡ Some p
    → fold (λ least p. min least (reach_of p bound)) from players ≤ reach_of p bound
least_each [] bound from place p is = absurd cc
least_each (x ∷ players) bound from zero p is =
    let same : x ≡ p = cc in
    let rest = least_le players bound (min from (reach_of x bound)) in
    let right = min-le_right from (reach_of x bound) in
    subst (λ (y : PlayerValue). fold (λ least p. min least (reach_of p bound)) from (x ∷ players) ≤ reach_of y bound) same
    (omega (arith, rest, right))
least_each (x ∷ players) bound from (suc place) p is = least_each players bound (min from (reach_of x bound)) place p is

-- it is the bound, or the reach of some player
least_one : (players : List PlayerValue) (bound from : ℕ) → (fold (λ least p. min least (reach_of p bound)) from players ≡ from)
    ⊎ ((place : ℕ) × (p : PlayerValue) × (slice_get players place ≡ Some p)
    × (fold (λ least p. min least (reach_of p bound)) from players ≡ reach_of p bound))
least_one [] bound from = inl refl
least_one (p ∷ players) bound from =
    elim (least_one players bound (min from (reach_of p bound))) [
      | inl first ↦ elim (cases_lt (reach_of p bound) from) [
        | inl less ↦ inr (0, p, refl, first ∙ omega (arith, less))
        | inr more ↦ inl (first ∙ omega (arith, more))
      ]
      | inr later ↦ inr (suc later.0, later.1, later.2, later.3)
    ]

pub least_confirmed : (k : KnownValue) → IsConfirmed k (least_of k.players k.ticks)
least_confirmed k = record {
  ticked = least_le k.players k.ticks k.ticks;
  settled = λ frame q below plays.
      let from = plays.from_one in
      let to = plays.in_game in
      let p : PlayerValue = player_in k q in
      let each = least_each k.players k.ticks k.ticks (q - 1) p (slice_get-get_or k.players (q - 1) nobody (omega (arith, from, to))) in
      reaches p.cut p k.ticks frame refl (omega (arith, below, each));
  no_greater = λ m entered settled. elim (least_one k.players k.ticks k.ticks) [
    | inl all ↦ omega (arith, all, entered)
    | inr one ↦
        let place : ℕ = one.0 in
        let p : PlayerValue = one.1 in
        elim (cases_lt (reach_of p k.ticks) m) [
          | inl past ↦
              let within = slice_get_within k.players place p one.2 in
              let plays : Plays k (place + 1) = record { from_one = omega arith; in_game = omega (arith, within) } in
              let at : place + 1 - 1 ≡ place = omega arith in
              let there : player_in k (place + 1) ≡ p = rw at (let found = slice_get-get_or k.players place nobody within in let is = one.2 in cc) in
              let has : is_settled_of p (reach_of p k.ticks) ≡ true =
              subst (λ (x : PlayerValue). is_settled_of x (reach_of p k.ticks) ≡ true) there
              (settled (reach_of p k.ticks) (place + 1) past plays) in
              absurd (both_ways (is_settled_of p (reach_of p k.ticks)) (stops p.cut p k.ticks refl (omega (arith, past, entered))) has)
          | inr least ↦ omega (arith, one.3, least)
        ]
  ];
}

pub least_is : (k : KnownValue) → least_of k.players k.ticks ≡ confirmed k
least_is k = confirmed_only k (least_of k.players k.ticks) (least_confirmed k)
