-- An input was entered, or it was not.
use Rattle.std.proofs.Common.{◌≡◌, ◌≢◌, ℕ, ◌<◌, ◌≤◌, ◌⊎◌, inl, inr, ⊎_elim, Option, Some, None, refl, sym, ap, subst, ◌∙◌, arith}
use Rattle.std.specs.List.{slice_get}
use Rattle.std.proofs.lemmas.Bool.{cases_lt, cases_eq}
use Rattle.c8_game.specs.Rules.{Rules}
use Rattle.c8_known.specs.Known.{KnownValue, player_in, Plays}
use Rattle.c8_known.specs.Confirmed.{input_of, confirmed}
use Rattle.c8_known.specs.checked.ConfirmedLaws.{confirmed_is, some_value}
use Rattle.c8_audit.specs.Frames.{WasEntered}
use Rattle.c8_audit.specs.Journals.{AllSeen, cut_in, AreOfGame}
use Rattle.c8_audit.specs.Verdicts.{AreEntered, IsUnentered}
use Rattle.c8_audit.proofs.GivenLemmas.{plays_first}

some_same : {X : Type 0} (x y : X) → Some x ≡ Some y → x ≡ y
some_same x y same = cc

is_or_not : (o : Option ℕ) (word : ℕ) → (o ≡ Some word) ⊎ (o ≢ Some word)
is_or_not None word = inr (λ e. cc)
is_or_not (Some input) word = elim (cases_eq input word) [ inl same ↦ inl (ap Some same) | inr apart ↦ inr (λ e. apart (some_same input word e)) ]

abbrev IsPast : Option ℕ → ℕ → ℕ → Type 0
IsPast cut frame word = (word ≡ 0) × (K : ℕ) × (cut ≡ Some K) × (K ≤ frame)

past_or_not : (cut : Option ℕ) (frame word : ℕ) → IsPast cut frame word ⊎ (IsPast cut frame word → ⊥)
past_or_not None frame word = inr (λ past. let none : None ≡ Some past.1 = past.2 in cc)
past_or_not (Some K) frame word =
    elim (cases_eq word 0) [
      | inl zero_word ↦ elim (cases_lt frame K) [
        | inl less ↦ inr (λ past. let same : K ≡ past.1 = some_same K past.1 past.2 in let from = past.3 in omega (arith, same, from, less))
        | inr more ↦ inl (zero_word, K, refl, more)
      ]
      | inr apart ↦ inr (λ past. apart past.0)
    ]

pub entered_or_not : (by : KnownValue) (cut : Option ℕ) (own : KnownValue) (q frame : ℕ) → Plays by q → frame < confirmed by
    → WasEntered by cut own q frame ⊎ (WasEntered by cut own q frame → ⊥)
entered_or_not by cut own q frame plays below =
    let has = some_value (input_of (player_in by q) frame) ((confirmed_is by).settled frame q below plays) in
    let word : ℕ = has.0 in
    elim (is_or_not (slice_get (player_in own q).held frame) word) [
      | inl held ↦ inl (record { word = word; is = has.1; entered = inl held })
      | inr unheld ↦ elim (past_or_not cut frame word) [
        | inl past ↦ inl (record { word = word; is = has.1; entered = inr past })
        | inr never ↦ inr (λ e.
            let same : e.word ≡ word = some_same e.word word (sym e.is ∙ has.1) in
            ⊎_elim
            (λ held. unheld (held ∙ ap Some same))
            (λ past. never (subst (λ (w : ℕ). IsPast cut frame w) same past))
            e.entered)
      ]
    ]

pub entered_without : (rules : Rules) (all : AllSeen) → AreOfGame rules all → ((frame one other : ℕ) → IsUnentered all frame one other → ⊥)
    → AreEntered all
entered_without rules all of_game none p q frame by own by_given own_given below =
    let plays = plays_first rules all p q by own of_game by_given.from_one own_given.from_one by_given.is own_given.is in
    elim (entered_or_not by.first (cut_in all q) own.later q frame plays below) [
      | inl entered ↦ entered
      | inr never ↦ absurd (none frame q p (record { by = by; own = own; by_given = by_given; own_given = own_given; below = below; never = never }))
    ]
