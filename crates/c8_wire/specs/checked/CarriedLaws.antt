-- Checked, not believed: how many inputs one datagram carries.
use Rattle.std.proofs.Common.{◌≡◌, ℕ, ◌<◌, ◌≤◌, true, List, [], ◌∷◌, length, take, refl, sym, ap, ◌∙◌, inl, inr, arith}
use Rattle.std.specs.Prelude.{nat_le}
use Rattle.std.proofs.lemmas.Bool.{cases_lt, le-leb, leb-true, and_parts}
use Rattle.std.proofs.lemmas.List.{length-take, take_all}
use Rattle.c8_game.specs.declared.wire.WireVersion.{WireVersion}
use Rattle.c8_game.specs.declared.wire.WireVersion.TheVariants as versions
use Rattle.c8_pairs.specs.declared.pair.Pair.{Pair}
use Rattle.c8_pairs.specs.Pairs.{pairs_of}
use Rattle.c8_pairs.specs.checked.PairLaws.{no_pairs, count_pairs}
use Rattle.c8_wire.specs.Sizes.{longest_run, most_pairs}
use Rattle.c8_wire.specs.Packet.{has_few_stretches}
use Rattle.c8_wire.specs.Carried.{are_carried, fits_in, carried}
use Rattle.c8_wire.specs.checked.GreatestLaws.{greatest_le, greatest_passes, greatest_is}

none_carried : (version : WireVersion) (words : List ℕ) → are_carried version (take 0 words) ≡ true
none_carried versions.One words = refl
none_carried versions.Two words = ap (λ (ps : List Pair). nat_le (length ps) most_pairs) (no_pairs [] refl)

-- the carried inputs fit
pub carried_passes : (version : WireVersion) (words : List ℕ) → are_carried version (carried version words) ≡ true
unfolding fits_in
carried_passes version words = greatest_passes (λ n. are_carried version (take n words)) (length words) (none_carried version words)

pub carried_few : (version : WireVersion) (words : List ℕ) → length (carried version words) ≤ longest_run
carried_few version words = leb-true (length (carried version words)) longest_run (and_parts _ _ (carried_passes version words)).0

pub carried_room : (version : WireVersion) (words : List ℕ) → has_few_stretches version (carried version words) ≡ true
carried_room version words = (and_parts (nat_le (length (carried version words)) longest_run) _ (carried_passes version words)).1

pub fits_within : (version : WireVersion) (words : List ℕ) → fits_in version words ≤ length words
unfolding fits_in
fits_within version words = greatest_le (λ n. are_carried version (take n words)) (length words)

pub fits_most : (version : WireVersion) (words : List ℕ) (n : ℕ) → n ≤ length words → are_carried version (take n words) ≡ true
    → n ≤ fits_in version words
unfolding fits_in
fits_most version words n within passes = greatest_is (λ k. are_carried version (take k words)) (length words) n within passes

-- the number carried is the greatest that fits
pub fits_is : (version : WireVersion) (words : List ℕ) (n : ℕ) → n ≤ length words → are_carried version (take n words) ≡ true
    → ((k : ℕ) → k ≤ length words → are_carried version (take k words) ≡ true → k ≤ n) → n ≡ fits_in version words
fits_is version words n within passes most =
    let above = fits_most version words n within passes in
    let below = most (fits_in version words) (fits_within version words) (carried_passes version words) in
    omega (arith, above, below)

-- a number of inputs fits if it is at most 64 and they have few enough stretches
pub few_carried : (version : WireVersion) (words : List ℕ) (n : ℕ) → n ≤ longest_run → has_few_stretches version (take n words) ≡ true
    → are_carried version (take n words) ≡ true
few_carried version words n few room = rw (le-leb (length (take n words)) longest_run (omega (arith, length-take n words, few))) room

-- in version 1 the first 64 fit
few_of_words : (words : List ℕ) (n : ℕ) → n ≤ length words → are_carried versions.One (take n words) ≡ true → n ≤ longest_run
few_of_words words n within passes =
    let few = leb-true (length (take n words)) longest_run (and_parts _ _ passes).0 in
    omega (arith, few, length-take n words, within)

pub fits_words : (words : List ℕ) (n : ℕ) → n ≤ length words → n ≤ longest_run → (n < longest_run → n ≡ length words) → n ≡ fits_in versions.One words
fits_words words n within few all =
    fits_is versions.One words n within (few_carried versions.One words n few refl)
    (λ k low passes. elim (cases_lt n longest_run) [
      | inl below ↦ omega (arith, all below, low)
      | inr full ↦ omega (arith, full, few_of_words words k low passes)
    ])

pub carried_words : (words : List ℕ) → carried versions.One words ≡ take longest_run words
carried_words words =
    elim (cases_lt (length words) longest_run) [
      | inl short ↦
          let same = fits_words words (length words) (omega arith) (omega (arith, short)) (λ below. refl) in
          ap (λ (n : ℕ). take n words) (sym same) ∙ take_all (length words) words (omega arith)
          ∙ sym (take_all longest_run words (omega (arith, short)))
      | inr long ↦
          let same = fits_words words longest_run long (omega arith) (λ below. absurd (omega (arith, below))) in
          ap (λ (n : ℕ). take n words) (sym same)
    ]

one_carried : (version : WireVersion) (words : List ℕ) → are_carried version (take 1 words) ≡ true
one_carried versions.One [] = refl
one_carried versions.One (word ∷ words) = refl
one_carried versions.Two [] = ap (λ (ps : List Pair). nat_le (length ps) most_pairs) (no_pairs [] refl)
one_carried versions.Two (word ∷ words) = ap (λ (n : ℕ). nat_le n most_pairs) (sym (count_pairs (word ∷ [])))

pub carried_most : (version : WireVersion) (words : List ℕ) (n : ℕ) → n ≤ length words → are_carried version (take n words) ≡ true
    → n ≤ length (carried version words)
carried_most version words n within passes =
    omega (arith, length-take (fits_in version words) words, fits_most version words n within passes, within)

-- one input is always carried
pub some_carried : (version : WireVersion) (words : List ℕ) → 0 < length words → 0 < length (carried version words)
some_carried version words some =
    let first = fits_most version words 1 some (one_carried version words) in
    omega (arith, length-take (fits_in version words) words, first, some)

-- in version 2 the number is the greatest with few enough inputs and stretches
pub fits_pairs : (words : List ℕ) (n : ℕ) → n ≤ length words → n ≤ longest_run → length (pairs_of (take n words)) ≤ most_pairs
    → ((k : ℕ) → k ≤ length words → k ≤ longest_run → length (pairs_of (take k words)) ≤ most_pairs → k ≤ n) → n ≡ fits_in versions.Two words
fits_pairs words n within few pairs most =
    fits_is versions.Two words n within (few_carried versions.Two words n few (le-leb (length (pairs_of (take n words))) most_pairs pairs))
    (λ k low passes.
    let both = and_parts (nat_le (length (take k words)) longest_run) _ passes in
    let short = leb-true (length (take k words)) longest_run both.0 in
    most k low (omega (arith, short, length-take k words, low)) (leb-true (length (pairs_of (take k words))) most_pairs both.1))
