-- Checked, not believed: runs and their pairs.
use Rattle.std.proofs.Common.{inl, inr, ◌≡◌, ◌≢◌, ℕ, zero, suc, ◌+◌, ◌*◌, ◌/◌, ◌%◌, ◌^◌, ◌<◌, ◌==◌, ◌&&◌, List, [], ◌∷◌, ◌++◌, length}
use Rattle.std.proofs.Common.{get_or, drop, replicate, true, false, Option, Some, None, refl, sym, ap, ◌∙◌, arith, length-append}
use Rattle.std.specs.Prelude.{not}
use Rattle.std.proofs.lemmas.Bool.{cases_eq, eq-eqb, eqb-true, ne_eqb, and_parts, not-true}
use Rattle.std.proofs.lemmas.List.{length-replicate}
use Rattle.byteorder.specs.Endian.{big_bytes, big_number}
use Rattle.byteorder.specs.Numbers.{big_number-reads_back}
use Rattle.c8_pairs.specs.declared.pair.Pair.{Pair}
use Rattle.c8_pairs.specs.Pairs.{in_front, pairs_of, words_in, pairs_bytes, spelling}
use Rattle.c8_pairs.specs.Reading.{pairs_at, is_same, well_after, count_in, are_run, pairs_after}

-- ---- well formed pairs

-- ---- one input more in front

in_same : (word : ℕ) (p : Pair) (pairs : List Pair) → word ≡ p.keys
    → in_front word (p ∷ pairs) ≡ record { times = p.times + 1; keys = p.keys } ∷ pairs
in_same word p pairs same = rw (eq-eqb word p.keys same) refl

in_apart : (word : ℕ) (p : Pair) (pairs : List Pair) → word ≢ p.keys → in_front word (p ∷ pairs) ≡ record { times = 1; keys = word } ∷ p ∷ pairs
in_apart word p pairs apart = rw (ne_eqb word p.keys apart) refl

-- no inputs have no pairs
pub no_pairs : (words : List ℕ) → length words ≡ 0 → pairs_of words ≡ []
unfolding pairs_of
no_pairs [] none = refl
no_pairs (word ∷ words) none = absurd (omega (arith, none))

-- the pairs of inputs stand for these inputs
front_says : (word : ℕ) (pairs : List Pair) → words_in (in_front word pairs) ≡ word ∷ words_in pairs
front_says word [] = refl
front_says word (p ∷ pairs) =
    elim (cases_eq word p.keys) [
      | inl same ↦
          let more : p.times + 1 ≡ suc p.times = omega arith in
          rw (eq-eqb word p.keys same, more) (ap (λ (w : ℕ). w ∷ replicate p.times p.keys ++ words_in pairs) (sym same))
      | inr apart ↦ rw (ne_eqb word p.keys apart) refl
    ]

pub pairs_say : (words : List ℕ) → words_in (pairs_of words) ≡ words
unfolding pairs_of
pairs_say [] = refl
pairs_say (word ∷ words) = front_says word (pairs_of words) ∙ ap (λ (ws : List ℕ). word ∷ ws) (pairs_say words)

-- well formed pairs are the pairs of the inputs that they stand for
front_new : (keys : ℕ) (pairs : List Pair) → well_after (Some keys) pairs ≡ true → in_front keys pairs ≡ record { times = 1; keys = keys } ∷ pairs
front_new keys [] well = refl
front_new keys (p ∷ pairs) well =
    let apart = not-true (keys == p.keys) (and_parts (not (keys == p.keys)) (well_after (Some p.keys) pairs)
    (and_parts (not (p.times == 0)) (not (keys == p.keys) && well_after (Some p.keys) pairs) well).1).0 in
    rw apart refl

stretch : (keys k : ℕ) (words : List ℕ) → well_after (Some keys) (pairs_of words) ≡ true
    → pairs_of (replicate (suc k) keys ++ words) ≡ record { times = suc k; keys = keys } ∷ pairs_of words
unfolding pairs_of
stretch keys zero words well = front_new keys (pairs_of words) well
stretch keys (suc k) words well =
    let more : suc k + 1 ≡ suc (suc k) = omega arith in
    ap (in_front keys) (stretch keys k words well) ∙ in_same keys (record { times = suc k; keys = keys }) (pairs_of words) refl
    ∙ ap (λ (n : ℕ). record { times = n; keys = keys } ∷ pairs_of words) more

some_times : (n : ℕ) → not (n == 0) ≡ true → (k : ℕ) × (n ≡ suc k)
some_times zero e = absurd cc
some_times (suc k) e = (k, refl)

pub well_pairs : (last : Option ℕ) (pairs : List Pair) → well_after last pairs ≡ true → pairs_of (words_in pairs) ≡ pairs
well_pairs last [] well = no_pairs [] refl
well_pairs last (p ∷ pairs) well =
    let both = and_parts (not (p.times == 0)) (not (is_same last p.keys) && well_after (Some p.keys) pairs) well in
    let rest = (and_parts (not (is_same last p.keys)) (well_after (Some p.keys) pairs) both.1).1 in
    let some = some_times p.times both.0 in
    let again = well_pairs (Some p.keys) pairs rest in
    ap (λ (n : ℕ). pairs_of (replicate n p.keys ++ words_in pairs)) some.1
    ∙ stretch p.keys some.0 (words_in pairs) (ap (well_after (Some p.keys)) again ∙ rest)
    ∙ ap (λ (ps : List Pair). record { times = suc some.0; keys = p.keys } ∷ ps) again
    ∙ ap (λ (n : ℕ). record { times = n; keys = p.keys } ∷ pairs) (sym some.1)

pub well_none : (last : Option ℕ) (pairs : List Pair) → well_after last pairs ≡ true → well_after None pairs ≡ true
well_none last [] well = refl
well_none last (p ∷ pairs) well =
    let both = and_parts (not (p.times == 0)) (not (is_same last p.keys) && well_after (Some p.keys) pairs) well in
    let rest = (and_parts (not (is_same last p.keys)) (well_after (Some p.keys) pairs) both.1).1 in
    rw (both.0, rest) refl

pub well_tail : (last : Option ℕ) (p : Pair) (pairs : List Pair) → well_after last (p ∷ pairs) ≡ true → well_after None pairs ≡ true
well_tail last p pairs well =
    let both = and_parts (not (p.times == 0)) (not (is_same last p.keys) && well_after (Some p.keys) pairs) well in
    well_none (Some p.keys) pairs (and_parts (not (is_same last p.keys)) (well_after (Some p.keys) pairs) both.1).1

pub some_at : (last : Option ℕ) (p : Pair) (pairs : List Pair) → well_after last (p ∷ pairs) ≡ true → 0 < p.times
some_at last p pairs well =
    let some = some_times p.times (and_parts (not (p.times == 0)) (not (is_same last p.keys) && well_after (Some p.keys) pairs) well).0 in
    omega (arith, some.1)

-- ---- the pairs of inputs are well formed

not_zero : (n : ℕ) → not (suc n == 0) ≡ true
not_zero n = rw (ne_eqb (suc n) 0 (λ e. omega (arith, e))) refl

front_well : (word : ℕ) (pairs : List Pair) → well_after None pairs ≡ true → well_after None (in_front word pairs) ≡ true
front_well word [] well = refl
front_well word (p ∷ pairs) well =
    let rest = (and_parts (not (p.times == 0)) (not false && well_after (Some p.keys) pairs) well) in
    let tail : well_after (Some p.keys) pairs ≡ true = rest.1 in
    elim (cases_eq word p.keys) [
      | inl same ↦
          let more : p.times + 1 ≡ suc p.times = omega arith in
          rw (eq-eqb word p.keys same, more, not_zero p.times) tail
      | inr apart ↦ rw (ne_eqb word p.keys apart, ne_eqb word p.keys apart, rest.0) tail
    ]

pub well_of : (words : List ℕ) → well_after None (pairs_of words) ≡ true
unfolding pairs_of
well_of [] = refl
well_of (word ∷ words) = front_well word (pairs_of words) (well_of words)

front_count : (word : ℕ) (pairs : List Pair) → count_in (in_front word pairs) ≡ suc (count_in pairs)
front_count word [] = refl
front_count word (p ∷ pairs) =
    elim (cases_eq word p.keys) [
      | inl same ↦ rw (eq-eqb word p.keys same) (omega arith)
      | inr apart ↦ rw (ne_eqb word p.keys apart) (omega arith)
    ]

pub count_of : (words : List ℕ) → count_in (pairs_of words) ≡ length words
unfolding pairs_of
count_of [] = refl
count_of (word ∷ words) = front_count word (pairs_of words) ∙ ap suc (count_of words)

-- ---- bytes

-- key sets of 16 bits
abbrev AreSmall : List Pair → Type 0
AreSmall [] = Unit {0}
AreSmall (p ∷ pairs) = (p.keys < 2 ^ 16) × AreSmall pairs

front_small : (word : ℕ) (pairs : List Pair) → word < 2 ^ 16 → AreSmall pairs → AreSmall (in_front word pairs)
front_small word [] small all = (small, tt)
front_small word (p ∷ pairs) small all =
    elim (cases_eq word p.keys) [
      | inl same ↦ rw (eq-eqb word p.keys same) all
      | inr apart ↦ rw (ne_eqb word p.keys apart) (small, all)
    ]

small_of : (words : List ℕ) → ((i : ℕ) → get_or words i 0 < 2 ^ 16) → AreSmall (pairs_of words)
unfolding pairs_of
small_of [] small = tt
small_of (word ∷ words) small = front_small word (pairs_of words) (small 0) (small_of words (λ i. small (suc i)))

read_back : (pairs : List Pair) → AreSmall pairs → pairs_at (pairs_bytes pairs) ≡ pairs
unfolding pairs_at
read_back [] small = refl
read_back (p ∷ pairs) small =
    let whole : big_number 2 (big_bytes 2 p.keys) ≡ p.keys = big_number-reads_back 2 p.keys [] small.0 in
    let keys : get_or (big_bytes 2 p.keys) 0 0 * 256 + get_or (big_bytes 2 p.keys) 1 0 ≡ p.keys = omega (arith, whole) in
    ap (λ (k : ℕ). record { times = p.times; keys = k } ∷ pairs_at (pairs_bytes pairs)) keys
    ∙ ap (λ (ps : List Pair). p ∷ ps) (read_back pairs small.1)

-- the spelling of a run has its pairs
pub pairs_at-spelling : (words : List ℕ) → ((i : ℕ) → get_or words i 0 < 2 ^ 16) → pairs_at (spelling words) ≡ pairs_of words
pairs_at-spelling words small = read_back (pairs_of words) (small_of words small)

-- bytes in threes are the spelling of their pairs
pub spelled_pairs : (bytes : List ℕ) → length bytes % 3 ≡ 0 → ((i : ℕ) → get_or bytes i 0 < 2 ^ 8) → pairs_bytes (pairs_at bytes) ≡ bytes
unfolding pairs_at
spelled_pairs [] whole fits = refl
spelled_pairs (times ∷ []) whole fits = absurd (omega (arith, whole))
spelled_pairs (times ∷ high ∷ []) whole fits = absurd (omega (arith, whole))
spelled_pairs (times ∷ high ∷ low ∷ rest) whole fits =
    let first : (high * 256 + low) / 256 % 256 ≡ high = omega (arith, fits 1, fits 2) in
    let next : (high * 256 + low) % 256 ≡ low = omega (arith, fits 1, fits 2) in
    let others = spelled_pairs rest (omega (arith, whole)) (λ i. fits (suc (suc (suc i)))) in
    λ k. times ∷ first k ∷ next k ∷ others k

-- ---- how many pairs

-- Pairs with one input more in front begin with its key set.
record Begins (word : ℕ) (pairs : List Pair) : Type 0 where
  first : Pair
  rest : List Pair
  is : pairs ≡ first ∷ rest
  keys : first.keys ≡ word

front_begins : (word : ℕ) (pairs : List Pair) → Begins word (in_front word pairs)
front_begins word [] = record { first = record { times = 1; keys = word }; rest = []; is = refl; keys = refl }
front_begins word (p ∷ pairs) =
    elim (cases_eq word p.keys) [
      | inl same ↦ record {
        first = record { times = p.times + 1; keys = p.keys };
        rest = pairs;
        is = rw (eq-eqb word p.keys same) refl;
        keys = sym same;
      }
      | inr apart ↦ record { first = record { times = 1; keys = word }; rest = p ∷ pairs; is = rw (ne_eqb word p.keys apart) refl; keys = refl }
    ]

begins_with : (word : ℕ) (words : List ℕ) → Begins word (pairs_of (word ∷ words))
unfolding pairs_of
begins_with word words = front_begins word (pairs_of words)

-- an input that differs from the one before begins a new pair
apart_of : (keys word : ℕ) (words : List ℕ) → keys ≢ word → well_after (Some keys) (pairs_of (word ∷ words)) ≡ true
apart_of keys word words apart =
    let begins = begins_with word words in
    let well : well_after None (begins.first ∷ begins.rest) ≡ true = sym (ap (well_after None) begins.is) ∙ well_of (word ∷ words) in
    let both = and_parts (not (begins.first.times == 0)) (not false && well_after (Some begins.first.keys) begins.rest) well in
    let other : (keys == begins.first.keys) ≡ false = ne_eqb keys begins.first.keys (λ e. apart (e ∙ begins.keys)) in
    ap (well_after (Some keys)) begins.is ∙ rw (both.0, other) both.1

one_pair : (word : ℕ) → suc (pairs_after (Some word) []) ≡ length (in_front word (pairs_of []))
unfolding pairs_of
one_pair word = refl

opened : (word : ℕ) (words : List ℕ) → length (in_front word (pairs_of words)) ≡ length (pairs_of (word ∷ words))
unfolding pairs_of
opened word words = refl

more_pairs : (word : ℕ) (words : List ℕ) → suc (pairs_after (Some word) words) ≡ length (in_front word (pairs_of words))
more_pairs word [] = one_pair word
more_pairs word (next ∷ words) =
    let begins = begins_with next words in
    let rest : suc (pairs_after (Some next) words) ≡ suc (length begins.rest) = more_pairs next words ∙ opened next words ∙ ap length begins.is in
    let same_length : length (in_front word (pairs_of (next ∷ words))) ≡ length (in_front word (begins.first ∷ begins.rest)) =
    ap (λ (ps : List Pair). length (in_front word ps)) begins.is in
    elim (cases_eq word next) [
      | inl same ↦ rw (eq-eqb word next same) (omega
          (arith, rest, same_length, ap length (in_same word begins.first begins.rest (same ∙ sym begins.keys))))
      | inr apart ↦ rw (ne_eqb word next apart)
          (omega (arith, rest, same_length, ap length (in_apart word begins.first begins.rest (λ e. apart (e ∙ begins.keys)))))
    ]

pub count_pairs : (words : List ℕ) → pairs_after None words ≡ length (pairs_of words)
unfolding pairs_of
count_pairs [] = refl
count_pairs (word ∷ words) = omega (arith, more_pairs word words)

pub well_nothing : (keys : ℕ) (words : List ℕ) → length words < 1 → well_after (Some keys) (pairs_of words) ≡ true
unfolding pairs_of
well_nothing keys [] none = refl
well_nothing keys (word ∷ words) none = absurd (omega (arith, none))

pub apart_here : (keys : ℕ) (words : List ℕ) → (get_or words 0 0 ≡ keys → ⊥) → 0 < length words → well_after (Some keys) (pairs_of words) ≡ true
apart_here keys [] apart some = absurd (omega (arith, some))
apart_here keys (word ∷ words) apart some = apart_of keys word words (λ e. apart (sym e))

-- the first stretch of inputs, and the pairs of the inputs after it
pub stretch_from : (keys times : ℕ) (words : List ℕ) → 0 < times → words ≡ replicate times keys ++ drop times words
    → well_after (Some keys) (pairs_of (drop times words)) ≡ true
    → pairs_of words ≡ record { times = times; keys = keys } ∷ pairs_of (drop times words)
stretch_from keys zero words some same apart = absurd (omega (arith, some))
stretch_from keys (suc more) words some same apart = ap pairs_of same ∙ stretch keys more (drop (suc more) words) apart

-- ---- sizes

pub length_words : (pairs : List Pair) → length (words_in pairs) ≡ count_in pairs
length_words [] = refl
length_words (p ∷ pairs) = length-append (replicate p.times p.keys) (words_in pairs)
    ∙ omega (arith, length-replicate p.times p.keys, length_words pairs)

pub length_spelled : (pairs : List Pair) → length (pairs_bytes pairs) ≡ 3 * length pairs
length_spelled [] = refl
length_spelled (p ∷ pairs) = omega (arith, length_spelled pairs)

slice_index_more : (front words : List ℕ) (most : ℕ) → ((i : ℕ) → get_or (front ++ words) i 0 < most) → (i : ℕ) → get_or words i 0 < most
slice_index_more [] words most fits i = fits i
slice_index_more (w ∷ front) words most fits i = slice_index_more front words most (λ k. fits (suc k)) i

-- the inputs of the pairs after the first have 16 bits too
pub sets_after : (p : Pair) (pairs : List Pair) → ((i : ℕ) → get_or (words_in (p ∷ pairs)) i 0 < 2 ^ 16) → (i : ℕ)
    → get_or (words_in pairs) i 0 < 2 ^ 16
sets_after p pairs fits = slice_index_more (replicate p.times p.keys) (words_in pairs) (2 ^ 16) fits

replicated : (times keys : ℕ) (words : List ℕ) → keys < 2 ^ 16 → ((i : ℕ) → get_or words i 0 < 2 ^ 16) → (i : ℕ)
    → get_or (replicate times keys ++ words) i 0 < 2 ^ 16
replicated zero keys words small fits i = fits i
replicated (suc times) keys words small fits zero = small
replicated (suc times) keys words small fits (suc i) = replicated times keys words small fits i

-- the inputs in bytes have 16 bits
pub sets_of : (bytes : List ℕ) → ((i : ℕ) → get_or bytes i 0 < 2 ^ 8) → (i : ℕ) → get_or (words_in (pairs_at bytes)) i 0 < 2 ^ 16
unfolding pairs_at
sets_of [] fits i = omega arith
sets_of (times ∷ []) fits i = omega arith
sets_of (times ∷ high ∷ []) fits i = omega arith
sets_of (times ∷ high ∷ low ∷ rest) fits i =
    replicated times (high * 256 + low) (words_in (pairs_at rest)) (omega (arith, fits 1, fits 2)) (sets_of rest (λ k. fits (suc (suc (suc k))))) i

-- ---- runs and what spells them

-- the spelling of a run passes as one
pub spelling_is_run : (words : List ℕ) → ((i : ℕ) → get_or words i 0 < 2 ^ 16) → are_run (pairs_at (spelling words)) (length words) ≡ true
spelling_is_run words small =
    ap (λ (pairs : List Pair). are_run pairs (length words)) (pairs_at-spelling words small)
    ∙ rw (well_of words, eq-eqb (count_in (pairs_of words)) (length words) (count_of words)) refl

-- Bytes of a run of `count` inputs: they are the spelling of its inputs, and there are `count` of them.
pub record IsSpelled (bytes : List ℕ) (count : ℕ) : Type 0 where
  pub spells : spelling (words_in (pairs_at bytes)) ≡ bytes
  pub many : length (words_in (pairs_at bytes)) ≡ count

pub run_is_spelled : (bytes : List ℕ) (count : ℕ) → length bytes % 3 ≡ 0 → ((i : ℕ) → get_or bytes i 0 < 2 ^ 8)
    → are_run (pairs_at bytes) count ≡ true → IsSpelled bytes count
run_is_spelled bytes count whole fits is =
    let both = and_parts (well_after None (pairs_at bytes)) (count_in (pairs_at bytes) == count) is in
    record {
      spells = ap pairs_bytes (well_pairs None (pairs_at bytes) both.0) ∙ spelled_pairs bytes whole fits;
      many = length_words (pairs_at bytes) ∙ eqb-true (count_in (pairs_at bytes)) count both.1;
    }
