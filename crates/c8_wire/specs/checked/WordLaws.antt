-- Checked, not believed: the key sets of a run, by the bytes that spell them.
use Rattle.std.proofs.Common.{◌≡◌, ℕ, zero, suc, ◌+◌, ◌*◌, ◌/◌, ◌%◌, ◌^◌, ◌<◌, List, [], ◌∷◌, ◌++◌, length, get_or, drop, Some, refl, sym}
use Rattle.std.proofs.Common.{ap, ◌∙◌, arith}
use Rattle.std.specs.Prelude.{slice_get}
use Rattle.std.specs.List.{flat_map}
use Rattle.byteorder.specs.Endian.{big_bytes, big_number}
use Rattle.byteorder.specs.Numbers.{big_number-reads_back}
use Rattle.c8_wire.specs.Packet.{AreBytes}
use Rattle.c8_wire.specs.Reading.{number_at, words_of}
use Rattle.c8_wire.specs.checked.NumberLaws.{big_bytes-big_number}

pub length_words_of : (bytes : List ℕ) → length (words_of bytes) ≡ length bytes / 2
unfolding words_of
length_words_of [] = refl
length_words_of (high ∷ []) = refl
length_words_of (high ∷ low ∷ rest) = omega (arith, length_words_of rest)

pub length_of_words : (bytes : List ℕ) → length bytes % 2 ≡ 0 → length bytes ≡ 2 * length (words_of bytes)
length_of_words bytes even = omega (arith, length_words_of bytes)

pub slice_get_words_of : (bytes : List ℕ) (place : ℕ) → place < length (words_of bytes)
    → slice_get (words_of bytes) place ≡ Some (number_at (2 * place) 2 bytes)
unfolding words_of number_at
slice_get_words_of [] place h = absurd (omega arith)
slice_get_words_of (high ∷ []) place h = absurd (omega arith)
slice_get_words_of (high ∷ low ∷ rest) zero h = ap Some (omega arith)
slice_get_words_of (high ∷ low ∷ rest) (suc place) h =
    let moved : 2 * suc place ≡ suc (suc (2 * place)) = omega arith in
    slice_get_words_of rest place (omega arith) ∙ ap (λ (k : ℕ). Some (big_number 2 (drop k (high ∷ low ∷ rest)))) (sym moved)

pub drop_words_of : (place : ℕ) (bytes : List ℕ) → words_of (drop (2 * place) bytes) ≡ drop place (words_of bytes)
unfolding words_of
drop_words_of zero bytes = refl
drop_words_of (suc place) [] = let moved : 2 * suc place ≡ suc (suc (2 * place)) = omega arith in ap (λ (k : ℕ). words_of (drop {A = ℕ} k [])) moved
drop_words_of (suc place) (high ∷ []) = let moved : 2 * suc place ≡ suc (suc (2 * place)) = omega arith in
    ap (λ (k : ℕ). words_of (drop k (high ∷ []))) moved
drop_words_of (suc place) (high ∷ low ∷ rest) =
    let moved : 2 * suc place ≡ suc (suc (2 * place)) = omega arith in
    ap (λ (k : ℕ). words_of (drop k (high ∷ low ∷ rest))) moved ∙ drop_words_of place rest

-- an even number of bytes is the spelling of its words
pub spelled_words : (bytes : List ℕ) → length bytes % 2 ≡ 0 → AreBytes bytes → flat_map (big_bytes 2) (words_of bytes) ≡ bytes
unfolding words_of
spelled_words [] even fits = refl
spelled_words (high ∷ []) even fits = absurd (omega arith)
spelled_words (high ∷ low ∷ rest) even fits =
    let back : big_bytes 2 (high * 256 + low) ≡ high ∷ low ∷ [] =
    ap (big_bytes 2) (omega arith) ∙ big_bytes-big_number 2 (high ∷ low ∷ rest) (omega arith) fits in
    let others = spelled_words rest (omega arith) (λ i. fits (suc (suc i))) in
    ap (λ (front : List ℕ). front ++ flat_map (big_bytes 2) (words_of rest)) back ∙ ap (λ (tail : List ℕ). high ∷ low ∷ tail) others

-- the spelling of words reads back as these words
pub words_of-spelled : (words : List ℕ) → ((i : ℕ) → get_or words i 0 < 2 ^ 16) → words_of (flat_map (big_bytes 2) words) ≡ words
unfolding words_of
words_of-spelled [] fits = refl
words_of-spelled (word ∷ words) fits =
    let first : big_number 2 (big_bytes 2 word) ≡ word = big_number-reads_back 2 word [] (fits 0) in
    let others = words_of-spelled words (λ i. fits (suc i)) in
    ap (λ (w : ℕ). w ∷ words_of (flat_map (big_bytes 2) words)) (omega (arith, first)) ∙ ap (λ (ws : List ℕ). word ∷ ws) others

pub words_of-lt : (bytes : List ℕ) → AreBytes bytes → (i : ℕ) → get_or (words_of bytes) i 0 < 2 ^ 16
unfolding words_of
words_of-lt [] fits i = omega arith
words_of-lt (high ∷ []) fits i = omega arith
words_of-lt (high ∷ low ∷ rest) fits zero = omega (arith, fits 0, fits 1)
words_of-lt (high ∷ low ∷ rest) fits (suc i) = words_of-lt rest (λ k. fits (suc (suc k))) i

-- a run has twice as many bytes as words
pub length-spelled_words : (words : List ℕ) → length (flat_map (big_bytes 2) words) ≡ 2 * length words
length-spelled_words [] = refl
length-spelled_words (word ∷ words) = omega (arith, length-spelled_words words)
