-- The bits of a machine are the beginning of its mark, and their range.
use Rattle.std.proofs.Common.{◌≡◌, ℕ, zero, suc, ◌+◌, ◌*◌, ◌/◌, ◌%◌, ◌^◌, ◌<◌, List, [], ◌∷◌, ◌++◌, length, take, get_or, sym, ap, ◌∙◌, arith}
use Rattle.std.specs.Int.{from_be_bytes, to_be_bytes, w32, w64}
use Rattle.std.specs.Prelude.{slice_index}
use Rattle.sha2.specs.Sha256.{digest_bytes, sha256}
use Rattle.c8_game.specs.Rules.{Rules}
use Rattle.c8_game.specs.declared.row.Row.{Row}
use Rattle.c8_machine.specs.State.{State}
use Rattle.c8_digest.specs.StateBytes.{state_bytes}
use Rattle.c8_digest.specs.Origin.{Origin, run_since}
use Rattle.c8_live.specs.Words.{number_spelled, bits_of, word}

-- the number of three zeros and five bytes
abbrev pub padded : List ℕ → ℕ
padded bs = from_be_bytes w64 (0 ∷ 0 ∷ 0 ∷ get_or bs 0 0 ∷ get_or bs 1 0 ∷ get_or bs 2 0 ∷ get_or bs 3 0 ∷ get_or bs 4 0 ∷ [])

-- the first eight of at least eight bytes give the number of the first five
first_eight : (m : List ℕ) → length (take 8 m) ≡ 8 → padded (take 8 m) ≡ number_spelled (take 5 m)
first_eight [] l = absurd (omega arith)
first_eight (a ∷ []) l = absurd (omega arith)
first_eight (a ∷ b ∷ []) l = absurd (omega arith)
first_eight (a ∷ b ∷ c ∷ []) l = absurd (omega arith)
first_eight (a ∷ b ∷ c ∷ d ∷ []) l = absurd (omega arith)
first_eight (a ∷ b ∷ c ∷ d ∷ e ∷ m) l = omega arith

pub eight_bytes : (m bs : List ℕ) → bs ≡ take 8 m → length bs ≡ 8 → padded bs ≡ number_spelled (take 5 m)
eight_bytes m bs is l = ap padded is ∙ first_eight m (ap (λ (xs : List ℕ). length xs) (sym is) ∙ l)

pub bits_are : (s : State) (bs : List ℕ) → bs ≡ take 8 (sha256 (state_bytes s)) → length bs ≡ 8 → padded bs ≡ bits_of s
unfolding bits_of
bits_are s bs = eight_bytes (sha256 (state_bytes s)) bs

-- ---- the range

abbrev AreBytes : List ℕ → Type 0
AreBytes [] = Unit
AreBytes (x ∷ xs) = (x < 256) × AreBytes xs

bytes_append : (xs ys : List ℕ) → AreBytes xs → AreBytes ys → AreBytes (xs ++ ys)
bytes_append [] ys a b = b
bytes_append (x ∷ xs) ys a b = (a.0, bytes_append xs ys a.1 b)

bytes_take : (n : ℕ) (xs : List ℕ) → AreBytes xs → AreBytes (take n xs)
bytes_take zero xs a = tt
bytes_take (suc n) [] a = tt
bytes_take (suc n) (x ∷ xs) a = (a.0, bytes_take n xs a.1)

bytes_four : (n : ℕ) → AreBytes (to_be_bytes w32 n)
bytes_four n = (omega arith, (omega arith, (omega arith, (omega arith, tt))))

digest_is_bytes : (h : List ℕ) (n : ℕ) → AreBytes (digest_bytes h n)
unfolding digest_bytes
digest_is_bytes h zero = tt
digest_is_bytes h (suc n) = bytes_append (digest_bytes h n) (to_be_bytes w32 (slice_index h n)) (digest_is_bytes h n) (bytes_four (slice_index h n))

sha_is_bytes : (m : List ℕ) → AreBytes (sha256 m)
unfolding sha256
sha_is_bytes m = digest_is_bytes _ 8

five : (m : List ℕ) → AreBytes m → number_spelled (take 5 m) < 2 ^ 40
five [] a = omega arith
five (x0 ∷ []) a = let a0 = a.0 in omega arith
five (x0 ∷ x1 ∷ []) a = let a0 = a.0 in let a1 = a.1.0 in omega arith
five (x0 ∷ x1 ∷ x2 ∷ []) a = let a0 = a.0 in let a1 = a.1.0 in let a2 = a.1.1.0 in omega arith
five (x0 ∷ x1 ∷ x2 ∷ x3 ∷ []) a = let a0 = a.0 in let a1 = a.1.0 in let a2 = a.1.1.0 in let a3 = a.1.1.1.0 in omega arith
five (x0 ∷ x1 ∷ x2 ∷ x3 ∷ x4 ∷ m) a = let a0 = a.0 in let a1 = a.1.0 in let a2 = a.1.1.0 in let a3 = a.1.1.1.0 in let a4 = a.1.1.1.1.0 in omega arith

pub bits_below : (s : State) → bits_of s < 2 ^ 40
unfolding bits_of
bits_below s = five (sha256 (state_bytes s)) (sha_is_bytes (state_bytes s))

-- a word has one count and one number of bits
split : (n b w : ℕ) → b < 2 ^ 40 → w ≡ n * 2 ^ 40 + b → (w / 2 ^ 40 ≡ n) × (w % 2 ^ 40 ≡ b)
split n b w few is = (omega arith, omega arith)

pub word_count : (game : Rules) (from : Origin) (rows : List Row) (w : ℕ) → w ≡ word game from rows → w / 2 ^ 40 ≡ length rows
word_count game from rows w is = (split (length rows) (bits_of (run_since game from rows)) w (bits_below (run_since game from rows)) is).0

pub word_bits : (game : Rules) (from : Origin) (rows : List Row) (w : ℕ) → w ≡ word game from rows → w % 2 ^ 40 ≡ bits_of (run_since game from rows)
word_bits game from rows w is = (split (length rows) (bits_of (run_since game from rows)) w (bits_below (run_since game from rows)) is).1
