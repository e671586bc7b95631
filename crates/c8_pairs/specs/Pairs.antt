-- A run of inputs as pairs: each stretch of equal key sets is one pair, its length and its key set.
use Rattle.std.specs.Prelude.{ℕ, ◌+◌, ◌==◌, if◌then◌else◌, List, [], ◌∷◌, replicate}
use Rattle.std.specs.List.{flat_map}
use Rattle.byteorder.specs.Endian.{big_bytes}
use Rattle.c8_pairs.specs.declared.pair.Pair.{Pair}

-- the pairs of a run after one more input is put in front
abbrev pub in_front : ℕ → List Pair → List Pair
in_front word [] = record { times = 1; keys = word } ∷ []
in_front word (p ∷ pairs) = if word == p.keys then record { times = p.times + 1; keys = p.keys } ∷ pairs else
    record { times = 1; keys = word } ∷ p ∷ pairs

unfoldable pub pairs_of : List ℕ → List Pair
pairs_of [] = []
pairs_of (word ∷ words) = in_front word (pairs_of words)

-- the inputs that pairs stand for
abbrev pub words_in : List Pair → List ℕ
words_in pairs = flat_map (λ (p : Pair). replicate p.times p.keys) pairs

-- the bytes of a pair: its length in one byte, its key set in two
abbrev pub pair_bytes : Pair → List ℕ
pair_bytes p = p.times ∷ big_bytes 2 p.keys

abbrev pub pairs_bytes : List Pair → List ℕ
pairs_bytes pairs = flat_map pair_bytes pairs

-- the one spelling of a run
abbrev pub spelling : List ℕ → List ℕ
spelling words = pairs_bytes (pairs_of words)
