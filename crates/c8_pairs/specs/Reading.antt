-- The pairs in bytes, and which lists of pairs are runs.
use Rattle.std.specs.Prelude.{if◌then◌else◌, ℕ, ◌+◌, ◌*◌, nat_lt, ◌==◌, ◌&&◌, not, Bool, true, false, List, [], ◌∷◌, Option, Some, None}
use Rattle.c8_pairs.specs.declared.pair.Pair.{Pair}

-- the pairs in bytes, three bytes each
unfoldable pub pairs_at : List ℕ → List Pair
pairs_at [] = []
pairs_at (times ∷ []) = []
pairs_at (times ∷ high ∷ []) = []
pairs_at (times ∷ high ∷ low ∷ rest) = record { times = times; keys = high * 256 + low } ∷ pairs_at rest

abbrev pub is_same : Option ℕ → ℕ → Bool
is_same None keys = false
is_same (Some last) keys = last == keys

-- Pairs that may follow one with this key set, or come first: no pair is empty, and no two neighbours
-- have the same key set.
abbrev pub well_after : Option ℕ → List Pair → Bool
well_after last [] = true
well_after last (p ∷ pairs) = not (p.times == 0) && (not (is_same last p.keys) && well_after (Some p.keys) pairs)

-- how many inputs the pairs stand for
abbrev pub count_in : List Pair → ℕ
count_in [] = 0
count_in (p ∷ pairs) = p.times + count_in pairs

-- whether these are the pairs of a run of this many inputs
abbrev pub are_run : List Pair → ℕ → Bool
are_run pairs count = well_after None pairs && (count_in pairs == count)

-- the run begins inside its first pair, or there is no pair
abbrev pub is_begun : ℕ → List Pair → Bool
is_begun skip [] = skip == 0
is_begun skip (p ∷ pairs) = nat_lt skip p.times

-- how many new pairs the inputs begin, after an input with this key set
abbrev pub pairs_after : Option ℕ → List ℕ → ℕ
pairs_after last [] = 0
pairs_after last (word ∷ words) = (if is_same last word then 0 else 1) + pairs_after (Some word) words
