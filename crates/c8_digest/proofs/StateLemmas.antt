-- The parts of a state, one after another.
use Rattle.std.proofs.Common.{◌≡◌, ℕ, List, [], ◌++◌, length, map, sym, ap, ◌∙◌, arith}
use Rattle.std.specs.Prelude.{slice_index}
use Rattle.std.specs.List.{range_with_len}
use Rattle.std.proofs.lemmas.List.FromFn.{length-map-range_with_len, get_or-map-range_with_len}
use Rattle.std.proofs.lemmas.Grind.{same_number_lists}

-- parts that were appended one after another
pub appended : (m r a c d st sc re b1 b2 b3 b4 b5 b6 b7 : List ℕ) → b1 ≡ [] ++ m → b2 ≡ b1 ++ r → b3 ≡ b2 ++ a → b4 ≡ b3 ++ c
    → b5 ≡ b4 ++ d ++ st → b6 ≡ b5 ++ sc → b7 ≡ b6 ++ re
    → b7 ≡ m ++ r ++ a ++ c ++ d ++ st ++ sc ++ re
appended m r a c d st sc re b1 b2 b3 b4 b5 b6 b7 p1 p2 p3 p4 p5 p6 p7 =
    let two = p2 ∙ ap (λ (b : List ℕ). b ++ r) p1 in
    let three = p3 ∙ ap (λ (b : List ℕ). b ++ a) two in
    let four = p4 ∙ ap (λ (b : List ℕ). b ++ c) three in
    let five = p5 ∙ ap (λ (b : List ℕ). b ++ d ++ st) four in
    let six = p6 ∙ ap (λ (b : List ℕ). b ++ sc) five in
    p7 ∙ ap (λ (b : List ℕ). b ++ re) six

-- the memory as a list of its bytes
pub memory_is : (bytes : List ℕ) (memory : ℕ → ℕ) → slice_index bytes ≡ memory → length bytes ≡ 4096 → map memory (range_with_len 0 4096) ≡ bytes
memory_is bytes memory is long =
    let many : length (map memory (range_with_len 0 4096)) ≡ 4096 = length-map-range_with_len memory 0 4096 in
    same_number_lists (map memory (range_with_len 0 4096)) bytes (omega (arith, many, long))
    (λ k below. get_or-map-range_with_len memory 0 4096 k k 0 (omega (arith, below, many)) (omega arith) ∙ ap (λ (f : ℕ → ℕ). f k) (sym is))
