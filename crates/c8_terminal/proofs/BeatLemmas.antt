-- Counts of how late frames were.
use Rattle.std.proofs.Common.{◌≡◌, ◌<◌, ◌≤◌, ℕ, ◌+◌, ◌*◌, List, length, get_or, sum, take, sym, subst, arith}
use Rattle.std.proofs.lemmas.List.{take_all}
use Rattle.std.proofs.lemmas.List.Sums.{sum_by_more}
use Rattle.c8_terminal.specs.Beats.{IsHalf, IsMedian}

pub sum_more : (xs : List ℕ) (i : ℕ) → i < length xs → sum (take (i + 1) xs) ≡ sum (take i xs) + get_or xs i 0
sum_more xs i within = sum_by_more (λ (x : ℕ). x) xs i 0 within

-- all frames are late by at most the last number
pub all_are_half : (counts : List ℕ) (last : ℕ) → length counts ≡ last + 1 → IsHalf counts last
all_are_half counts last long =
    let all : take (last + 1) counts ≡ counts = take_all (last + 1) counts (omega (arith, long)) in
    subst (λ (xs : List ℕ). sum counts ≤ 2 * sum xs) (sym all) (omega arith)

-- so if no smaller number is enough, the last one is the least
pub last_is_median : (counts : List ℕ) (last : ℕ) → length counts ≡ last + 1 → ((fewer : ℕ) → fewer < last → IsHalf counts fewer → ⊥)
    → IsMedian counts last
last_is_median counts last long none = record { half = all_are_half counts last long; least = none }
