-- The greatest number that passes a test.
use Rattle.std.specs.Prelude.{ℕ, zero, suc, Bool, if◌then◌else◌}

-- the greatest such number up to a bound; 0 if there is none
unfoldable pub greatest : (ℕ → Bool) → ℕ → ℕ
greatest test zero = zero
greatest test (suc n) = if test (suc n) then suc n else greatest test n
