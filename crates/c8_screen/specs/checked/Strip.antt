-- Checked, not believed: a byte's points within a row of 64, as a number.
use Rattle.std.specs.Prelude.{ℕ, ◌*◌, ◌/◌, ◌^◌}

abbrev pub strip : ℕ → ℕ → ℕ
strip byte left = byte * 2 ^ 56 / 2 ^ left
