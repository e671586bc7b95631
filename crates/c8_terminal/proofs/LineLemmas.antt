-- The length of a row of text.
use Rattle.std.proofs.Common.{◌≤◌, Bool, true, false, length, arith}
use Rattle.c8_terminal.specs.Painting.{cell}

pub cell-length : (upper lower : Bool) → length (cell upper lower) ≤ 3
cell-length false false = omega arith
cell-length true false = omega arith
cell-length false true = omega arith
cell-length true true = omega arith
