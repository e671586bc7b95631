-- The move and the cells of the columns so far were appended, at most three bytes a cell.
use Rattle.std.proofs.Common.{◌≡◌, ◌+◌, ◌*◌, ◌≤◌, ◌++◌}
use Rattle.std.specs.List.{flat_map, range_with_len}
use Rattle.arrayvec.specs.ArrayVec.{array_vec_len}
use Rattle.c8_screen.specs.Points.{points_of}
use Rattle.c8_terminal.specs.Painting.{move, cell_at}
use Rattle.c8_terminal.proofs.line.put_line.Given as goal

abbrev pub invariant-loop-x : goal.invariant-loop-x
invariant-loop-x l = record {
  items : l.out.items ≡ (l.fn.out.items ++ move (l.y + 1)) ++ flat_map (cell_at (points_of l.fn.screen) l.y) (range_with_len 0 l.x);
  size : array_vec_len l.out ≤ array_vec_len l.fn.out + 7 + 3 * l.x;
}
