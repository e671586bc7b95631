-- One more cell shows two points, one above the other; the move and 64 cells are the row of text.
use Rattle.std.proofs.Common.{◌≡◌, ℕ, ◌+◌, ◌*◌, ◌≤◌, Bool, List, ◌++◌, length, ap, ◌∙◌, arith, append_assoc}
use Rattle.std.specs.List.{flat_map, range_with_len}
use Rattle.c8_screen.specs.Points.{Points, points_of}
use Rattle.c8_terminal.specs.Painting.{cell, move, cell_at, line}
use Rattle.c8_terminal.proofs.RangeLemmas.{spelled_more}
use Rattle.c8_terminal.proofs.LineLemmas.{cell-length}
use Rattle.c8_terminal.proofs.line.put_line.Goals as goal

pub loop-x-preserved : goal.loop-x-preserved
loop-x-preserved c =
    let points : Points = points_of c.args.screen.now in
    let y : ℕ = c.args.y in
    let x : ℕ = c.loop-x.x in
    let is : c.cell.result.now ≡ cell_at points y x =
    c.cell.ensures ∙ ap (λ (upper : Bool). cell upper c.lit-in-loop-x.result) c.lit.ensures
    ∙ ap (λ (lower : Bool). cell (points x (2 * y)) lower) c.lit-in-loop-x.ensures in
    let short : length c.cell.result.now ≤ 3 = omega (arith, ap length is, cell-length (points x (2 * y)) (points x (2 * y + 1))) in
    record {
      items =
          c.put.ensures.bytes ∙ ap (λ (items : List ℕ). items ++ c.cell.result.now) c.loop-x.invariant.items
          ∙ ap (λ (last : List ℕ). ((c.args.out.now.items ++ move (y + 1)) ++ flat_map (cell_at points y) (range_with_len 0 x)) ++ last) is
          ∙ spelled_more (cell_at points y) (c.args.out.now.items ++ move (y + 1)) x;
      size = omega (arith, c.put.ensures.size, c.loop-x.invariant.size, short);
    }

pub returns-clause-bytes : goal.returns-clause-bytes
unfolding line
returns-clause-bytes c =
    let points : Points = points_of c.args.screen.now in
    let all : c.loop-x.x ≡ 64 = omega (arith, c.loop-x-test.false, c.loop-x.auto.x-end) in
    c.loop-x.invariant.items ∙ ap (λ (n : ℕ). (c.args.out.now.items ++ move (c.args.y + 1)) ++ flat_map (cell_at points c.args.y)
    (range_with_len 0 n)) all
    ∙ append_assoc c.args.out.now.items (move (c.args.y + 1)) (flat_map (cell_at points c.args.y) (range_with_len 0 64))
