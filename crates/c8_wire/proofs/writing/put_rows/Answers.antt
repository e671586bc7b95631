-- Each row is appended as eight bytes, and the rows that are left still have room.
use Rattle.std.proofs.Common.{◌++◌, [], ◌∷◌, List, ℕ, length, take, get_or, sym, ap, subst, ◌∙◌, arith}
use Rattle.std.proofs.lemmas.List.{length-append, length-take, take_more, flat_map_more}
use Rattle.c8_game.specs.declared.row.Row.{Row}
use Rattle.c8_wire.specs.Packet.{AreRows}
use Rattle.c8_wire.specs.Spelling.{row_bytes, rows_bytes}
use Rattle.c8_wire.proofs.ShowLemmas.{one_row_more, length-rows_bytes}
use Rattle.c8_wire.proofs.writing.put_rows.Goals as goal

pub put_row-requires : goal.put_row-requires
put_row-requires c =
    let front : List Row = take c.loop-row.row-index c.args.rows.now in
    omega (
      arith,
      c.requires,
      ap length c.loop-row.invariant.0,
      length-append c.args.out.now.items (rows_bytes front),
      length-rows_bytes front c.loop-row.invariant.1,
      length-take c.loop-row.row-index c.args.rows.now,
      c.loop-row-test.true,
    )

pub loop-row-preserved : goal.loop-row-preserved
loop-row-preserved c =
    let old : List ℕ = c.args.out.now.items in
    let i : ℕ = c.loop-row.row-index in
    let rows : List Row = c.args.rows.now in
    let row : Row = get_or rows i _ in
    let more = take_more rows i _ c.loop-row-test.true in (
      c.put_row.ensures.bytes ∙ ap (λ (items : List ℕ). items ++ row_bytes row) c.loop-row.invariant.0
          ∙ flat_map_more row_bytes old (take i rows) row ∙ ap (λ (all : List Row). old ++ rows_bytes all) (sym more),
      subst AreRows (sym more) (one_row_more (take i rows) row c.loop-row.invariant.1 c.put_row.ensures.fits),
    )
