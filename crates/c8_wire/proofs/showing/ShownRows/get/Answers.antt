-- The rows of a SHOW stand one after another, so row k is in the eight bytes from 30 + 8 k on.
use Rattle.std.proofs.Common.{◌<◌, Some, sym, ap, ◌∙◌, arith}
use Rattle.c8_wire.proofs.ShowLemmas.{length_of_rows, get-rows_at}
use Rattle.c8_wire.proofs.showing.ShownRows.get.Goals as goal

pub returns : goal.returns
returns c =
    let below : c.args.place < c.args.self.now.count = omega (arith, c.requires, length_of_rows c.args.self.now.count 30 c.args.self.now.bytes.now) in
    get-rows_at c.args.self.now.count 30 c.args.place c.args.self.now.bytes.now below ∙ ap Some (sym c.row_at.ensures)
