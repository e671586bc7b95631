-- A row is the key sets of four players, each of 16 bits.
use Rattle.std.proofs.Common.{◌≡◌, length, rules}
use Rattle.c8_wire.proofs.ShowLemmas.{row_of_four}
use Rattle.c8_wire.proofs.writing.put_row.Goals as goal

pub returns-clause-fits : goal.returns-clause-fits
returns-clause-fits c =
    let four : length c.args.row.now.sets ≡ 4 = search rules in
    row_of_four c.args.row.now four c.put_keys.ensures.fits c.put_keys-2.ensures.fits c.put_keys-3.ensures.fits c.put_keys-4.ensures.fits
