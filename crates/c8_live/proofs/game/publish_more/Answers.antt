-- Confirmed rows that begin with the published ones and are no more are the same: nothing is left to publish.
use Rattle.std.proofs.Common.{List, sym, ap, ◌∙◌}
use Rattle.std.proofs.lemmas.List.FromFn.{length-map-range_with_len}
use Rattle.c8_game.specs.declared.row.Row.{Row}
use Rattle.c8_known.specs.Confirmed.{row, confirmed, confirmed_rows}
use Rattle.c8_peer.specs.Peer.{known_by}
use Rattle.c8_live.proofs.RunLemmas.{begins_whole}
use Rattle.c8_live.proofs.game.publish_more.Goals as goal

pub returns-then-confirmed-published-clause-shown : goal.returns-then-confirmed-published-clause-shown
returns-then-confirmed-published-clause-shown g c =
    let pen = c.args.pen.now in
    let known = known_by c.args.peer.now in
    let same = begins_whole pen.rows (confirmed_rows known) c.requires.rows
    (length-map-range_with_len (row known) 0 (confirmed known) ∙ sym c.confirmed.ensures.value ∙ c.if-confirmed-published.true
    ∙ c.requires.published) in
    ap (λ (rows : List Row). record pen { rows = rows }) (sym same)
