-- With one more player the least reach is the lesser of the least so far and this player's.
use Rattle.std.proofs.Common.{ℕ, map, min, take, sym, ap, ◌∙◌}
use Rattle.c8_known.specs.Tables.{table_value, least_of}
use Rattle.c8_known.proofs.ReachLemmas.{least_more}
use Rattle.c8_known.proofs.table.least_reach.Goals as goal

-- one more player
pub loop-place-preserved : goal.loop-place-preserved
loop-place-preserved c =
    let more = least_more c.args.tables.now c.loop-place.place c.args.ticks c.index-tables-place.result c.loop-place-test.true
    c.index-tables-place.is in
    c.min-least.ensures ∙ ap (λ (n : ℕ). min n c.reach.result) c.loop-place.invariant
    ∙ ap (λ (n : ℕ). min (least_of (take c.loop-place.place (map table_value c.args.tables.now)) c.args.ticks) n) c.reach.ensures ∙ sym more
