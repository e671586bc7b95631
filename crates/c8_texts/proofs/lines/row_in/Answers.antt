-- A place that spells no key set makes the line no key line; any other adds the set of its player.
use Rattle.std.proofs.Common.{arith, ap, ◌∙◌, slice_set}
use Rattle.c8_texts.specs.KeyLines.{keys_at}
use Rattle.c8_texts.proofs.KeyLineLemmas.{no_key_line, one_more_set, next_set}
use Rattle.c8_texts.proofs.lines.row_in.Goals as goal

pub returns-in_err-sets : goal.returns-in_err-sets
returns-in_err-sets c = rw c.from_residual.ensures (no_key_line c.args.players c.args.line.now c.loop-place.place (omega arith) c.in_err-sets.ensures)

pub loop-place-preserved : goal.loop-place-preserved
loop-place-preserved c =
    let line = c.args.line.now in
    let n = c.loop-place.place in
    let sets = c.loop-place.invariant.sets in
    record {
      found = one_more_set line n c.loop-place.invariant.found c.in_ok-sets.ensures.0;
      sets = ap (λ before. slice_set before n c.in_ok-sets.field-0) sets ∙ ap (slice_set _ n) c.in_ok-sets.ensures.1
          ∙ next_set (keys_at line) (record { 0 = 0 }) n (omega arith);
    }
