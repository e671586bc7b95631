-- The gate after the kept slots is closed if it is among the bytes and is not the open one.
use Rattle.std.proofs.Common.{◌*◌, ◌&&◌, ◌==◌, not, Bool, length, slice_index, sym, ap, ◌∙◌, arith}
use Rattle.std.proofs.lemmas.Bool.{lt-ltb, le-ltb}
use Rattle.c8_log.specs.Log.{has_closed_gate_at}
use Rattle.c8_log.proofs.Repair.{kept_within, length_of_kept}
use Rattle.c8_log.proofs.end.end_of.Goals as goal

pub overflow_mul-gate : goal.overflow_mul-gate
overflow_mul-gate c =
    let count = c.kept_len-count.ensures in
    let kept = length_of_kept c.args.bytes.now in
    let within = kept_within c.args.bytes.now in
    omega (arith, count, kept, within, c.requires)

pub overflow_cast-result : goal.overflow_cast-result
overflow_cast-result c =
    let count = c.kept_len-count.ensures in
    let kept = length_of_kept c.args.bytes.now in
    let within = kept_within c.args.bytes.now in
    omega (arith, count, kept, within, c.requires)

pub returns-then-gate-bytes-clause-count : goal.returns-then-gate-bytes-clause-count
returns-then-gate-bytes-clause-count c = c.kept_len-count.ensures ∙ length_of_kept c.args.bytes.now

pub returns-else-gate-bytes-clause-count : goal.returns-else-gate-bytes-clause-count
returns-else-gate-bytes-clause-count c = c.kept_len-count.ensures ∙ length_of_kept c.args.bytes.now

pub returns-then-gate-bytes-clause-closed : goal.returns-then-gate-bytes-clause-closed
returns-then-gate-bytes-clause-closed c =
    let bytes = c.args.bytes.now in
    let n = c.kept_len-count.result in
    ap (λ (there : Bool). there && not (slice_index bytes (144 * n) == 0xa5)) (sym (lt-ltb (144 * n) (length bytes) c.if-gate-bytes.true))
    ∙ ap (has_closed_gate_at bytes) (c.kept_len-count.ensures ∙ length_of_kept bytes)

pub returns-else-gate-bytes-clause-closed : goal.returns-else-gate-bytes-clause-closed
returns-else-gate-bytes-clause-closed c =
    let bytes = c.args.bytes.now in
    let n = c.kept_len-count.result in
    let past = le-ltb (144 * n) (length bytes) c.if-gate-bytes.false in
    past ∙ ap (λ (there : Bool). there && not (slice_index bytes (144 * n) == 0xa5)) (sym past)
    ∙ ap (has_closed_gate_at bytes) (c.kept_len-count.ensures ∙ length_of_kept bytes)

pub returns-then-gate-bytes-clause-fits : goal.returns-then-gate-bytes-clause-fits
returns-then-gate-bytes-clause-fits c =
    let count = c.kept_len-count.ensures in
    let kept = length_of_kept c.args.bytes.now in
    let within = kept_within c.args.bytes.now in
    omega (arith, count, kept, within)

pub returns-else-gate-bytes-clause-fits : goal.returns-else-gate-bytes-clause-fits
returns-else-gate-bytes-clause-fits c =
    let count = c.kept_len-count.ensures in
    let kept = length_of_kept c.args.bytes.now in
    let within = kept_within c.args.bytes.now in
    omega (arith, count, kept, within)
