-- A line of code takes the first bytes of what is left, at most 32, and is never empty.
use Rattle.std.proofs.Common.{sym, ◌∙◌, ◌<◌, ap, length, take, arith}
use Rattle.std.proofs.lemmas.Bool.{eqb-false}
use Rattle.hex.specs.Hex.{encode_lower}
use Rattle.c8_files.proofs.BlockLemmas.{nothing_written, more_written}
use Rattle.c8_files.proofs.text.add_program.Goals as goal

pub loop-rest-init : goal.loop-rest-init
loop-rest-init c = nothing_written c.args.text.now.items c.args.program.now

pub loop-rest-preserved : goal.loop-rest-preserved
loop-rest-preserved c =
    let full = eqb-false (length c.loop-rest.rest.now) 0 (sym c.is_empty.ensures ∙ c.loop-rest-test.true) in
    let some : 0 < length (take c.min.result c.loop-rest.rest.now) =
    omega (arith, full, ap length c.split_at.ensures.front, c.split_at.ensures.front_len, c.min.ensures) in
    rw c.split_at.ensures.back (more_written c.args.text.now.items c.loop-rest.text.items c.add_line.new.text.items c.args.program.now
    c.loop-rest.rest.now c.as_bytes.result.now c.min.result c.loop-rest.invariant (λ i. omega (arith, c.type_inv.program i)) some
    (c.as_bytes.ensures.value ∙ c.in_ok-digits.ensures ∙ ap encode_lower c.split_at.ensures.front) c.in_ok-add_line.ensures)
