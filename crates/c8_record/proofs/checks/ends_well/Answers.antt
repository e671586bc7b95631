-- The piece of the marks has 128 bytes, all of them the marks', so it is judged by its unused marks.
use Rattle.std.proofs.Common.{Bool, cond, ap, ◌∙◌, arith}
use Rattle.std.proofs.lemmas.Bool.{ne_eqb, eq-eqb}
use Rattle.std.proofs.lemmas.List.{take_all}
use Rattle.c8_digest.specs.Marks.{are_marks}
use Rattle.c8_record.specs.Checks.{piece_length}
use Rattle.c8_record.proofs.checks.ends_well.Goals as goal

pub returns-in-Some : goal.returns-in-Some
unfolding piece_length
returns-in-Some c =
    let apart = c.if-piece-eq-LAST_OF_STATE.false in
    let long = c.requires ∙ ap (λ (b : Bool). cond b 68 128) (ne_eqb c.args.piece 34 apart) in
    let all = take_all 128 c.args.bytes.now (omega (arith, long)) in
    rw (ne_eqb c.args.piece 34 apart) (rw (eq-eqb c.args.piece 35 c.if-piece-eq-PIECE_OF_MARKS.true)
    (c.are_marks.ensures ∙ ap (are_marks c.args.frames) (c.in-Some.ensures.cases.same ∙ all)))
