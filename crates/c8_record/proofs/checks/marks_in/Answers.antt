-- Behind the offset of the marks there are exactly their 128 bytes.
use Rattle.std.proofs.Common.{◌∙◌, arith}
use Rattle.std.proofs.lemmas.List.{take_all}
use Rattle.c8_record.proofs.checks.marks_in.Goals as goal

pub returns : goal.returns
returns c =
    let back = c.split_at.ensures.back in
    c.in-Some.ensures.cases.same ∙ take_all 128 c.split_at.result.1.now (omega (arith, c.split_at.ensures.back_len)) ∙ back
