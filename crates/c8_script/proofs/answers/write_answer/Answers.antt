-- A refused event prints the part that refused it, with the refusal's number and its name.
use Rattle.std.proofs.Common.{codes, ap, ◌∙◌}
use Rattle.c8_world.specs.declared.answer.Answer.TheVariants.{Opened, Ticked, Said, Delivered, Left, Decided, Checked}
use Rattle.c8_script.specs.Printed.{answer_text, refusal_text}
use Rattle.c8_script.proofs.PrintLemmas.{told_by}
use Rattle.c8_script.proofs.answers.write_answer.Goals as goal

pub returns-in-Opened-Err : goal.returns-in-Opened-Err
returns-in-Opened-Err g c =
    told_by (g.W.Write.contents c.args.out.now) (g.W.Write.contents c.write_refusal.new.out) c.args.answer c.name.result.now
    (refusal_text (codes "open") c.number.result c.name.result.now) c.write_refusal.result
    (rw (c.number.ensures) (ap (answer_text c.name.result.now)
    (c.in-Opened-Err.is ∙ ap Opened (rw c.in-Opened-Err.is at c.in-Opened-Err.field-0-is)))) c.write_refusal.ensures

pub returns-in-Ticked-Err : goal.returns-in-Ticked-Err
returns-in-Ticked-Err g c =
    told_by (g.W.Write.contents c.args.out.now) (g.W.Write.contents c.write_refusal-in-Ticked-Err.new.out) c.args.answer
    c.name-in-Ticked-Err.result.now
    (refusal_text (codes "tick") c.number-in-Ticked-Err.result c.name-in-Ticked-Err.result.now) c.write_refusal-in-Ticked-Err.result
    (rw (c.number-in-Ticked-Err.ensures) (ap (answer_text c.name-in-Ticked-Err.result.now)
    (c.in-Ticked-Err.is ∙ ap Ticked (rw c.in-Ticked-Err.is at c.in-Ticked-Err.field-0-is)))) c.write_refusal-in-Ticked-Err.ensures

pub returns-in-Said-Err : goal.returns-in-Said-Err
returns-in-Said-Err g c =
    told_by (g.W.Write.contents c.args.out.now) (g.W.Write.contents c.write_refusal-in-Said-Err.new.out) c.args.answer c.name-in-Said-Err.result.now
    (refusal_text (codes "say") c.number-in-Said-Err.result c.name-in-Said-Err.result.now) c.write_refusal-in-Said-Err.result
    (rw (c.number-in-Said-Err.ensures) (ap (answer_text c.name-in-Said-Err.result.now)
    (c.in-Said-Err.is ∙ ap Said (rw c.in-Said-Err.is at c.in-Said-Err.field-0-is)))) c.write_refusal-in-Said-Err.ensures

pub returns-in-Delivered-Err : goal.returns-in-Delivered-Err
returns-in-Delivered-Err g c =
    told_by (g.W.Write.contents c.args.out.now) (g.W.Write.contents c.write_refusal-in-Delivered-Err.new.out) c.args.answer
    c.name-in-Delivered-Err.result.now
    (refusal_text c.part_of.result.now c.number-in-Delivered-Err.result c.name-in-Delivered-Err.result.now) c.write_refusal-in-Delivered-Err.result
    (rw (c.part_of.ensures, c.number-in-Delivered-Err.ensures)
    (ap (answer_text c.name-in-Delivered-Err.result.now)
    (c.in-Delivered-Err.is ∙ ap Delivered (rw c.in-Delivered-Err.is at c.in-Delivered-Err.field-0-is)))) c.write_refusal-in-Delivered-Err.ensures

pub returns-in-Left-Err : goal.returns-in-Left-Err
returns-in-Left-Err g c =
    told_by (g.W.Write.contents c.args.out.now) (g.W.Write.contents c.write_refusal-in-Left-Err.new.out) c.args.answer c.name-in-Left-Err.result.now
    (refusal_text (codes "leave") c.number-in-Left-Err.result c.name-in-Left-Err.result.now) c.write_refusal-in-Left-Err.result
    (rw (c.number-in-Left-Err.ensures) (ap (answer_text c.name-in-Left-Err.result.now)
    (c.in-Left-Err.is ∙ ap Left (rw c.in-Left-Err.is at c.in-Left-Err.field-0-is)))) c.write_refusal-in-Left-Err.ensures

pub returns-in-Decided-Err : goal.returns-in-Decided-Err
returns-in-Decided-Err g c =
    told_by (g.W.Write.contents c.args.out.now) (g.W.Write.contents c.write_refusal-in-Decided-Err.new.out) c.args.answer
    c.name-in-Decided-Err.result.now
    (refusal_text (codes "decide") c.number-in-Decided-Err.result c.name-in-Decided-Err.result.now) c.write_refusal-in-Decided-Err.result
    (rw (c.number-in-Decided-Err.ensures) (ap (answer_text c.name-in-Decided-Err.result.now)
    (c.in-Decided-Err.is ∙ ap Decided (rw c.in-Decided-Err.is at c.in-Decided-Err.field-0-is)))) c.write_refusal-in-Decided-Err.ensures

pub returns-in-Checked-Err : goal.returns-in-Checked-Err
returns-in-Checked-Err g c =
    told_by (g.W.Write.contents c.args.out.now) (g.W.Write.contents c.write_refusal-in-Checked-Err.new.out) c.args.answer
    c.name-in-Checked-Err.result.now
    (refusal_text (codes "check") c.number-in-Checked-Err.result c.name-in-Checked-Err.result.now) c.write_refusal-in-Checked-Err.result
    (rw (c.number-in-Checked-Err.ensures) (ap (answer_text c.name-in-Checked-Err.result.now)
    (c.in-Checked-Err.is ∙ ap Checked (rw c.in-Checked-Err.is at c.in-Checked-Err.field-0-is)))) c.write_refusal-in-Checked-Err.ensures
