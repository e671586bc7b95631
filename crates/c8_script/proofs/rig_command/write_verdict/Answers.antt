-- A gathered match prints that its log is lawful, and then whether its peers agree.
use Rattle.std.proofs.Common.{◌≡◌, sym, ap, subst, ◌∙◌, Bool, true, false, Some, Option}
use Rattle.std.specs.Prelude.{OnOk}
use Rattle.std.specs.Io.KnownBytes.{Appends}
use Rattle.c8_script.specs.RigPrinted.{verdict_text}
use Rattle.c8_script.proofs.rig_command.write_verdict.Goals as goal

pub returns-in-Some-true : goal.returns-in-Some-true
returns-in-Some-true g c =
    let is : c.args.verdict ≡ Some true = c.in-Some-true.is ∙ ap Some c.in-Some-true.field-0-test in
    subst (λ (verdict : Option Bool). OnOk c.write.result
    (Appends (g.W.Write.contents c.args.out.now) (g.W.Write.contents c.write.new.self) (verdict_text verdict))) (sym is) c.write.ensures.bytes

pub returns-in-Some-false : goal.returns-in-Some-false
returns-in-Some-false g c =
    let is : c.args.verdict ≡ Some false = c.in-Some-false.is ∙ ap Some c.in-Some-false.field-0-test in
    subst (λ (verdict : Option Bool). OnOk c.write-in-Some-false.result
    (Appends (g.W.Write.contents c.args.out.now) (g.W.Write.contents c.write-in-Some-false.new.self) (verdict_text verdict))) (sym is)
    c.write-in-Some-false.ensures.bytes
