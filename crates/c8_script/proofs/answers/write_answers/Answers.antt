-- The line of the next answer comes behind those before it, with its event's number.
use Rattle.std.proofs.Common.{Ok, arith}
use Rattle.std.proofs.lemmas.List.{drop_more}
use Rattle.c8_world.specs.declared.answer.Answer.TheVariants.{Opened}
use Rattle.c8_script.proofs.PrintLemmas.{lines_next, lines_all}
use Rattle.c8_script.proofs.answers.write_answers.Goals as goal

pub loop-before-preserved : goal.loop-before-preserved
loop-before-preserved g c =
    let told = c.in_ok-write_line.ensures in
    lines_next (g.W.Write.contents c.args.out.now) (g.W.Write.contents c.loop-before.out) (g.W.Write.contents c.write_line.new.out)
    c.args.answers.now c.loop-before.before _ told.0
    (drop_more c.args.answers.now c.loop-before.before (Opened (Ok 0)) (omega arith)) c.loop-before.invariant told.1 told.2

pub returns : goal.returns
returns g c = lines_all (g.W.Write.contents c.args.out.now) (g.W.Write.contents c.loop-before.out) c.args.answers.now c.loop-before.before
    (omega arith) c.loop-before.invariant
