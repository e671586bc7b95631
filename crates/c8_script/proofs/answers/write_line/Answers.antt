-- The number of the event and a space, then the answer: together its line.
use Rattle.c8_script.proofs.PrintLemmas.{numbered}
use Rattle.c8_script.proofs.answers.write_line.Goals as goal

pub returns : goal.returns
returns g c =
    numbered (g.W.Write.contents c.args.out.now) (g.W.Write.contents c.write.new.self) (g.W.Write.contents c.write_answer.new.out)
    c.args.number c.args.answer c.write_answer.result
    c.in_ok-write.ensures.bytes c.write_answer.ensures
