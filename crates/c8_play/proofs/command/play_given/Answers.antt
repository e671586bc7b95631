-- Where the report is not wanted, it is written to a vector, and nothing to the output.
use Rattle.std.proofs.Common.{Some}
use Rattle.c8_play.specs.Answers.{EndsPlay}
use Rattle.c8_play.proofs.SilentLemmas.{silent_from}
use Rattle.c8_play.proofs.command.play_given.Goals as goal

pub returns-clause-silent : goal.returns-clause-silent
returns-clause-silent g c = λ wanted.
    silent_from EndsPlay (Some c.new-unread.result.items) (Some c.play_by-2.new.out.items) (g.W.Write.contents c.args.out.now)
    c.play_by-2.result c.play_by-2.ensures
