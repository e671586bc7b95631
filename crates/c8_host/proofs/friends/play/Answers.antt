-- Where the report is not wanted, it is written to a vector, and nothing to the output.
use Rattle.std.proofs.Common.{Some}
use Rattle.c8_net.specs.Answers.{EndsMatch}
use Rattle.c8_play.proofs.SilentLemmas.{silent_from}
use Rattle.c8_host.proofs.friends.play.Goals as goal

pub returns-clause-silent : goal.returns-clause-silent
returns-clause-silent g c = λ wanted.
    silent_from EndsMatch (Some c.new-unread.result.items) (Some c.play_match-2.new.out.items) (g.W.Write.contents c.args.out.now)
    c.play_match-2.result c.play_match-2.ensures
