-- A refused command line is never done, and a performance is done only with the report of its match.
use Rattle.c8_net.proofs.OutcomeLemmas.{ends_match, ends_by_mistake}
use Rattle.c8_net.proofs.command.perform_given.Goals as goal

pub returns-in-Some : goal.returns-in-Some
returns-in-Some g c = ends_by_mistake (g.W.Write.contents c.args.out.now) (g.W.Write.contents c.args.out.now) c.refuse_line.result
    c.refuse_line.ensures

pub returns-in-None : goal.returns-in-None
returns-in-None g c = ends_match c.args.asked.now.room c.args.asked.now.player.number (g.W.Write.contents c.args.out.now)
    (g.W.Write.contents c.perform.new.out) c.perform.result c.perform.ensures
