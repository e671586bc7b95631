-- A line of ticks and confirmed frames ends with the inputs held of at most four players.
use Rattle.c8_script.proofs.PrintLemmas.{tally_told}
use Rattle.c8_script.proofs.answers.write_tally.Goals as goal

pub returns : goal.returns
returns g c =
    tally_told (g.W.Write.contents c.args.out.now) (g.W.Write.contents c.write.new.self) (g.W.Write.contents c.write_counts.new.out)
    c.args.players c.args.player c.args.tally.now c.min.result
    c.write_counts.result c.min.ensures c.in_ok-write.ensures.bytes c.write_counts.ensures
