-- Each player's line comes behind those of the players before it, until all are written.
use Rattle.std.proofs.Common.{[], length, arith}
use Rattle.std.proofs.lemmas.List.{drop_more}
use Rattle.c8_script.proofs.PrintLemmas.{tallies_next, tallies_all}
use Rattle.c8_script.proofs.answers.write_tallies.Goals as goal

pub loop-before-preserved : goal.loop-before-preserved
loop-before-preserved g c =
    tallies_next (g.W.Write.contents c.args.out.now) (g.W.Write.contents c.loop-before.out) (g.W.Write.contents c.write_tally.new.out)
    (length c.args.tallies.now) c.args.tallies.now c.loop-before.before _
    (drop_more c.args.tallies.now c.loop-before.before (record { now = 0; confirmed = 0; held = [] }) (omega arith)) c.loop-before.invariant
    c.in_ok-write_tally.ensures

pub returns : goal.returns
returns g c =
    tallies_all (g.W.Write.contents c.args.out.now) (g.W.Write.contents c.loop-before.out) (length c.args.tallies.now) c.args.tallies.now
    c.loop-before.before (omega arith) c.loop-before.invariant
