-- One more line is written behind the others, and the status is the worse of its own and the worst so far.
use Rattle.std.proofs.Common.{◌∷◌, ◌++◌, [], take, length, ◌<◌, ◌∙◌, ap, sym, arith}
use Rattle.std.proofs.Math.Seq.{take-suc}
use Rattle.c8_judge.proofs.MatchLemmas.{written_more, line_more}
use Rattle.c8_judge.proofs.matches.write_lines.Goals as goal

pub loop-line-preserved : goal.loop-line-preserved
loop-line-preserved g c =
    let lines = c.args.lines.now in
    let place = c.loop-line.line-index in
    let line = c.line-item.result in
    let below : place < length lines = omega (arith, c.loop-line-test.true) in
    written_more c.args.before lines place line (g.W.Write.contents c.args.out.now) (g.W.Write.contents c.loop-line.out)
    (g.W.Write.contents c.write.new.self) c.loop-line.worst c.worse-worst.result
    (line_more lines place line below (take-suc lines place line below ∙ ap (λ one. take place lines ++ one ∷ []) (sym c.line-item.is)))
    c.loop-line.invariant c.in_ok-write.ensures.bytes c.worse-worst.ensures
