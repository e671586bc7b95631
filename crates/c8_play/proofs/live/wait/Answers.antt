-- One more round of listening hears more packets, and at the desk nothing is read or written.
use Rattle.std.proofs.lemmas.Result.{err_from_is_err_and}
use Rattle.c8_transport.specs.Wire.{most_packets}
use Rattle.c8_play.proofs.FrameLemmas.{waited_more}
use Rattle.c8_play.proofs.live.wait.Goals as goal

pub returns-in_err-listen-clause-end : goal.returns-in_err-listen-clause-end
returns-in_err-listen-clause-end g c =
    let error = err_from_is_err_and c.from_residual.result c.from_residual.ensures.1 in
    rw (error.1, error.2)
    (c.sessions_end.ensures c.args.session.now.peer c.loop.session.peer c.listen.new.session.peer c.in_err-listen.field-0.0
    c.loop.invariant.ran c.in_err-listen.ensures.end)

pub returns-in_err-listen-clause-waited : goal.returns-in_err-listen-clause-waited
returns-in_err-listen-clause-waited g c =
    waited_more g.D.Disk g.W.Wire g.C.Console c.hearings_join.ensures.joined most_packets c.args.session.now.peer c.loop.session.peer
    c.listen.new.session.peer c.args.wire.now c.loop.wire c.listen.new.wire c.args.desk.now c.loop.desk c.rest_unless_due.new.self
    c.loop.invariant.waited c.rest_unless_due.ensures c.in_err-listen.ensures.heard

pub loop-preserved : goal.loop-preserved
loop-preserved g c = record {
  ran = c.peers_run_on.ensures.joined c.args.session.now.peer c.loop.session.peer c.listen.new.session.peer c.loop.invariant.ran
      c.in_ok-listen.ensures.ran;
  waited = waited_more g.D.Disk g.W.Wire g.C.Console c.hearings_join.ensures.joined most_packets c.args.session.now.peer c.loop.session.peer
      c.listen.new.session.peer c.args.wire.now c.loop.wire c.listen.new.wire c.args.desk.now c.loop.desk c.rest_unless_due.new.self
      c.loop.invariant.waited c.rest_unless_due.ensures c.in_ok-listen.ensures.heard;
}
