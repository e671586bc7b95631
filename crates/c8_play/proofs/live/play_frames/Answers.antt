-- A wait and a frame more: the peer runs on, and the lead is counted on from the frame before.
use Rattle.std.proofs.Common.{ℕ, ◌+◌, arith, refl, ap, subst, ◌∙◌}
use Rattle.std.proofs.lemmas.Result.{err_from_is_err_and}
use Rattle.c8_play.specs.Frames.{AreFrames}
use Rattle.c8_play.specs.Lead.{window_of, patience_of, frames_of}
use Rattle.c8_play.proofs.FrameLemmas.{frames_more, led_with}
use Rattle.c8_play.proofs.live.play_frames.Goals as goal

pub returns-in_err-wait-clause-end : goal.returns-in_err-wait-clause-end
returns-in_err-wait-clause-end g c =
    let error = err_from_is_err_and c.from_residual.result c.from_residual.ensures.1 in
    rw (error.1, error.2)
    (c.sessions_end.ensures c.args.session.now.peer c.loop-turn.session.peer c.wait.new.session.peer c.in_err-wait.field-0.0
    c.loop-turn.invariant.ran c.in_err-wait.ensures.end)

pub returns-in_err-play_frame-clause-ran : goal.returns-in_err-play_frame-clause-ran
returns-in_err-play_frame-clause-ran g c =
    let first = c.args.session.now.peer in
    c.peers_run_on.ensures.joined first c.wait.new.session.peer c.play_frame.new.session.peer
    (c.peers_run_on.ensures.joined first c.loop-turn.session.peer c.wait.new.session.peer c.loop-turn.invariant.ran c.in_ok-wait.ensures.ran)
    c.in_err-play_frame.ensures.ran

pub returns-in_err-play_frame-clause-end : goal.returns-in_err-play_frame-clause-end
returns-in_err-play_frame-clause-end g c =
    let first = c.args.session.now.peer in
    let error = err_from_is_err_and c.from_residual-in_err-play_frame.result c.from_residual-in_err-play_frame.ensures.1 in
    rw (error.1, error.2)
    (c.sessions_end.ensures first c.wait.new.session.peer c.play_frame.new.session.peer c.in_err-play_frame.field-0.0
    (c.peers_run_on.ensures.joined first c.loop-turn.session.peer c.wait.new.session.peer c.loop-turn.invariant.ran c.in_ok-wait.ensures.ran)
    c.in_err-play_frame.ensures.end)

pub loop-turn-preserved : goal.loop-turn-preserved
loop-turn-preserved g c =
    let first = c.args.session.now.peer in
    let window = c.args.session.now.peer.rules.window in
    let patience = c.args.rate in
    let frame = led_with g.D.Disk g.W.Wire g.C.Console c.wait.new.session.peer c.play_frame.new.session.peer c.wait.new.wire
    c.play_frame.new.wire c.wait.new.desk c.play_frame.new.desk
    (frames_of c.loop-turn.lead) (frames_of c.play_frame.new.lead) (window_of c.loop-turn.lead) (patience_of c.loop-turn.lead) window
    patience c.loop-turn.invariant.window c.loop-turn.invariant.patience c.in_ok-play_frame.ensures.frame in
    record {
      ran = c.peers_run_on.ensures.joined first c.wait.new.session.peer c.play_frame.new.session.peer
          (c.peers_run_on.ensures.joined first c.loop-turn.session.peer c.wait.new.session.peer c.loop-turn.invariant.ran c.in_ok-wait.ensures.ran)
          c.in_ok-play_frame.ensures.ran;
      few = omega (arith, c.loop-turn-test.true);
      counted = refl;
      window = c.play_frame.ensures.window ∙ c.loop-turn.invariant.window;
      patience = c.play_frame.ensures.patience ∙ c.loop-turn.invariant.patience;
      frames = subst (λ (n : ℕ). AreFrames g.D.Disk g.W.Wire g.C.Console window patience n first c.play_frame.new.session.peer
          c.args.wire.now c.play_frame.new.wire c.args.desk.now c.play_frame.new.desk
          0 (frames_of c.play_frame.new.lead)) (ap (λ (n : ℕ). n + 1) c.loop-turn.invariant.counted)
          (frames_more g.D.Disk g.W.Wire g.C.Console window patience c.loop-turn.made first c.loop-turn.session.peer c.wait.new.session.peer
          c.play_frame.new.session.peer c.args.wire.now c.loop-turn.wire c.wait.new.wire c.play_frame.new.wire
          c.args.desk.now c.loop-turn.desk c.wait.new.desk c.play_frame.new.desk 0 (frames_of c.loop-turn.lead)
          (frames_of c.play_frame.new.lead) c.loop-turn.invariant.frames c.in_ok-wait.ensures.waited frame);
    }
