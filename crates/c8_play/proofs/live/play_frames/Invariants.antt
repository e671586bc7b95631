-- One frame a turn so far, each after a wait, all with the window of the game and the patience of the rate.
use Rattle.std.specs.Prelude.{◌≡◌, ◌≤◌}
use Rattle.c8_session.specs.Runs.{HasRunOn}
use Rattle.c8_play.specs.Frames.{AreFrames}
use Rattle.c8_play.specs.Lead.{window_of, patience_of, frames_of}
use Rattle.c8_play.proofs.live.play_frames.Given as goal

abbrev pub invariant-loop-turn : goal.invariant-loop-turn
invariant-loop-turn g l = record {
  ran : HasRunOn g.D.Disk l.initial.session.peer l.session.peer;
  few : l.made ≤ l.asked.turns;
  counted : l.made ≡ l.turn;
  window : window_of l.lead ≡ l.initial.session.peer.rules.window;
  patience : patience_of l.lead ≡ l.rate;
  frames : AreFrames g.D.Disk g.W.Wire g.C.Console l.initial.session.peer.rules.window l.rate l.made l.initial.session.peer l.session.peer
      l.initial.wire l.wire l.fn.desk l.desk 0 (frames_of l.lead);
}
