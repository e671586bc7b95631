-- The peer has heard packets and done nothing else, and the desk is as it was.
use Rattle.c8_session.specs.Runs.{HasRunOn}
use Rattle.c8_play.specs.Frames.{HasWaited}
use Rattle.c8_play.proofs.live.wait.Given as goal

abbrev pub invariant-loop : goal.invariant-loop
invariant-loop g l = record {
  ran : HasRunOn g.D.Disk l.initial.session.peer l.session.peer;
  waited : HasWaited g.D.Disk g.W.Wire g.C.Console l.initial.session.peer l.session.peer l.initial.wire l.wire l.initial.desk l.desk;
}
