-- So many turns were made, the pen shows what the peer has confirmed, and its machine began where it did at first.
use Rattle.std.specs.Prelude.{◌≡◌, length}
use Rattle.c8_live.specs.Tokens.{Begins}
use Rattle.c8_known.specs.Confirmed.{confirmed_rows}
use Rattle.c8_peer.specs.Peer.{known_by, begun_by, IsSound}
use Rattle.c8_live.specs.Published.{IsShown}
use Rattle.c8_session.specs.Runs.{HasRunOn}
use Rattle.c8_live.specs.Turns.{AreTurns}
use Rattle.c8_live.proofs.game.game_worker.Given as goal

abbrev pub invariant-loop-turn : goal.invariant-loop-turn
invariant-loop-turn g l = record {
  made : l.made ≡ l.turn;
  turns : AreTurns g.D.Disk g.W.Wire l.turn l.initial.session.peer l.session.peer l.initial.wire l.wire;
  ran : HasRunOn g.D.Disk l.initial.session.peer l.session.peer;
  sound : IsSound g.D.Disk l.session.peer;
  begun : begun_by l.session.peer ≡ begun_by l.initial.session.peer;
  published : l.published ≡ length l.pen.rows;
  shown : IsShown l.session.peer l.fn.pen l.pen;
  begins : Begins l.fn.pen.rows (confirmed_rows (known_by l.session.peer));
}
