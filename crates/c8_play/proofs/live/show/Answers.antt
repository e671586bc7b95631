-- What is painted is the screen of the run of the best rows; what happens before writes nothing at the desk.
use Rattle.std.proofs.Common.{◌≡◌, ap, subst, ◌∙◌}
use Rattle.c8_machine.specs.State.{State}
use Rattle.c8_screen.specs.Points.{Points, points_of}
use Rattle.c8_play.specs.Desk.{HasShown}
use Rattle.c8_play.specs.Frames.{points_shown}
use Rattle.c8_play.proofs.DeskLemmas.{same_chain, shown_from}
use Rattle.c8_play.proofs.live.show.Goals as goal

pub returns-clause-seen : goal.returns-clause-seen
returns-clause-seen g c =
    let help = same_chain g.C.Console c.args.desk.now c.take_spoilt.new.self c.take_wants_help.new.self c.take_spoilt.ensures
    c.take_wants_help.ensures in
    let first = same_chain g.C.Console c.args.desk.now c.take_wants_help.new.self c.consider.new.desk help c.consider.ensures.desk in
    let same = same_chain g.C.Console c.args.desk.now c.consider.new.desk c.now-now.new.self first c.now-now.ensures in
    let points : points_of c.screen.result.now ≡ points_shown c.args.session.now.peer =
    c.screen.ensures ∙ ap (λ (m : State). m.screen) c.shown.ensures.value ∙ ap points_shown (c.peer-peer.ensures ∙ c.consider.ensures.peer) in
    record {
      typing_is = c.show.ensures.typing ∙ same.typing_is;
      shown = subst (λ (seen : Points). HasShown g.C.Console seen c.args.desk.now c.show.new.self) points
          (shown_from g.C.Console (points_of c.screen.result.now) c.args.desk.now c.now-now.new.self c.show.new.self same c.show.ensures.shown);
    }
