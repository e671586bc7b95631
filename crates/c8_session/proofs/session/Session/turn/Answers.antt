-- The three parts follow each other; what is not reached after an error has done nothing.
use Rattle.std.proofs.lemmas.Result.{err_from_is_err_and}
use Rattle.c8_session.specs.Turns.{Cuts, Saves}
use Rattle.c8_session.specs.checked.Joins.{called_still, none_called}
use Rattle.c8_session.proofs.session.Session.turn.Goals as goal

pub returns-in_err-drop_silent-clause-turned : goal.returns-in_err-drop_silent-clause-turned
returns-in_err-drop_silent-clause-turned g c =
    let here = c.drop_silent.new.self.peer in
    record {
      dropped = here;
      cut = here;
      drops = c.drop_silent.ensures.ran;
      cuts = called_still g.D.Disk Cuts here;
      saves = none_called g.D.Disk Saves here;
    }

pub returns-in_err-cut-clause-turned : goal.returns-in_err-cut-clause-turned
returns-in_err-cut-clause-turned g c =
    let here = c.cut.new.self.peer in
    record {
      dropped = c.drop_silent.new.self.peer;
      cut = here;
      drops = c.drop_silent.ensures.ran;
      cuts = c.cut.ensures.ran;
      saves = none_called g.D.Disk Saves here;
    }

pub returns-in_err-cut-clause-stopped : goal.returns-in_err-cut-clause-stopped
returns-in_err-cut-clause-stopped g c =
    let error = err_from_is_err_and c.from_residual-in_err-cut.result c.from_residual-in_err-cut.ensures.1 in
    rw (error.1, error.2)
    (c.peers_run_on.ensures.stopped c.args.self.now.peer c.drop_silent.new.self.peer c.cut.new.self.peer c.in_err-cut.field-0.0
    c.drop_silent.ensures.ran.done.ran c.in_err-cut.ensures.stopped)

pub returns-in_err-save-clause-stopped : goal.returns-in_err-save-clause-stopped
returns-in_err-save-clause-stopped g c =
    let error = err_from_is_err_and c.from_residual-in_err-save.result c.from_residual-in_err-save.ensures.1 in
    rw (error.1, error.2)
    (c.peers_run_on.ensures.stopped c.args.self.now.peer c.cut.new.self.peer c.save.new.self.peer c.in_err-save.field-0.0
    (c.peers_run_on.ensures.joined c.args.self.now.peer c.drop_silent.new.self.peer c.cut.new.self.peer c.drop_silent.ensures.ran.done.ran
    c.cut.ensures.ran.done.ran) c.in_err-save.ensures.stopped)
