-- Inputs that the leaver itself brings are ruled out before, so the only refusal is the misfit of the definition.
use Rattle.std.proofs.Common.{refl}
use Rattle.c8_wire.specs.Lent.{words}
use Rattle.c8_known.specs.checked.FreshLaws.{misfit_none, misfit_is}
use Rattle.c8_peer.proofs.hearing.fresh_part.Goals as goal

pub returns-in-Ok-clause-fits : goal.returns-in-Ok-clause-fits
returns-in-Ok-clause-fits c = λ m fitting.
    let fits = misfit_none c.args.known.now c.args.player.number c.args.teller.number c.args.start (words c.args.run) c.in-Ok.ensures.judged in
    rw fits refl

pub returns-in-Err-clause-fits : goal.returns-in-Err-clause-fits
returns-in-Err-clause-fits c = λ m fitting.
    let misfits = misfit_is c.args.known.now c.args.player.number c.args.teller.number c.args.start (words c.args.run) c.in-Err.error
    c.in-Err.ensures.judged c.requires.taken in
    rw misfits refl
