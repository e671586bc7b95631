-- Four laws of c8_world are all that the laws of audits need of worlds.
use Rattle.c8_audit.proofs.below.worlds_are_lawful.Goals as goal

pub returns : goal.returns
returns c = record {
  agree = c.undropped_peers_agree.ensures;
  entered = c.confirmed_inputs_were_entered.ensures;
  checks = c.checkpoints_are_true.ensures;
  journals = c.openings_find_journals.ensures.journals;
}
