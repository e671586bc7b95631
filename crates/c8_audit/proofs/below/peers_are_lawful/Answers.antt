-- The five laws of c8_round and c8_peer on which all laws of worlds rest, in one record.
use Rattle.c8_audit.proofs.below.peers_are_lawful.Goals as goal

pub returns : goal.returns
returns c = record {
  answered = c.ready_means_all_have_answered.ensures.answered;
  reports = c.a_report_changes_one_place.ensures;
  opening_allowed = c.openings_are_lawful.ensures.keeps;
  opening_memory = c.openings_are_lawful.ensures.memory;
  keeps_allowed = c.steps_are_lawful.ensures.keeps;
  keeps_true = c.steps_are_lawful.ensures.checks;
  opening_true = c.openings_are_lawful.ensures.checks;
  memory_kept = c.steps_are_lawful.ensures.memory;
  memory_grows = c.steps_are_lawful.ensures.grows;
  said_true = c.steps_are_lawful.ensures.says;
  said_spelled = c.steps_are_lawful.ensures.spelled;
  calls_tell = c.answers_tell_modes.ensures.calls;
  openings_tell = c.answers_tell_modes.ensures.openings;
}
