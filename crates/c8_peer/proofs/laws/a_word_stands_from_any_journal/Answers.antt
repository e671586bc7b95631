-- From a lawful state a run stays lawful, true checkpoints stay true, and so does what is said; for c8_embed, c8_live.
use Rattle.c8_peer.proofs.RunLemmas.{sound_lawful, reached_lawful, run_lawful, said_stands, run_confirms, run_keeps_rows, run_tells}
use Rattle.c8_peer.specs.checked.TrueCheckLaws.{no_check_true}
use Rattle.c8_peer.proofs.laws.a_word_stands_from_any_journal.Goals as goal

pub returns-clause-sound : goal.returns-clause-sound
returns-clause-sound g c = sound_lawful g.D.Disk

pub returns-clause-reached : goal.returns-clause-reached
returns-clause-reached g c = reached_lawful

pub returns-clause-stays : goal.returns-clause-stays
returns-clause-stays g c = run_lawful

pub returns-clause-said : goal.returns-clause-said
returns-clause-said g c = said_stands

pub returns-clause-confirmed : goal.returns-clause-confirmed
returns-clause-confirmed g c = run_confirms

pub returns-clause-rows : goal.returns-clause-rows
returns-clause-rows g c = run_keeps_rows

pub returns-clause-checks : goal.returns-clause-checks
returns-clause-checks g c = run_tells

pub returns-clause-first_form : goal.returns-clause-first_form
returns-clause-first_form g c = no_check_true
