-- A pending record still fits while other journals grow, so a read finds a journal with it or without; for c8_audit.
use Rattle.c8_world.proofs.Openings.{found_journal, openings_fit}
use Rattle.c8_world.proofs.laws.openings_find_journals.Goals as goal

pub returns-clause-journals : goal.returns-clause-journals
returns-clause-journals c = found_journal c.peers_are_lawful.ensures

pub returns-clause-fit : goal.returns-clause-fit
returns-clause-fit c = openings_fit c.peers_are_lawful.ensures
