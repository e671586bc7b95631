-- Copies of honest files keep journals of one match, one a player: only memory may be missing, and nobody is accused.
use Rattle.c8_audit.proofs.HonestFileLemmas.{copies_gathered, copies_accuse_nobody}
use Rattle.c8_audit.proofs.laws.honest_files_are_never_accused_at_any_moments.Goals as goal

pub returns-clause-gathered : goal.returns-clause-gathered
returns-clause-gathered c = copies_gathered c.worlds_are_lawful.ensures

pub returns-clause-nobody : goal.returns-clause-nobody
returns-clause-nobody c = copies_accuse_nobody c.peers_are_lawful.ensures c.worlds_are_lawful.ensures
