-- Honest files keep journals of one match, one a player: only memory may be missing, and each verdict is yes.
use Rattle.c8_audit.proofs.HonestFileLemmas.{honest_gathered, honest_yes}
use Rattle.c8_audit.proofs.laws.honest_files_are_never_accused.Goals as goal

pub returns-clause-gathered : goal.returns-clause-gathered
returns-clause-gathered c = honest_gathered c.worlds_are_lawful.ensures

pub returns-clause-yes : goal.returns-clause-yes
returns-clause-yes c = honest_yes c.worlds_are_lawful.ensures
