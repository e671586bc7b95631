-- A reported answer tells the same mode as the answer of the definitions, event by event.
use Rattle.c8_world.proofs.ModeLemmas.{reports_told, report_not_up}
use Rattle.c8_world.proofs.laws.reports_tell_modes.Goals as goal

pub returns-clause-modes : goal.returns-clause-modes
returns-clause-modes c rules room v events told p range few runs plays =
    reports_told c.peers_are_lawful.ensures rules room p plays range few v events told runs

pub returns-clause-down : goal.returns-clause-down
returns-clause-down c = report_not_up c.peers_are_lawful.ensures
