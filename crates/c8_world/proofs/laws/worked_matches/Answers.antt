-- Each match is computed in proofs/Matches.antt.
use Rattle.c8_world.proofs.Matches.{two_range, three_range, four_range, goes_in_turn, stops_in_tick, cuts_where_held, cuts_after_restart}
use Rattle.c8_world.proofs.Matches.{waits_for_silent, differs_when_dropped, only_of_undropped, ends_after_last_frame, refuses_other}
use Rattle.std.proofs.Common.{arith}
use Rattle.c8_world.proofs.laws.worked_matches.Goals as goal

pub returns-clause-ranges : goal.returns-clause-ranges
returns-clause-ranges c = (
  two_range 100 1 (omega arith) (omega arith) (omega arith) (omega arith),
  two_range 100 8 (omega arith) (omega arith) (omega arith) (omega arith),
  two_range 1 1 (omega arith) (omega arith) (omega arith) (omega arith),
  three_range,
  four_range,
)

pub returns-clause-turns : goal.returns-clause-turns
returns-clause-turns c = goes_in_turn c.peers_are_lawful.ensures

pub returns-clause-stops : goal.returns-clause-stops
returns-clause-stops c = stops_in_tick c.peers_are_lawful.ensures

pub returns-clause-cuts : goal.returns-clause-cuts
returns-clause-cuts c = cuts_where_held c.peers_are_lawful.ensures

pub returns-clause-restarts : goal.returns-clause-restarts
returns-clause-restarts c = cuts_after_restart c.peers_are_lawful.ensures

pub returns-clause-waits : goal.returns-clause-waits
returns-clause-waits c = waits_for_silent c.peers_are_lawful.ensures

pub returns-clause-differs : goal.returns-clause-differs
returns-clause-differs c = differs_when_dropped c.peers_are_lawful.ensures

pub returns-clause-undropped : goal.returns-clause-undropped
returns-clause-undropped c = only_of_undropped c.peers_are_lawful.ensures

pub returns-clause-ends : goal.returns-clause-ends
returns-clause-ends c = ends_after_last_frame c.peers_are_lawful.ensures

pub returns-clause-refuses : goal.returns-clause-refuses
returns-clause-refuses c = refuses_other
