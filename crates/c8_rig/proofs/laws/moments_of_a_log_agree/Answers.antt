-- A front of the log leads to a world and the notes behind it to a later one, and two such worlds agree.
use Rattle.c8_rig.proofs.Logs.{moments_of_log}
use Rattle.c8_rig.proofs.laws.moments_of_a_log_agree.Goals as goal

pub returns : goal.returns
returns c = moments_of_log c.what_is_spelled_is_read.ensures.read c.any_two_moments_agree.ensures
