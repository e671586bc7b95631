-- What a note delivers is read as it was spelled, so note by note the world goes on as the peers did.
use Rattle.c8_rig.proofs.Logs.{log_world}
use Rattle.c8_rig.proofs.laws.a_log_is_a_world.Goals as goal

pub returns : goal.returns
returns c = log_world c.what_is_spelled_is_read.ensures.read
