-- The whole theorem: the fields of `IsHeadline`, which are laws too, for every chain; for `World::run` and c8_rig.
use Rattle.c8_world.proofs.Answered.{headline}
use Rattle.c8_world.proofs.laws.any_two_moments_agree.Goals as goal

pub returns : goal.returns
returns c = headline c.peers_are_lawful.ensures
