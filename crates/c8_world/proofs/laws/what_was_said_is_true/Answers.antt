-- A datagram is true and spelled when sent, and stays true as journals grow; so it never acknowledges too much.
use Rattle.c8_world.proofs.Reached.{said_holds, said_spells}
use Rattle.c8_world.proofs.Answered.{never_bad_ack}
use Rattle.c8_world.proofs.laws.what_was_said_is_true.Goals as goal

pub returns-clause-said : goal.returns-clause-said
returns-clause-said c = said_holds c.peers_are_lawful.ensures

pub returns-clause-spelled : goal.returns-clause-spelled
returns-clause-spelled c = said_spells c.peers_are_lawful.ensures

pub returns-clause-acks : goal.returns-clause-acks
returns-clause-acks c = never_bad_ack c.peers_are_lawful.ensures
