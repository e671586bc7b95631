-- With true checkpoints each base is the serial run of its confirmed rows, and undropped peers have the same rows.
use Rattle.c8_world.proofs.Reached.{base_serial, one_machine}
use Rattle.c8_world.proofs.laws.undropped_peers_have_one_machine.Goals as goal

pub returns-clause-serial : goal.returns-clause-serial
returns-clause-serial c = base_serial c.peers_are_lawful.ensures c.a_run_may_begin_on_the_way.ensures.roll

pub returns-clause-same : goal.returns-clause-same
returns-clause-same c = one_machine c.peers_are_lawful.ensures c.a_run_may_begin_on_the_way.ensures.roll
