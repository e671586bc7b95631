-- If no datagram was said, the part's player has said none, since its notes are a part of the log.
use Rattle.std.proofs.Common.{rules, ◌<◌, ◌%◌, length}
use Rattle.c8_rig.proofs.Growth.{nobody_said, picked}
use Rattle.c8_rig.proofs.ether.Book.pick.Goals as goal

pub returns-then-count-eq0-clause-none : goal.returns-then-count-eq0-clause-none
returns-then-count-eq0-clause-none g c =
    nobody_said c.args.part.player c.self.inside.notes.items c.args.part.notes c.self.inside.said.items (search rules) c.self.invariant.1
    (search rules)
