-- The roll's base is the run of the confirmed rows from where the opening began, serial if the checkpoints are true.
use Rattle.std.proofs.Common.{◌∙◌, ap}
use Rattle.c8_roll.specs.Roll.{RollValue, roll_of}
use Rattle.c8_roll.specs.Seen.{value_of as seen}
use Rattle.c8_roll.specs.checked.RollLaws.{roll_confirmed, roll_base}
use Rattle.c8_peer.specs.Peer.{known_by, begun_by}
use Rattle.c8_peer.proofs.ReaderLemmas.{roll_is, true_roll}
use Rattle.c8_peer.proofs.peer.Peer.base.Goals as goal

pub returns-clause-confirmed : goal.returns-clause-confirmed
returns-clause-confirmed g c =
    c.base.ensures.confirmed ∙ roll_confirmed c.args.self.now.rules (begun_by c.args.self.now) (known_by c.args.self.now) (seen c.self.inside.roll)
    (roll_is c.args.self.now c.self.inside.game.now c.self.inside.room c.self.inside.journal c.self.inside.known c.self.inside.memory
    (seen c.self.inside.roll) c.self.view_is c.self.invariant.0 c.self.invariant.1)

pub returns-clause-machine : goal.returns-clause-machine
returns-clause-machine g c =
    c.base.ensures.machine ∙ roll_base c.args.self.now.rules (begun_by c.args.self.now) (known_by c.args.self.now) (seen c.self.inside.roll)
    (roll_is c.args.self.now c.self.inside.game.now c.self.inside.room c.self.inside.journal c.self.inside.known c.self.inside.memory
    (seen c.self.inside.roll) c.self.view_is c.self.invariant.0 c.self.invariant.1)

pub returns-clause-serial : goal.returns-clause-serial
unfolding roll_of
returns-clause-serial g c = λ true_checks.
    c.base.ensures.machine ∙ ap (λ (v : RollValue). v.base)
    (true_roll c.args.self.now (seen c.self.inside.roll)
    (roll_is c.args.self.now c.self.inside.game.now c.self.inside.room c.self.inside.journal c.self.inside.known c.self.inside.memory
    (seen c.self.inside.roll) c.self.view_is c.self.invariant.0 c.self.invariant.1) true_checks)
