-- If the checkpoint is on the way, the roll since it is the roll from the first frame on.
use Rattle.std.proofs.Common.{◌∙◌}
use Rattle.c8_digest.specs.Origin.{origin_of}
use Rattle.c8_roll.specs.checked.RollLaws.{on_the_way}
use Rattle.c8_roll.proofs.roll.Roll.open_at.Goals as goal

pub returns-clause-on_the_way : goal.returns-clause-on_the_way
returns-clause-on_the_way c = λ way. c.over.ensures.roll ∙ on_the_way c.args.game.now c.args.known.now (origin_of c.args.from.now) way
