-- The words of a run are bytes, so a STATE of the own player may follow exactly if its piece comes next.
use Rattle.std.proofs.Common.{rules}
use Rattle.c8_wire.specs.Lent.{words}
use Rattle.c8_record.specs.checked.CheckLaws.{words_low}
use Rattle.c8_record.proofs.allowed.may_state.Goals as goal

pub returns-then-player-me : goal.returns-then-player-me
returns-then-player-me c = let low = words_low (words c.args.run) in search rules
