-- A first record that is this match's HEAD, but of another player, is refused as the wrong player's.
use Rattle.std.proofs.Common.{rules}
use Rattle.c8_record.proofs.allowed.judge_first.Goals as goal

pub returns-then-player-me : goal.returns-then-player-me
returns-then-player-me c = search rules
