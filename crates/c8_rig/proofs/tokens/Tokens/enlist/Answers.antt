-- The keeper may make a part for the next player, who has no notes in the log yet.
use Rattle.std.proofs.Common.{rules}
use Rattle.c8_rig.proofs.TokenMoves.{enlists_as}
use Rattle.c8_rig.proofs.tokens.Tokens.enlist.Goals as goal

pub split_seat-requires : goal.split_seat-requires
split_seat-requires c = (search rules, search rules, enlists_as c.keeper.inside.seat.id c.keeper.inside.seat.me c.keeper.invariant)
