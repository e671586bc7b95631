-- Keeper and part may join and separate; while joined they show that the part is its player's part of the log.
use Rattle.std.proofs.Common.{rules, ◌∙◌}
use Rattle.c8_rig.proofs.TokenMoves.{joins_as, joined_is, compares_as, parts_as}
use Rattle.c8_rig.proofs.tokens.Tokens.compare.Goals as goal

pub join_seat-requires : goal.join_seat-requires
join_seat-requires c = (
  search rules,
  search rules,
  search rules,
  search rules,
  joins_as _ c.keeper.inside.seat.me _ c.part.inside.seat.me c.keeper.invariant c.part.invariant,
)

pub load-word-requires : goal.load-word-requires
load-word-requires c =
    let k = c.keeper.invariant in
    let o = c.part.invariant in
    let j = joined_is c.keeper.inside.seat.me c.part.inside.seat.me _ k o c.join_seat.ensures.2 in
    (search rules, search rules, compares_as _ _ _ (k.0, k.1, o.0, o.1, j))

pub split_seat-requires : goal.split_seat-requires
split_seat-requires c =
    let k = c.keeper.invariant in
    let o = c.part.invariant in
    let j = joined_is c.keeper.inside.seat.me c.part.inside.seat.me _ k o c.join_seat.ensures.2 in
    (search rules, search rules, parts_as _ _ (k.0, k.1, o.0, o.1, c.load-word.ensures.2.0 ∙ j))
