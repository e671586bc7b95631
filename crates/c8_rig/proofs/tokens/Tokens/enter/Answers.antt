-- Joined with a player's part, the keeper may add a note of that player: log and part grow by the same note.
use Rattle.std.proofs.Common.{rules, ◌∙◌, sym}
use Rattle.c8_rig.proofs.TokenMoves.{joins_as, joined_is, notes_as, noted_is, parts_as, player_is}
use Rattle.c8_rig.proofs.tokens.Tokens.enter.Goals as goal

pub join_seat-requires : goal.join_seat-requires
join_seat-requires g c = (
  search rules,
  search rules,
  search rules,
  search rules,
  joins_as _ c.keeper.inside.seat.me _ c.part.inside.seat.me c.keeper.invariant c.part.invariant,
)

pub load-word-requires : goal.load-word-requires
load-word-requires g c =
    let k = c.keeper.invariant in
    let o = c.part.invariant in
    let j = joined_is c.keeper.inside.seat.me c.part.inside.seat.me _ k o c.join_seat.ensures.2 in (
      search rules,
      search rules,
      notes_as _ _ _ _ (k.0, k.1, o.0, o.1, j)
          (c.requires.player ∙ sym (player_is _ c.part.inside.seat.me c.args.part o c.part.view_is)),
    )

pub split_seat-requires : goal.split_seat-requires
split_seat-requires g c =
    let k = c.keeper.invariant in
    let o = c.part.invariant in
    let j = joined_is c.keeper.inside.seat.me c.part.inside.seat.me _ k o c.join_seat.ensures.2 in
    (search rules, search rules, parts_as _ _ (_, _, _, _, noted_is _ _ _ (k.0, k.1, o.0, o.1, j) c.load-word.ensures.2))
