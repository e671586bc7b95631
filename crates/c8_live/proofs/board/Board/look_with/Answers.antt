-- Who holds the pen and a viewer finds the pen's own word, and can part the two again.
use Rattle.std.proofs.Common.{rules, ◌∙◌}
use Rattle.c8_live.proofs.TokenMoves.{joins_as, joined_is, compares_as, parts_as, told, look_is, pen_is}
use Rattle.c8_live.specs.Starts.{origin_from}
use Rattle.c8_live.proofs.board.Board.look_with.Goals as goal

pub join_seat-requires : goal.join_seat-requires
join_seat-requires c = (
  search rules,
  search rules,
  search rules,
  search rules,
  joins_as _ c.pen.inside.seat.me _ c.viewer.inside.seat.me c.pen.invariant c.viewer.invariant,
)

pub load-found-requires : goal.load-found-requires
load-found-requires c =
    let p = c.pen.invariant in
    let v = c.viewer.invariant in
    let j = joined_is c.pen.inside.seat.me c.viewer.inside.seat.me _ p v c.join_seat.ensures.2 in
    (search rules, search rules, compares_as _ _ _ (p.0, p.1, p.2, v.0, j))

pub split_seat-apart-requires : goal.split_seat-apart-requires
split_seat-apart-requires c =
    let p = c.pen.invariant in
    let v = c.viewer.invariant in
    let j = joined_is c.pen.inside.seat.me c.viewer.inside.seat.me _ p v c.join_seat.ensures.2 in
    (search rules, search rules, parts_as _ _ (p.0, p.1, p.2, v.0, c.load-found.ensures.2.0 ∙ j))

pub returns-clause-look : goal.returns-clause-look
returns-clause-look c =
    let p = c.pen.invariant in
    let v = c.viewer.invariant in
    let j = joined_is c.pen.inside.seat.me c.viewer.inside.seat.me _ p v c.join_seat.ensures.2 in
    look_is p.0 (origin_from p.1) p.2 c.load-found.result c.of.result
    (told c.join_seat.new.seat.me _ _ (p.0, p.1, p.2, v.0, j) c.load-found.ensures.2).0 c.of.ensures.count c.of.ensures.bits
    ∙ pen_is _ c.pen.inside.seat.me c.args.pen p c.pen.view_is
