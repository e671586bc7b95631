-- The word that a viewer finds is that of published rows, which begin with all that it saw before.
use Rattle.std.proofs.Common.{rules}
use Rattle.c8_live.proofs.TokenMoves.{looks_as, still_viewer, sees}
use Rattle.c8_live.proofs.board.Board.look.Goals as goal

pub load-requires : goal.load-requires
load-requires c = (search rules, search rules, looks_as _ c.viewer.inside.seat.id c.viewer.inside.seat.me c.viewer.invariant)

pub invariant_of-viewer : goal.invariant_of-viewer
invariant_of-viewer c = still_viewer c.viewer.inside.seat.me _ _ c.viewer.invariant c.load.ensures.2

pub returns : goal.returns
returns c = sees _ _ c.viewer.inside.seat.me _ _ _ _ c.viewer.invariant c.viewer.view_is c.load.ensures.2 c.load.ensures.0
    c.of.ensures.count c.of.ensures.bits
