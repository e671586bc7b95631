-- The machine is the run of all confirmed rows from the pen's start, and they are no more than the game's frames.
use Rattle.std.proofs.Common.{length, refl, sym, ap, ◌∙◌, arith}
use Rattle.std.proofs.lemmas.List.FromFn.{length-map-range_with_len}
use Rattle.c8_live.specs.Tokens.{PenValue}
use Rattle.c8_game.specs.Rules.{Rules}
use Rattle.c8_digest.specs.Origin.{Origin, run_since}
use Rattle.c8_known.specs.Confirmed.{row, confirmed, confirmed_rows}
use Rattle.c8_peer.specs.Peer.{known_by, begun_by}
use Rattle.c8_live.proofs.game.publish.Goals as goal

pub show-requires : goal.show-requires
show-requires g c κs within =
    let peer = c.args.peer.now in
    let pen = c.args.pen.now in
    let rows = confirmed_rows (known_by peer) in
    let few = c.confirmed-confirmed.ensures.within in
    let same = c.confirmed-confirmed.ensures.value in
    let counted = c.base-count.ensures.confirmed in
    let range = c.is_sound.ensures.range in (
      within,
      (
        refl,
        (
          c.requires.board,
          (
            c.requires.rows,
            (
              counted ∙ sym (length-map-range_with_len (row (known_by peer)) 0 (confirmed (known_by peer))),
              (
                omega (arith, few, same, counted, range.frames),
                c.base-count.ensures.machine
                    ∙ ap (λ (rules : Rules). run_since rules (begun_by peer) rows) (sym c.requires.game)
                    ∙ ap (λ (from : Origin). run_since pen.game from rows) (sym c.requires.from),
              ),
            ),
          ),
        ),
      ),
    )

pub returns-clause-published : goal.returns-clause-published
returns-clause-published g c =
    c.base-count.ensures.confirmed ∙ sym (length-map-range_with_len (row (known_by c.args.peer.now)) 0 (confirmed (known_by c.args.peer.now)))
    ∙ ap (λ (pen : PenValue). length pen.rows) (sym c.show.ensures)
