-- A peer's machine is the run of its confirmed rows from where it began, and a start can name that place.
use Rattle.std.proofs.Common.{[], refl, sym, ap, subst, ◌∙◌, arith}
use Rattle.std.proofs.lemmas.List.{append-nil}
use Rattle.std.proofs.lemmas.List.FromFn.{length-map-range_with_len}
use Rattle.std.proofs.lemmas.Result.{IfOk-weaker}
use Rattle.c8_game.specs.Rules.{Rules}
use Rattle.c8_digest.specs.Origin.{Origin, run_since}
use Rattle.c8_known.specs.Confirmed.{row, confirmed, confirmed_rows}
use Rattle.c8_peer.specs.Peer.{known_by, begun_by}
use Rattle.c8_live.specs.Published.{MayShow}
use Rattle.c8_live.proofs.game.open_board.Goals as goal

pub open_at-requires : goal.open_at-requires
open_at-requires g c κs within =
    let peer = c.args.peer.now in
    let sound = c.is_sound.ensures in
    let rows = confirmed_rows (known_by peer) in
    let few = c.confirmed-confirmed.ensures.within in
    let same = c.confirmed-confirmed.ensures.value in
    let counted = c.base-frames.ensures.confirmed in
    let begins = c.starts_tell_origins.ensures (begun_by peer)
    (c.checkpoints_are_in_order.ensures.origin peer.rules peer.me peer.room peer.state.journal sound.range sound.plays.0 sound.plays.1
    sound.is_journal) in (
      within,
      (
        refl,
        (
          counted ∙ sym (length-map-range_with_len (row (known_by peer)) 0 (confirmed (known_by peer))),
          (
            omega (arith, few, same, counted, sound.range.frames),
            (
              c.base-frames.ensures.machine
                  ∙ ap (λ (rules : Rules). run_since rules (begun_by peer) rows) (sym c.requires.game)
                  ∙ ap (λ (from : Origin). run_since c.args.game.now from rows) (sym begins),
              (c.requires.some, c.requires.few),
            ),
          ),
        ),
      ),
    )

pub returns-clause-shows : goal.returns-clause-shows
returns-clause-shows g c =
    let peer = c.args.peer.now in
    let sound = c.is_sound.ensures in
    let rows = confirmed_rows (known_by peer) in
    let begins = c.starts_tell_origins.ensures (begun_by peer)
    (c.checkpoints_are_in_order.ensures.origin peer.rules peer.me peer.room peer.state.journal sound.range sound.plays.0 sound.plays.1
    sound.is_journal) in
    IfOk-weaker c.open_at.result _ _
    (λ r is. subst (MayShow peer) (sym is) (record
    { game = c.requires.game; from = begins; rows = record { rest = []; is = sym (append-nil rows) } }))
    c.open_at.ensures.pen
