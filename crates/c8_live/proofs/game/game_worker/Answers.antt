-- Confirmed rows only grow and a machine's start stays, so the pen may publish what each turn confirmed.
use Rattle.std.proofs.Common.{◌≡◌, ◌+◌, refl, length, List, ap, subst, sym, ◌∙◌, arith}
use Rattle.std.proofs.lemmas.Result.{err_from_is_err_and}
use Rattle.c8_game.specs.declared.row.Row.{Row}
use Rattle.c8_live.specs.Starts.{origin_from}
use Rattle.c8_live.specs.Tokens.{PenValue, Begins}
use Rattle.c8_known.specs.Confirmed.{confirmed_rows}
use Rattle.c8_peer.specs.Peer.{PeerValue, known_by, begun_by, IsSound}
use Rattle.c8_live.specs.Published.{IsShown}
use Rattle.c8_live.proofs.RunLemmas.{begins_then}
use Rattle.c8_live.proofs.game.game_worker.Goals as goal
use Rattle.c8_live.proofs.game.game_worker.Goals.{then-is_over-via-then-is_over, then-is_over-via-else-is_over+then-stop_asked}
use Rattle.c8_live.proofs.game.game_worker.Goals.{then-is_over-via-else-is_over+else-stop_asked+then-not-before}

-- the rows of a pen that shows these
shown_rows : (pen : PenValue) (rows : List Row) (early : List Row) → pen.rows ≡ rows → Begins early rows → Begins early pen.rows
shown_rows pen rows early is begins = subst (λ (l : List Row). Begins early l) (sym is) begins

-- a pen that shows these rows after others
show_again : (first old new : PenValue) (one two : List Row) → old ≡ record first { rows = one } → new ≡ record old { rows = two }
    → new ≡ record first { rows = two }
show_again first old new one two shown again = again ∙ ap (λ (pen : PenValue). record pen { rows = two }) shown

pub returns-in_err-turn_with-clause-turns : goal.returns-in_err-turn_with-clause-turns
returns-in_err-turn_with-clause-turns g c = (
  c.loop-turn.turn + 1,
  omega arith,
  (let error = err_from_is_err_and c.from_residual.result c.from_residual.ensures.1 in rw error.1 tt),
  c.turns_join.ensures.more c.loop-turn.turn c.args.session.now.peer c.loop-turn.session.peer c.turn_with.new.session.peer c.args.wire.now
      c.loop-turn.wire c.turn_with.new.wire c.loop-turn.invariant.turns c.in_err-turn_with.ensures.turn,
)

pub returns-in_err-turn_with-clause-end : goal.returns-in_err-turn_with-clause-end
returns-in_err-turn_with-clause-end g c =
    let error = err_from_is_err_and c.from_residual.result c.from_residual.ensures.1 in
    rw (error.1, error.2)
    (c.sessions_end.ensures c.args.session.now.peer c.loop-turn.session.peer c.turn_with.new.session.peer c.in_err-turn_with.field-0.0
    c.loop-turn.invariant.ran c.in_err-turn_with.ensures.end)

pub returns-in_err-turn_with-clause-begins : goal.returns-in_err-turn_with-clause-begins
returns-in_err-turn_with-clause-begins g c =
    shown_rows c.stop_asked.new.pen (confirmed_rows (known_by c.loop-turn.session.peer)) c.args.pen.now.rows
    (ap (λ (pen : PenValue). pen.rows) (c.stop_asked.ensures ∙ c.loop-turn.invariant.shown)) c.loop-turn.invariant.begins

pub publish_more-published-requires-clause-rows : goal.publish_more-published-requires-clause-rows
publish_more-published-requires-clause-rows g c =
    subst (λ (peer : PeerValue g.row.D.Denot). Begins c.stop_asked.new.pen.rows (confirmed_rows (known_by peer))) (sym c.peer-in-loop-turn.ensures)
    (subst (λ (rows : List Row). Begins rows (confirmed_rows (known_by c.turn_with.new.session.peer)))
    (sym (ap (λ (pen : PenValue). pen.rows) (c.stop_asked.ensures ∙ c.loop-turn.invariant.shown)))
    (c.confirmed_rows_grow.ensures c.loop-turn.session.peer c.turn_with.new.session.peer c.loop-turn.invariant.sound c.in_ok-turn_with.ensures.ran))

-- where the run of a pen begins that shows other rows
still_from : (first old new : PenValue) (rows : List Row) → old ≡ record first { rows = rows } → new ≡ old → new.from ≡ first.from
still_from first old new rows shown same = ap (λ (pen : PenValue). pen.from) (same ∙ shown)

pub publish_more-published-requires-clause-from : goal.publish_more-published-requires-clause-from
publish_more-published-requires-clause-from g c =
    ap origin_from (still_from c.args.pen.now c.loop-turn.pen c.stop_asked.new.pen (confirmed_rows (known_by c.loop-turn.session.peer))
    c.loop-turn.invariant.shown c.stop_asked.ensures)
    ∙ c.requires.from ∙ sym c.loop-turn.invariant.begun
    ∙ sym (c.machines_begin_where_they_did.ensures c.loop-turn.session.peer c.turn_with.new.session.peer c.loop-turn.invariant.sound
    c.in_ok-turn_with.ensures.ran)
    ∙ ap begun_by (sym c.peer-in-loop-turn.ensures)

pub loop-turn-preserved : goal.loop-turn-preserved
loop-turn-preserved g c = record {
  made = refl;
  turns = c.turns_join.ensures.more c.loop-turn.turn c.args.session.now.peer c.loop-turn.session.peer c.turn_with.new.session.peer
      c.args.wire.now c.loop-turn.wire c.turn_with.new.wire c.loop-turn.invariant.turns c.in_ok-turn_with.ensures.turn;
  published = c.publish_more-published.ensures.published;
  ran = c.peers_run_on.ensures.joined c.args.session.now.peer c.loop-turn.session.peer c.turn_with.new.session.peer
      c.loop-turn.invariant.ran c.in_ok-turn_with.ensures.ran;
  sound = subst (IsSound g.D.Disk) c.peer-in-loop-turn.ensures c.publish_more-published.ensures.sound;
  begun = c.machines_begin_where_they_did.ensures c.loop-turn.session.peer c.turn_with.new.session.peer c.loop-turn.invariant.sound
      c.in_ok-turn_with.ensures.ran ∙ c.loop-turn.invariant.begun;
  shown = subst (λ (peer : PeerValue g.row.D.Denot). IsShown peer c.args.pen.now c.publish_more-published.new.pen) c.peer-in-loop-turn.ensures
      (show_again c.args.pen.now c.stop_asked.new.pen c.publish_more-published.new.pen (confirmed_rows (known_by c.loop-turn.session.peer))
      (confirmed_rows (known_by c.peer-in-loop-turn.result.now))
      (c.stop_asked.ensures ∙ c.loop-turn.invariant.shown) c.publish_more-published.ensures.shown);
  begins = begins_then c.args.pen.now.rows (confirmed_rows (known_by c.loop-turn.session.peer))
      (confirmed_rows (known_by c.turn_with.new.session.peer)) c.loop-turn.invariant.begins
      (c.confirmed_rows_grow.ensures c.loop-turn.session.peer c.turn_with.new.session.peer c.loop-turn.invariant.sound c.in_ok-turn_with.ensures.ran);
}

pub returns-after-loop-turn-clause-begins : goal.returns-after-loop-turn-clause-begins
returns-after-loop-turn-clause-begins g c =
    shown_rows c.loop-turn.pen (confirmed_rows (known_by c.loop-turn.session.peer)) c.args.pen.now.rows
    (ap (λ (pen : PenValue). pen.rows) c.loop-turn.invariant.shown) c.loop-turn.invariant.begins

pub returns-then-is_over-clause-begins : goal.returns-then-is_over-clause-begins
returns-then-is_over-clause-begins g c =
    shown_rows c.then-is_over.pen (confirmed_rows (known_by c.loop-turn.session.peer)) c.args.pen.now.rows
    (elim c.then-is_over.branch [
      | then-is_over-via-then-is_over w ↦ ap (λ (pen : PenValue). pen.rows) (w.pen-is ∙ c.loop-turn.invariant.shown)
      | then-is_over-via-else-is_over+then-stop_asked w ↦ ap (λ (pen : PenValue). pen.rows)
          (w.pen-is ∙ w.stop_asked.ensures ∙ c.loop-turn.invariant.shown)
      | then-is_over-via-else-is_over+else-stop_asked+then-not-before w ↦ ap (λ (pen : PenValue). pen.rows)
          (w.pen-is ∙ w.stop_asked.ensures ∙ c.loop-turn.invariant.shown)
    ])
    c.loop-turn.invariant.begins

pub publish_more-published-requires-clause-published : goal.publish_more-published-requires-clause-published
publish_more-published-requires-clause-published g c =
    c.loop-turn.invariant.published ∙ ap (λ (pen : PenValue). length pen.rows) (sym c.stop_asked.ensures)
