-- The sets of a known row have sixteen keys, so its line is a key line that spells it.
use Rattle.std.proofs.Common.{◌≡◌, ◌++◌, ◌∷◌, [], ℕ, List, sym, subst, ap, ◌∙◌, arith}
use Rattle.c8_known.specs.Confirmed.{row, rows_below}
use Rattle.c8_replay.specs.KeyText.{line_of, SpellRows}
use Rattle.c8_replay.proofs.KeyTextLemmas.{known_row, text_more, spell_more, spell_rows, length-rows}
use Rattle.c8_replay.proofs.key_text.key_text.Goals as goal

pub loop-frame-preserved : goal.loop-frame-preserved
loop-frame-preserved c =
    let k = c.args.known.now in
    let players = c.args.game.now.players in
    let frame = c.loop-frame.frame in
    let all : c.from-players.result ≡ players = c.from-players.ensures ∙ c.players.ensures.value in
    let added = rw (all, c.row-row.ensures) at c.in_ok-add_line.ensures.line in
    let sets = rw (all, c.row-row.ensures) at c.in_ok-add_line.ensures.sets in
    record {
      text = added ∙ ap (λ (text : List ℕ). text ++ (line_of players (row k frame) ++ 10 ∷ [])) c.loop-frame.invariant.text
          ∙ sym (text_more players k frame);
      spell =
          spell_more players k frame c.loop-frame.invariant.spell
          (known_row k frame players c.requires.of_game.players (omega (arith, c.players.ensures.least, c.players.ensures.value))
          (omega (arith, c.players.ensures.greatest, c.players.ensures.value)) sets);
    }

pub returns-clause-spell : goal.returns-clause-spell
returns-clause-spell c =
    let k = c.args.known.now in
    let rules = c.args.game.now in
    let frames = c.args.frames in
    let end : c.loop-frame.frame ≡ frames = omega (arith, c.loop-frame-test.false, c.loop-frame.auto.frame-end) in
    let text = rw (end) at c.loop-frame.invariant.text in
    let spell = rw (end) at c.loop-frame.invariant.spell in
    subst (λ (text : List ℕ). SpellRows rules text (rows_below k frames)) (sym text)
    (spell_rows rules (rows_below k frames) (omega (arith, c.requires.few, length-rows k frames)) spell)
