-- The place found is that of the first line that is not four digits: all lines before it are.
use Rattle.std.proofs.Common.{◌≡◌, [], ◌∷◌, ◌++◌, true, false, refl, arith, ap, sym, ◌∙◌, length, length-append}
use Rattle.std.proofs.lemmas.List.{append_assoc}
use Rattle.c8_game.specs.checked.FaultLaws.{faultless_more, first_placed}
use Rattle.c8_game.specs.KeysText.{is_keys_text, keys_number}
use Rattle.c8_game.specs.checked.LineLaws.{few_lines}
use Rattle.c8_game.specs.Lines.{lines_left}
use Rattle.c8_texts.specs.KeySets.{set_fault}
use Rattle.c8_texts.specs.declared.error.KeysError.TheVariants.{Line}
use Rattle.c8_texts.proofs.KeyLineLemmas.{found_some, found_none}
use Rattle.c8_texts.proofs.sets.faulty_key_set.Goals as goal

-- the line count does not overflow
pub overflow_add-place : goal.overflow_add-place
overflow_add-place c =
    let before = c.loop-line.invariant in
    let cut = before.cut ∙ ap (λ left. before.seen ++ left) c.in-Some.ensures.steps in
    omega (arith, before.here, few_lines c.args.text.now, ap length cut, length-append before.seen (c.in-Some.line.now ∷ lines_left c.next.new.self))

pub loop-line-preserved : goal.loop-line-preserved
loop-line-preserved c =
    let line = c.in-Some.line.now in
    let before = c.loop-line.invariant in
    let spelt : is_keys_text line ≡ true = found_some c.from_hex.result _ (λ keys. (is_keys_text line ≡ true) × (keys.0 ≡ keys_number line))
    (is_keys_text line ≡ true) c.if-is_none.ensures c.from_hex.ensures (λ keys found. found.0) in
    record {
      seen = before.seen ++ line ∷ [];
      cut = before.cut ∙ ap (λ left. before.seen ++ left) c.in-Some.ensures.steps ∙ sym (append_assoc before.seen (line ∷ []) _);
      faultless = faultless_more set_fault before.seen line before.faultless (rw spelt refl);
      here = omega (arith, before.here, length-append before.seen (line ∷ []));
    }

-- the line is not four digits, and those before it are
pub returns-then-is_none : goal.returns-then-is_none
returns-then-is_none c =
    let line = c.in-Some.line.now in
    let before = c.loop-line.invariant in
    let none : is_keys_text line ≡ false = found_none c.from_hex.result (is_keys_text line ≡ false)
    (λ keys. (is_keys_text line ≡ true) × (keys.0 ≡ keys_number line)) c.if-is_none.ensures c.from_hex.ensures in
    rw (before.cut, c.in-Some.ensures.steps, before.here) (Line, first_placed set_fault before.seen line _ Line before.faultless (rw none refl))
