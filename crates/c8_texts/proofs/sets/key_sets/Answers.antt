-- A line of four digits adds the key set that they spell to those of the lines before it.
use Rattle.std.proofs.Common.{◌≡◌, [], ◌∷◌, ◌++◌, ◌&&◌, true, ap, sym, ◌∙◌, map}
use Rattle.std.proofs.lemmas.List.{append_assoc, map-append}
use Rattle.std.proofs.lemmas.List.Folds.{list_all-append}
use Rattle.c8_game.specs.KeysText.{is_keys_text}
use Rattle.c8_texts.specs.KeySets.{set_of}
use Rattle.c8_texts.proofs.sets.key_sets.Goals as goal

pub loop-line-preserved : goal.loop-line-preserved
loop-line-preserved c =
    let line = c.in-Some.line.now in
    let before = c.loop-line.invariant in
    let spelt = c.in-Some-from_hex.ensures in
    let same : c.in-Some-from_hex.set ≡ set_of line = ap (λ n. record { 0 = n }) spelt.1 in
    record {
      seen = before.seen ++ line ∷ [];
      cut = before.cut ∙ ap (λ left. before.seen ++ left) c.in-Some.ensures.steps ∙ sym (append_assoc before.seen (line ∷ []) _);
      spelled = list_all-append is_keys_text before.seen (line ∷ []) ∙ ap (λ b. b && (is_keys_text line && true)) before.spelled
          ∙ ap (λ b. b && true) spelt.0;
      taken = c.in-Ok.ensures.items ∙ ap (λ sets. sets ++ c.in-Some-from_hex.set ∷ []) before.taken
          ∙ ap (λ set. map set_of before.seen ++ set ∷ []) same ∙ sym (map-append set_of before.seen (line ∷ []));
    }
