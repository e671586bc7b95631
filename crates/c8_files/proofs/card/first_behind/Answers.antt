-- The first line that begins so is found: none of those before it does.
use Rattle.std.proofs.Common.{◌≡◌, [], ◌∷◌, ◌++◌, refl, ap, sym, ◌∙◌}
use Rattle.std.proofs.lemmas.Bool.Decides.{Decides-eqb}
use Rattle.std.proofs.lemmas.List.{append_assoc}
use Rattle.std.proofs.lemmas.Slice.Eq.{strip_prefix_is}
use Rattle.c8_game.specs.Lines.{lines_left}
use Rattle.c8_files.proofs.CardLemmas.{none_more, not_behind, first_found}
use Rattle.c8_files.proofs.card.first_behind.Goals as goal

pub loop-line-preserved : goal.loop-line-preserved
loop-line-preserved c =
    let before = c.loop-line.invariant in
    let line = c.in-Some.line.now in
    let begin = c.args.begin.now in
    record {
      seen = before.seen ++ line ∷ [];
      cut = before.cut ∙ ap (λ left. before.seen ++ left) c.in-Some.ensures.steps ∙ sym (append_assoc before.seen (line ∷ []) _);
      none = none_more begin before.seen line before.none
          (not_behind line begin c.strip_prefix-rest.result (sym c.if-is_some.ensures)
          (strip_prefix_is Decides-eqb line begin c.strip_prefix-rest.result c.strip_prefix-rest.ensures.cases));
    }

pub returns-then-is_some : goal.returns-then-is_some
returns-then-is_some c =
    let before = c.loop-line.invariant in
    let line = c.in-Some.line.now in
    let begin = c.args.begin.now in
    first_found line begin _ before.seen (lines_left c.next.new.self) c.strip_prefix-rest.result (sym c.if-is_some.ensures)
    (strip_prefix_is Decides-eqb line begin c.strip_prefix-rest.result c.strip_prefix-rest.ensures.cases)
    (before.cut ∙ ap (λ left. before.seen ++ left) c.in-Some.ensures.steps) before.none
