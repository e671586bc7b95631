-- The line that is read after `place` others is the one at that place.
use Rattle.std.proofs.Common.{ap, ◌∙◌}
use Rattle.std.specs.List.{slice_get}
use Rattle.c8_game.proofs.LineLemmas.{line_after}
use Rattle.c8_game.proofs.text.lines.Lines.at.Goals as goal

pub returns : goal.returns
returns c =
    let (passed, (last, before, step), few) = c.nth.ensures.ran in
    line_after c.new.result last c.nth.new.self passed c.nth.result c.args.place before step few ∙ ap (λ ls. slice_get ls c.args.place) c.new.ensures
