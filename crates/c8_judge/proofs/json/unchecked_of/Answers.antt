-- One more value is added, if there is one.
use Rattle.c8_judge.specs.PrintedJson.{missing_player}
use Rattle.c8_judge.proofs.json.unchecked_of.Goals as goal

pub loop-place-preserved : goal.loop-place-preserved
loop-place-preserved c =
    c.in_ok-add.ensures (missing_player c.args.journals.now) c.loop-place.place c.loop-place.invariant
    c.missing_at.ensures.value c.missing_at.ensures.exact
