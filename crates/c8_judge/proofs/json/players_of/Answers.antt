-- One more value is added, if there is one.
use Rattle.c8_judge.specs.PrintedJson.{given_player}
use Rattle.c8_judge.proofs.json.players_of.Goals as goal

pub loop-place-preserved : goal.loop-place-preserved
loop-place-preserved c =
    c.in_ok-add.ensures (given_player c.args.files.now c.args.journals.now) c.loop-place.place c.loop-place.invariant
    c.in_ok-value.ensures.value c.in_ok-value.ensures.exact
