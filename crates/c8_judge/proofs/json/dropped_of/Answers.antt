-- One more value is added, if there is one.
use Rattle.c8_audit.specs.Read.{all_seen}
use Rattle.c8_judge.specs.PrintedJson.{dropped_player}
use Rattle.c8_judge.proofs.json.dropped_of.Goals as goal

pub loop-place-preserved : goal.loop-place-preserved
loop-place-preserved c =
    c.in_ok-add.ensures (dropped_player (all_seen c.args.journals.now)) c.loop-place.place c.loop-place.invariant
    c.in_ok-value.ensures.value c.in_ok-value.ensures.exact
