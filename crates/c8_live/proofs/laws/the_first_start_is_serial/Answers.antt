-- The first machine reads back from the start's bytes, so rows from there run serially.
use Rattle.std.proofs.Common.{ap, fold}
use Rattle.c8_game.specs.Rules.{joined}
use Rattle.c8_machine.specs.State.{State, first_state}
use Rattle.c8_machine.specs.Serial.{frame_of}
use Rattle.c8_live.proofs.laws.the_first_start_is_serial.Goals as goal

pub returns : goal.returns
returns c rules rows range =
    ap (λ (first : State). fold (λ s row. frame_of rules (joined rules row) s) first rows)
    (c.states_are_read_again.ensures (first_state rules) (c.states_stay_in_range.ensures.first rules range))
