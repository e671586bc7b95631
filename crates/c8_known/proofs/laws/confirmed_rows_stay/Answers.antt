-- Settled inputs keep their values, so confirmed frames keep their rows and only more are confirmed.
use Rattle.c8_known.specs.checked.ConfirmedLaws.{input_stays, confirmed_rises, row_stays, rows_stay}
use Rattle.c8_known.specs.Known.{player_in}
use Rattle.c8_known.proofs.laws.confirmed_rows_stay.Goals as goal

pub returns-clause-inputs : goal.returns-clause-inputs
returns-clause-inputs c = λ old new still q frame w. input_stays (player_in old q) (player_in new q) (still.each q) frame w

pub returns-clause-rises : goal.returns-clause-rises
returns-clause-rises c = confirmed_rises

pub returns-clause-row : goal.returns-clause-row
returns-clause-row c = row_stays

pub returns-clause-rows : goal.returns-clause-rows
returns-clause-rows c = rows_stay
