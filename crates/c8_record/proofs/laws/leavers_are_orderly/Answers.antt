-- Player 1 is never dropped, only it drops others, and a player that is cut was dropped before.
use Rattle.c8_record.specs.checked.LeaverLaws.{journal_orderly}
use Rattle.c8_record.proofs.laws.leavers_are_orderly.Goals as goal

pub returns : goal.returns
returns c = journal_orderly
