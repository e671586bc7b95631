-- To lay out a journal by player and add a record's part is to lay out the journal with this record.
use Rattle.c8_known.specs.checked.OneMore.{one_more}
use Rattle.c8_known.proofs.laws.one_record_more.Goals as goal

pub returns : goal.returns
returns c = one_more
