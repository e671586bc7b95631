-- After an EPOCH the last epoch is the one that it begins.
use Rattle.std.proofs.Common.{rules}
use Rattle.c8_record.proofs.replaying.epoch_after.Goals as goal

pub returns-in-Epoch : goal.returns-in-Epoch
returns-in-Epoch c = search rules
