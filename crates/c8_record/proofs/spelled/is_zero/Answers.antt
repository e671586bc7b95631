-- At most 131 bytes are all zero exactly if they equal the first of 131 zeros, as many as they are.
use Rattle.std.proofs.Common.{ℕ, length, sym}
use Rattle.std.proofs.lemmas.List.{take-replicate}
use Rattle.c8_record.proofs.spelled.is_zero.Goals as goal

pub returns : goal.returns
returns c = rw (sym (take-replicate {X = ℕ} (length c.args.bytes.now) 131 0 c.requires)) c.is_same.ensures
