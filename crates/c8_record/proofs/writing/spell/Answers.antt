-- Head and run replace the first bytes of an empty body, and the zeros behind them stay.
use Rattle.std.proofs.Common.{refl, length, ℕ}
use Rattle.std.proofs.lemmas.List.{drop-replicate}
use Rattle.c8_record.proofs.writing.spell.Goals as goal

pub returns : goal.returns
returns c =
    rw (
      c.copy_from_slice.ensures.after,
      c.copy_from_slice-2.ensures.after,
      c.head_of.ensures,
      c.split_at_mut-head.ensures.back,
      drop-replicate {X = ℕ} (length c.args.run.now) 131 0,
    ) refl
