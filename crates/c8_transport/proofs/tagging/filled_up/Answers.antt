-- The block was all zeros, and those behind the key are left.
use Rattle.std.proofs.Common.{ℕ, List, ◌++◌, ◌-◌, length, replicate, ap, ◌∙◌}
use Rattle.c8_transport.proofs.SealLemmas.{zeros_behind}
use Rattle.c8_transport.proofs.tagging.filled_up.Goals as goal

pub returns : goal.returns
returns c =
    ap (λ (rest : List ℕ). c.copy_from_slice.new.self ++ rest) (zeros_behind (length c.args.key.now) 64)
    ∙ ap (λ (front : List ℕ). front ++ replicate (64 - length c.args.key.now) 0) c.copy_from_slice.ensures.after
