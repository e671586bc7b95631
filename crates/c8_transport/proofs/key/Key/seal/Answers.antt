-- The datagram is followed by its counter and their tag, and the bytes behind them stay.
use Rattle.std.proofs.Common.{ap, sym, ◌∙◌, ◌++◌, ◌≡◌, List, ℕ, length, append_assoc, arith}
use Rattle.c8_transport.specs.Seal.{counted}
use Rattle.c8_transport.proofs.SealLemmas.{take_written, drop_written, behind_length}
use Rattle.c8_transport.proofs.key.Key.seal.Goals as goal

pub returns-clause-sealed : goal.returns-clause-sealed
returns-clause-sealed c =
    let behind = c.copy_from_slice-2.ensures.after ∙ c.seal_of.ensures in
    let size : length c.copy_from_slice-2.new.self ≡ 24 =
    ap length behind ∙ behind_length c.args.self.now c.args.counter (counted c.args.counter c.args.datagram.now) in
    take_written c.args.datagram.now _ _ _ _ c.copy_from_slice.ensures.after size
    ∙ ap (λ (seal : List ℕ). c.args.datagram.now ++ seal) behind
    ∙ sym (append_assoc c.args.datagram.now _ _)

pub returns-clause-rest : goal.returns-clause-rest
returns-clause-rest c =
    let behind = c.copy_from_slice-2.ensures.after ∙ c.seal_of.ensures in
    let size : length c.copy_from_slice-2.new.self ≡ 24 =
    ap length behind ∙ behind_length c.args.self.now c.args.counter (counted c.args.counter c.args.datagram.now) in
    drop_written c.args.datagram.now _ c.args.out.now _ _ c.copy_from_slice.ensures.after size (omega arith)
