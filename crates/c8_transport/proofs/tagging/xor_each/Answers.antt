-- One more byte is exclusive-or the pad, and the bytes behind it stay for their turn.
use Rattle.std.proofs.Common.{rules, ◌≡◌, ◌++◌, ◌∙◌, ◌+◌, ◌<◌, suc, ℕ, List, take, drop, length, slice_set, slice_index_or, bit_xor, ap, arith}
use Rattle.c8_transport.specs.Hmac.{xor_each}
use Rattle.c8_transport.proofs.SealLemmas.{mapped_more}
use Rattle.c8_transport.proofs.tagging.xor_each.Goals as goal

pub loop-byte-preserved : goal.loop-byte-preserved
loop-byte-preserved c =
    let pad = c.args.pad in
    let i = c.loop-byte.byte-index in
    let block = c.args.block in
    let within : i < length block = search rules in
    let next : suc i ≡ i + 1 = omega arith in
    ap (λ (items : List ℕ). slice_set items i (bit_xor (slice_index_or items i 0) pad)) c.loop-byte.invariant ∙ mapped_more pad i block within
    ∙ ap (λ (n : ℕ). xor_each pad (take n block) ++ drop n block) next
