-- The next byte comes behind those that were added, so the whole list grows by the given bytes.
use Rattle.std.proofs.Common.{◌++◌, ◌∷◌, [], ℕ, List, take, get_or, ap, sym, ◌∙◌, append_assoc}
use Rattle.c8_play.proofs.TypingLemmas.{take_next}
use Rattle.c8_play.proofs.exchange.extend.Goals as goal

pub loop-byte-preserved : goal.loop-byte-preserved
loop-byte-preserved c =
    let before : List ℕ = c.args.list.now.items in
    let bytes : List ℕ = c.args.bytes.now in
    let i : ℕ = c.loop-byte.byte-index in
    let b : ℕ = get_or bytes i 0 in
    c.and.ensures ∙ ap (λ (items : List ℕ). items ++ b ∷ []) c.loop-byte.invariant ∙ append_assoc before (take i bytes) (b ∷ [])
    ∙ ap (λ (items : List ℕ). before ++ items) (sym (take_next bytes i c.loop-byte-test.true))
