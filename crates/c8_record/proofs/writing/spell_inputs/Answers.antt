-- Two bytes are written for each input and zeros stay behind, as for a run of wire version 1.
use Rattle.std.proofs.Common.{◌≡◌, ℕ, ◌-◌, ◌*◌, ◌/◌, List, ◌∷◌, ◌++◌, length, drop, replicate, ap, ◌∙◌, arith}
use Rattle.std.proofs.lemmas.List.{drop-replicate}
use Rattle.byteorder.specs.Endian.{big_bytes}
use Rattle.c8_wire.specs.Lent.{words}
use Rattle.c8_wire.specs.Spelling.{words_bytes}
use Rattle.c8_wire.specs.checked.WordLaws.{length-spelled_words}
use Rattle.c8_record.proofs.writing.spell_inputs.Goals as goal

pub returns-clause-body : goal.returns-clause-body
returns-clause-body c =
    let inputs : List ℕ = words c.args.run in
    let long = length-spelled_words inputs in
    let left : 131 - 2 * length inputs ≡ 131 - length (words_bytes inputs) = omega (arith, long) in
    let count : 2 * c.len.result / 2 ≡ length (words_bytes inputs) / 2 = omega (arith, long, c.len.ensures.count) in
    let head = c.copy_from_slice.ensures.after ∙ c.head_of.ensures in
    let tail : c.put_inputs.new.out ≡ words_bytes inputs ++ replicate (131 - length (words_bytes inputs)) 0 =
    c.put_inputs.ensures ∙ ap (λ (ws : List ℕ). words_bytes ws ++ drop (2 * length ws) c.split_at_mut-head.result.1.now) c.iter.ensures
    ∙ ap (λ (rest : List ℕ). words_bytes inputs ++ drop (2 * length inputs) rest) c.split_at_mut-head.ensures.back
    ∙ ap (λ (rest : List ℕ). words_bytes inputs ++ rest) (drop-replicate {X = ℕ} (2 * length inputs) 131 0 ∙ ap (λ (n : ℕ). replicate n 0) left) in
    (λ i. head i ++ tail i)
    ∙ ap (λ (n : ℕ). c.args.kind ∷ c.args.player.number ∷ big_bytes 4 c.args.number ++ big_bytes 4 c.args.start ++ big_bytes 2 n ++
    words_bytes inputs ++ replicate (131 - length (words_bytes inputs)) 0) count
