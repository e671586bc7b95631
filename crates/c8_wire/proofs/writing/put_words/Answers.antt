-- Each input is appended as two bytes, and the inputs that are left still have room.
use Rattle.std.proofs.Common.{◌++◌, List, ℕ, get_or, take, sym, ap, ◌∙◌, arith, length}
use Rattle.std.specs.List.{flat_map}
use Rattle.std.proofs.lemmas.List.{length-append, length-take, flat_map_more, take_more}
use Rattle.byteorder.specs.Endian.{big_bytes}
use Rattle.c8_wire.specs.checked.WordLaws.{length-spelled_words}
use Rattle.c8_wire.proofs.writing.put_words.Goals as goal

pub put-requires : goal.put-requires
put-requires c =
    let front : List ℕ = take c.loop-word.word-index c.args.run.now in
    omega (
      arith,
      ap length c.loop-word.invariant,
      length-append c.args.out.now.items (flat_map (big_bytes 2) front),
      length-spelled_words front,
      length-take c.loop-word.word-index c.args.run.now,
      ap length c.to_be_bytes.ensures,
    )

pub loop-word-preserved : goal.loop-word-preserved
loop-word-preserved c =
    let old : List ℕ = c.args.out.now.items in
    let i : ℕ = c.loop-word.word-index in
    let run : List ℕ = c.args.run.now in
    c.put.ensures.bytes ∙ ap (λ (items : List ℕ). items ++ c.to_be_bytes.result) c.loop-word.invariant
    ∙ ap (λ (bytes : List ℕ). (old ++ flat_map (big_bytes 2) (take i run)) ++ bytes) c.to_be_bytes.ensures
    ∙ flat_map_more (big_bytes 2) old (take i run) (get_or run i 0)
    ∙ ap (λ (words : List ℕ). old ++ flat_map (big_bytes 2) words) (sym (take_more run i 0 c.loop-word-test.true))
