-- Each stretch of equal inputs is appended as one byte and two, and the pairs that are left still have room.
use Rattle.std.proofs.Common.{◌≡◌, ℕ, ◌+◌, ◌*◌, ◌≤◌, List, [], ◌∷◌, ◌++◌, length, sym, ap, ◌∙◌, length-append, arith}
use Rattle.std.proofs.lemmas.List.{append_assoc, append-nil}
use Rattle.c8_pairs.specs.declared.pair.Pair.{Pair}
use Rattle.c8_pairs.specs.Pairs.{pairs_of, pairs_bytes}
use Rattle.c8_pairs.specs.checked.PairLaws.{length_spelled}
use Rattle.c8_wire.proofs.writing.put_pairs.Goals as goal

-- a pair that was appended in two parts
put_pair : (old between new : List ℕ) (times : ℕ) (keys rest : List ℕ) → between ≡ old ++ times ∷ [] → new ≡ between ++ keys
    → new ++ rest ≡ old ++ times ∷ (keys ++ rest)
put_pair old between new times keys rest p q =
    ap (λ (n : List ℕ). n ++ rest) (q ∙ ap (λ (m : List ℕ). m ++ keys) p) ∙ append_assoc (old ++ times ∷ []) keys rest
    ∙ append_assoc old (times ∷ []) (keys ++ rest)

-- where a pair is left there is room for its three bytes
room_left : (out old : List ℕ) (left all : List Pair) (first : Pair) (rest : List Pair) → out ++ pairs_bytes left ≡ old ++ pairs_bytes all
    → left ≡ first ∷ rest → length old + 3 * length all ≤ 174 → length out + 3 ≤ 174
room_left out old left all first rest same some space =
    omega (
      arith,
      ap length same,
      length-append out (pairs_bytes left),
      length-append old (pairs_bytes all),
      length_spelled left,
      length_spelled all,
      ap length some,
      space,
    )

pub put-requires : goal.put-requires
put-requires c =
    let room = room_left c.loop-pair.out.items c.args.out.now.items _ (pairs_of c.args.run.now) c.in-Some.pair _ c.loop-pair.invariant
    c.in-Some.ensures.steps c.requires.space in
    omega (arith, room)

pub put-requires-in-loop-pair : goal.put-requires-in-loop-pair
put-requires-in-loop-pair c =
    let room = room_left c.loop-pair.out.items c.args.out.now.items _ (pairs_of c.args.run.now) c.in-Some.pair _ c.loop-pair.invariant
    c.in-Some.ensures.steps c.requires.space in
    omega (
      arith,
      room,
      ap length c.put.ensures.bytes,
      length-append c.loop-pair.out.items (c.in-Some.pair.times ∷ []),
      ap length c.to_be_bytes.ensures,
    )

pub loop-pair-preserved : goal.loop-pair-preserved
loop-pair-preserved c =
    let out = c.loop-pair.out.items in
    let rest = pairs_bytes (pairs_of c.next.new.self.rest.now) in
    put_pair out c.put.new.out.items c.put-in-loop-pair.new.out.items c.in-Some.pair.times c.to_be_bytes.result rest c.put.ensures.bytes
    c.put-in-loop-pair.ensures.bytes
    ∙ ap (λ (keys : List ℕ). out ++ c.in-Some.pair.times ∷ (keys ++ rest)) c.to_be_bytes.ensures
    ∙ ap (λ (pairs : List Pair). out ++ pairs_bytes pairs) (sym c.in-Some.ensures.steps) ∙ c.loop-pair.invariant

pub returns : goal.returns
returns c =
    sym (append-nil c.loop-pair.out.items) ∙ ap (λ (pairs : List Pair). c.loop-pair.out.items ++ pairs_bytes pairs)
    (sym c.in-None.ensures.steps.0) ∙ c.loop-pair.invariant
