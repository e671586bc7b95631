-- How parts of a queue join.
use Rattle.std.proofs.Common.{◌≡◌, inl, inr, ℕ, List, [], ◌∷◌, ◌++◌, refl, sym, ap, ◌∙◌, append-nil, append_assoc}
use Rattle.c8_live.specs.Parts.{IsPart, IsHandedOn}
use Rattle.c8_transport.specs.Wire.{MayTake}

skip : (part : List (List ℕ)) (one : List ℕ) (whole : List (List ℕ)) → IsPart part whole → IsPart part (one ∷ whole)
skip [] one whole is = tt
skip (first ∷ part) one whole is = inr is

pub part_append : (part more whole others : List (List ℕ)) → IsPart part whole → IsPart more others → IsPart (part ++ more) (whole ++ others)
part_append [] more [] others is rest = rest
part_append [] more (one ∷ whole) others is rest = skip more one (whole ++ others) (part_append [] more whole others tt rest)
part_append (first ∷ part) more [] others is rest = absurd is
part_append (first ∷ part) more (one ∷ whole) others (inl (same, is)) rest = inl (same, part_append part more whole others is rest)
part_append (first ∷ part) more (one ∷ whole) others (inr is) rest = inr (part_append (first ∷ part) more whole others is rest)

pub handed_none : (from from_now to to_now : List (List ℕ)) → from_now ≡ from → to_now ≡ to → IsHandedOn from from_now to to_now
handed_none from from_now to to_now same_from same_to =
    record { came = []; went = []; from_is = same_from ∙ sym (append-nil from); to_is = same_to ∙ sym (append-nil to); part = tt }

pub handed_one : (from from_now to to_now : List (List ℕ)) (one : List ℕ) → from_now ≡ from ++ one ∷ [] → MayTake to one to_now
    → IsHandedOn from from_now to to_now
handed_one from from_now to to_now one came (inl lost) =
    record { came = one ∷ []; went = []; from_is = came; to_is = lost ∙ sym (append-nil to); part = tt }
handed_one from from_now to to_now one came (inr took) =
    record { came = one ∷ []; went = one ∷ []; from_is = came; to_is = took; part = inl (refl, tt) }

pub handed_joined : (from between from_now to among to_now : List (List ℕ)) → IsHandedOn from between to among
    → IsHandedOn between from_now among to_now → IsHandedOn from from_now to to_now
handed_joined from between from_now to among to_now first second = record {
  came = first.came ++ second.came;
  went = first.went ++ second.went;
  from_is = second.from_is ∙ ap (λ (l : List (List ℕ)). l ++ second.came) first.from_is ∙ append_assoc from first.came second.came;
  to_is = second.to_is ∙ ap (λ (l : List (List ℕ)). l ++ second.went) first.to_is ∙ append_assoc to first.went second.went;
  part = part_append first.went second.went first.came second.came first.part second.part;
}
