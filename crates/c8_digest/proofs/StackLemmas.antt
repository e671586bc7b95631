-- The return addresses, and 0 for those not in use.
use Rattle.std.proofs.Common.{◌≡◌, ℕ, zero, suc, ◌+◌, ◌-◌, ◌<◌, ◌≤◌, List, [], ◌∷◌, ◌++◌, length, take, refl, sym, ap, ◌∙◌, arith}
use Rattle.std.specs.Prelude.{slice_index, replicate}
use Rattle.std.specs.List.{flat_map}
use Rattle.std.specs.Int.{to_be_bytes, w16}
use Rattle.std.proofs.lemmas.Grind.{flat_map-append}
use Rattle.std.proofs.lemmas.List.{append_assoc, append-nil, length-append, length-replicate, take_more}
use Rattle.c8_digest.specs.StateBytes.{places}

zeros : (m n : ℕ) → slice_index (replicate m 0) n ≡ 0
zeros zero n = refl
zeros (suc m) zero = refl
zeros (suc m) (suc n) = zeros m n

pub padded : (xs : List ℕ) (m n : ℕ) → slice_index (xs ++ replicate m 0) n ≡ slice_index xs n
padded [] m n = zeros m n
padded (x ∷ xs) m zero = refl
padded (x ∷ xs) m (suc n) = padded xs m n

pub sixteen : (stack : List ℕ) → length stack ≤ 16 → length (places stack) ≡ 16
sixteen stack few = omega (arith, length-append stack (replicate (16 - length stack) 0), length-replicate {A = ℕ} (16 - length stack) 0, few)

-- the places before one, and that one
places_more : (before : List ℕ) (stack : List ℕ) (n place : ℕ) → length stack ≤ 16 → n < 16 → place ≡ slice_index stack n
    → (before ++ flat_map (to_be_bytes w16) (take n (places stack))) ++ to_be_bytes w16 place
    ≡ before ++ flat_map (to_be_bytes w16) (take (n + 1) (places stack))
places_more before stack n place few within is =
    let all : List ℕ = places stack in
    let front : List ℕ = flat_map (to_be_bytes w16) (take n all) in
    let here : place ≡ slice_index all n = is ∙ sym (padded stack (16 - length stack) n) in
    append_assoc before front (to_be_bytes w16 place)
    ∙ ap (λ (bytes : List ℕ). before ++ bytes)
    (ap (λ (p : ℕ). front ++ to_be_bytes w16 p) here
    ∙ ap (λ (last : List ℕ). front ++ last) (sym (append-nil (to_be_bytes w16 (slice_index all n))))
    ∙ sym (flat_map-append (to_be_bytes w16) (take n all) (slice_index all n ∷ []))
    ∙ ap (flat_map (to_be_bytes w16)) (sym (take_more all n 0 (omega (arith, within, sixteen stack few)))))

pub stack_more : (before out last new : List ℕ) (stack : List ℕ) (n place : ℕ) → length stack ≤ 16 → n < 16 → place ≡ slice_index stack n
    → out ≡ before ++ (length stack ∷ []) ++ flat_map (to_be_bytes w16) (take n (places stack)) → last ≡ to_be_bytes w16 place → new ≡ out ++ last
    → new ≡ before ++ (length stack ∷ []) ++ flat_map (to_be_bytes w16) (take (n + 1) (places stack))
stack_more before out last new stack n place few within is so_far spelled put =
    let front : List ℕ = flat_map (to_be_bytes w16) (take n (places stack)) in
    put ∙ ap (λ (items : List ℕ). items ++ last) so_far ∙ ap (λ (bytes : List ℕ). ((before ++ length stack ∷ []) ++ front) ++ bytes) spelled
    ∙ places_more (before ++ length stack ∷ []) stack n place few within is
