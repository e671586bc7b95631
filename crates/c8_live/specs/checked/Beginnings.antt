-- Checked, not believed: lists that are the beginning of others.
use Rattle.std.proofs.Common.{◌≡◌, ℕ, zero, suc, List, [], ◌∷◌, ◌++◌, Some, ap, sym, subst, ◌∙◌, append_assoc}
use Rattle.std.specs.List.{slice_get}
use mathlib.Core.List.{IsPrefix}

pub prefix_of_longer : {X : Type 0} (xs ys zs : List X) → IsPrefix xs ys → IsPrefix ys zs → IsPrefix xs zs
prefix_of_longer {X = X} xs ys zs one two =
    (one.0 ++ two.0, sym (append_assoc xs one.0 two.0) ∙ ap (λ (front : List X). front ++ two.0) one.1 ∙ two.1)

get_append : {X : Type 0} (xs ys : List X) (n : ℕ) (x : X) → slice_get xs n ≡ Some x → slice_get (xs ++ ys) n ≡ Some x
get_append [] ys n x is = absurd cc
get_append (y ∷ xs) ys zero x is = is
get_append (y ∷ xs) ys (suc n) x is = get_append xs ys n x is

pub prefix_get : {X : Type 0} (xs ys : List X) (n : ℕ) (x : X) → IsPrefix xs ys → slice_get xs n ≡ Some x → slice_get ys n ≡ Some x
prefix_get {X = X} xs ys n x front is = subst (λ (zs : List X). slice_get zs n ≡ Some x) front.1 (get_append xs front.0 n x is)
