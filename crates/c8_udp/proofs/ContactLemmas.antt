-- A contact that is learnt is at the place with the greatest counter.
use Rattle.std.proofs.Common.{inl, inr, ◌≡◌, Bool, true, false, List, [], ◌∷◌, ◌++◌, nat_lt, None, Some, if◌then◌else◌, refl, sym, ap}
use Rattle.std.proofs.Common.{subst, append_assoc, append-nil, arith}
use borrow.Author.Tests.{ltb-true, ltb-false}
use Rattle.std.proofs.lemmas.List.Elements.{Contains-append_left, Contains-push, Contains-push_cases}
use Rattle.c8_udp.specs.declared.contacts.Contact.{Contact}
use Rattle.c8_udp.specs.declared.contacts.Contact.TheVariants.{Nobody, Named, Learnt}
use Rattle.c8_udp.specs.declared.contacts.Place.{Place}
use Rattle.c8_udp.specs.Contacts.{after, after_all, IsAtNewest}

at_newer : (places : List Place) (known heard : Place) (b : Bool) → nat_lt known.counter heard.counter ≡ b
    → IsAtNewest places (Learnt (Some known)) → IsAtNewest (places ++ heard ∷ []) (Learnt (Some (if b then heard else known)))
at_newer places known heard true is at = (
  Contains-push places heard,
  λ other has. elim (Contains-push_cases places heard other has) [
    | inl old ↦ (let most = at.1 other old in let less = ltb-true known.counter heard.counter is in omega (arith, most, less))
    | inr same ↦ (let equal = ap (λ (p : Place). p.counter) same in omega (arith, equal))
  ],
)
at_newer places known heard false is at = (
  Contains-append_left places (heard ∷ []) known at.0,
  λ other has. elim (Contains-push_cases places heard other has) [
    | inl old ↦ at.1 other old
    | inr same ↦ (let equal = ap (λ (p : Place). p.counter) same in let most = ltb-false known.counter heard.counter is in omega (arith, equal, most))
  ],
)

one_more : (places : List Place) (contact : Contact) (heard : Place) → IsAtNewest places contact
    → IsAtNewest (places ++ heard ∷ []) (after heard contact)
one_more places Nobody heard at = at
one_more places (Named address) heard at = at
one_more places (Learnt None) heard none =
    subst (λ (before : List Place). IsAtNewest (before ++ heard ∷ []) (Learnt (Some heard))) (sym none) (
      Contains-push [] heard,
      λ other has. elim (Contains-push_cases [] heard other has) [
        | inl old ↦ absurd (let few = old.1 in omega (arith, few))
        | inr same ↦ (let equal = ap (λ (p : Place). p.counter) same in omega (arith, equal))
      ],
    )
one_more places (Learnt (Some known)) heard at = at_newer places known heard (nat_lt known.counter heard.counter) refl at

pub all_more : (places more : List Place) (contact : Contact) → IsAtNewest places contact → IsAtNewest (places ++ more) (after_all contact more)
all_more places [] contact at = subst (λ (all : List Place). IsAtNewest all contact) (sym (append-nil places)) at
all_more places (heard ∷ more) contact at =
    subst (λ (all : List Place). IsAtNewest all (after_all (after heard contact) more)) (append_assoc places (heard ∷ []) more)
    (all_more (places ++ heard ∷ []) more (after heard contact) (one_more places contact heard at))
