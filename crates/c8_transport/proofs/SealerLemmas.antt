-- What becomes of a sealer when it takes a packet.
use Rattle.std.proofs.Common.{inl, inr, ◌≡◌, ◌≢◌, ◌≤◌, ◌<◌, ℕ, zero, suc, ◌+◌, ◌-◌, ◌==◌, ◌⊎◌, Bool, true, false, List, [], ◌∷◌, ◌++◌}
use Rattle.std.proofs.Common.{length, slice_index_or, slice_set, Result, Ok, Err, if◌then◌else◌, refl, sym, ap, ◌∙◌, subst, arith}
use Rattle.std.proofs.lemmas.Bool.Decides.{Decides-eqb}
use Rattle.std.proofs.lemmas.List.{append-nil, get_or-set_same, get_or-set_other, get_or_default, set-get_or}
use Rattle.std.proofs.lemmas.List.Elements.{Contains-push_cases}
use Rattle.std.specs.List.{Contains}
use Rattle.c8_transport.specs.Counters.{IsNew, AreOnce}
use Rattle.c8_transport.specs.Given.{GivenValue, counters_of}
use Rattle.c8_transport.specs.Sealer.{SealerValue, IsFor, IsTaking, AreTakings, AreSeen}
use Rattle.c8_transport.specs.declared.error.NotTaken.{NotTaken}
use Rattle.c8_transport.specs.declared.error.NotTaken.TheVariants.{NotSealed, SeenBefore}

-- ---- the counters of a seat

append_if : (b : Bool) (counter : ℕ) (xs ys : List ℕ) → (if b then counter ∷ (xs ++ ys) else (xs ++ ys)) ≡ (if b then counter ∷ xs else xs) ++ ys
append_if true counter xs ys = refl
append_if false counter xs ys = refl

pub counters_more : (seat : ℕ) (taken : List GivenValue) (given : GivenValue)
    → counters_of seat (taken ++ given ∷ []) ≡ counters_of seat taken ++ (if given.from == seat then given.counter ∷ [] else [])
counters_more seat [] given = refl
counters_more seat (first ∷ taken) given =
    ap (λ (rest : List ℕ). if first.from == seat then first.counter ∷ rest else rest) (counters_more seat taken given)
    ∙ append_if (first.from == seat) first.counter (counters_of seat taken) (if given.from == seat then given.counter ∷ [] else [])

of_seat : (seat : ℕ) (taken : List GivenValue) (given : GivenValue) → given.from ≡ seat
    → counters_of seat (taken ++ given ∷ []) ≡ counters_of seat taken ++ given.counter ∷ []
of_seat seat taken given same =
    counters_more seat taken given ∙ ap (λ (b : Bool). counters_of seat taken ++ (if b then given.counter ∷ [] else []))
    ((Decides-eqb given.from seat).1 same)

is_false : (b : Bool) → (b ≡ true → ⊥) → b ≡ false
is_false true never = absurd (never refl)
is_false false never = refl

of_other : (seat : ℕ) (taken : List GivenValue) (given : GivenValue) → given.from ≢ seat
    → counters_of seat (taken ++ given ∷ []) ≡ counters_of seat taken
of_other seat taken given other =
    counters_more seat taken given
    ∙ ap (λ (b : Bool). counters_of seat taken ++ (if b then given.counter ∷ [] else []))
    (is_false (given.from == seat) (λ same. other ((Decides-eqb given.from seat).0 same)))
    ∙ append-nil (counters_of seat taken)

by_seat : (b : Bool) (one seat : ℕ) (P : Type 0) → (one == seat) ≡ b → (one ≡ seat → P) → (one ≢ seat → P) → P
by_seat true one seat P is same other = same ((Decides-eqb one seat).0 is)
by_seat false one seat P is same other = other (λ equal. let both : true ≡ false = sym ((Decides-eqb one seat).1 equal) ∙ is in (cc))

-- what a sealer keeps, with one more packet
pub seen_more : (seen : List (List ℕ)) (taken : List GivenValue) (given : GivenValue) → length seen ≡ 6 → 1 ≤ given.from → given.from ≤ 6
    → AreSeen seen taken
    → AreSeen (slice_set seen (given.from - 1) (slice_index_or seen (given.from - 1) [] ++ given.counter ∷ [])) (taken ++ given ∷ [])
seen_more seen taken given size some few are seat from_one to_six =
    by_seat (given.from == seat) given.from seat _ refl
    (λ same.
    ap (λ (n : ℕ). slice_index_or (slice_set seen (given.from - 1) (slice_index_or seen (given.from - 1) [] ++ given.counter ∷ [])) (n - 1)
    []) (sym same)
    ∙ get_or-set_same seen (given.from - 1) (slice_index_or seen (given.from - 1) [] ++ given.counter ∷ []) [] (omega (arith, size, some, few))
    ∙ ap (λ (counters : List ℕ). counters ++ given.counter ∷ []) (are given.from some few ∙ ap (λ (n : ℕ). counters_of n taken) same)
    ∙ sym (of_seat seat taken given same))
    (λ other.
    get_or-set_other seen (given.from - 1) (seat - 1) (slice_index_or seen (given.from - 1) [] ++ given.counter ∷ []) []
    (λ same. other (omega (arith, same, some, from_one)))
    ∙ are seat from_one to_six
    ∙ sym (of_other seat taken given other))

-- six seats from which nothing was taken
pub six_empty : (a b c d e f : List ℕ) → a ≡ [] → b ≡ [] → c ≡ [] → d ≡ [] → e ≡ [] → f ≡ [] → (place : ℕ)
    → slice_index_or (a ∷ b ∷ c ∷ d ∷ e ∷ f ∷ []) place [] ≡ []
six_empty a b c d e f none_a none_b none_c none_d none_e none_f zero = none_a
six_empty a b c d e f none_a none_b none_c none_d none_e none_f (suc zero) = none_b
six_empty a b c d e f none_a none_b none_c none_d none_e none_f (suc (suc zero)) = none_c
six_empty a b c d e f none_a none_b none_c none_d none_e none_f (suc (suc (suc zero))) = none_d
six_empty a b c d e f none_a none_b none_c none_d none_e none_f (suc (suc (suc (suc zero)))) = none_e
six_empty a b c d e f none_a none_b none_c none_d none_e none_f (suc (suc (suc (suc (suc zero))))) = none_f
six_empty a b c d e f none_a none_b none_c none_d none_e none_f (suc (suc (suc (suc (suc (suc place)))))) = refl

-- ---- over many packets

pub takings_more : (came : List (List ℕ)) (packet : List ℕ) (old middle new : SealerValue) (answer : Result GivenValue NotTaken)
    → AreTakings came old middle → IsTaking middle packet answer new → AreTakings (came ++ packet ∷ []) old new
takings_more [] packet old middle new answer are is = (answer, new, subst (λ (s : SealerValue). IsTaking s packet answer new) are is, refl)
takings_more (first ∷ came) packet old middle new answer are is = (are.0, are.1, are.2, takings_more came packet are.1 middle new answer are.3 is)

head_in : (xs : List ℕ) (x : ℕ) → Contains (x ∷ xs) x
head_in xs x = (0, omega arith, refl)

tail_in : {A : Type 0} (xs : List A) (x y : A) → Contains xs y → Contains (x ∷ xs) y
tail_in xs x y has = (suc has.0, (let few = has.1 in omega (arith, few)), has.2)

once_more : (xs : List ℕ) (counter : ℕ) → AreOnce xs → ((c : ℕ) → Contains xs c → c ≢ counter) → AreOnce (xs ++ counter ∷ [])
once_more [] counter once new = ((λ has. let none = has.1 in omega (arith, none)), tt)
once_more (x ∷ xs) counter once new = (
  λ has. elim (Contains-push_cases xs counter x has) [ inl old ↦ once.0 old | inr same ↦ new x (head_in xs x) (sym same) ],
  once_more xs counter once.1 (λ c has. new c (tail_in xs x c has)),
)

module _ (seat : ℕ) where
  once_step : (old : SealerValue) (packet : List ℕ) (answer : Result GivenValue NotTaken) (new : SealerValue)
      → AreOnce (counters_of seat old.taken) → IsTaking old packet answer new → AreOnce (counters_of seat new.taken)
  once_step old packet (Ok given) new once is =
      let P : SealerValue → Type 0 = λ (s : SealerValue). AreOnce (counters_of seat s.taken) in
      subst P (sym is.2)
      (by_seat (given.from == seat) given.from seat (AreOnce (counters_of seat (old.taken ++ given ∷ []))) refl
      (λ same. subst AreOnce (sym (of_seat seat old.taken given same))
      (once_more (counters_of seat old.taken) given.counter once
      (λ c has. (is.1 c (subst (λ (n : ℕ). Contains (counters_of n old.taken) c) (sym same) has)).0)))
      (λ other. subst AreOnce (sym (of_other seat old.taken given other)) once))
  once_step old packet (Err NotSealed) new once is = let P : SealerValue → Type 0 =
      λ (s : SealerValue). AreOnce (counters_of seat s.taken) in subst P (sym is.1) once
  once_step old packet (Err SeenBefore) new once is = let P : SealerValue → Type 0 =
      λ (s : SealerValue). AreOnce (counters_of seat s.taken) in subst P (sym is.1) once

  pub once_over : (came : List (List ℕ)) (old new : SealerValue) → AreOnce (counters_of seat old.taken) → AreTakings came old new
      → AreOnce (counters_of seat new.taken)
  once_over [] old new once are = let P : SealerValue → Type 0 = λ (s : SealerValue). AreOnce (counters_of seat s.taken) in subst P (sym are) once
  once_over (packet ∷ came) old new once are = once_over came are.1 new (once_step old packet are.0 are.1 once are.2) are.3

module _ (given : GivenValue) where
  sealed_step : (old : SealerValue) (packet : List ℕ) (answer : Result GivenValue NotTaken) (new : SealerValue)
      → IsTaking old packet answer new → Contains new.taken given → Contains old.taken given ⊎ IsFor old.seal packet given
  sealed_step old packet (Ok one) new is has =
      elim (Contains-push_cases old.taken one given (subst (λ (s : SealerValue). Contains s.taken given) is.2 has))
      [ inl before ↦ inl before | inr same ↦ inr (subst (IsFor old.seal packet) same is.0) ]
  sealed_step old packet (Err NotSealed) new is has = inl (subst (λ (s : SealerValue). Contains s.taken given) is.1 has)
  sealed_step old packet (Err SeenBefore) new is has = inl (subst (λ (s : SealerValue). Contains s.taken given) is.1 has)

  seal_stays : (old : SealerValue) (packet : List ℕ) (answer : Result GivenValue NotTaken) (new : SealerValue)
      → IsTaking old packet answer new → new.seal ≡ old.seal
  seal_stays old packet (Ok one) new is = ap (λ (s : SealerValue). s.seal) is.2
  seal_stays old packet (Err NotSealed) new is = ap (λ (s : SealerValue). s.seal) is.1
  seal_stays old packet (Err SeenBefore) new is = ap (λ (s : SealerValue). s.seal) is.1

  pub sealed_over : (came : List (List ℕ)) (old new : SealerValue) → AreTakings came old new → Contains new.taken given
      → Contains old.taken given ⊎ ((packet : List ℕ) × Contains came packet × IsFor old.seal packet given)
  sealed_over [] old new are has = inl (subst (λ (s : SealerValue). Contains s.taken given) are has)
  sealed_over (packet ∷ came) old new are has = elim (sealed_over came are.1 new are.3 has) [
    | inl before ↦ elim (sealed_step old packet are.0 are.1 are.2 before)
        [ inl older ↦ inl older | inr is ↦ inr (packet, (0, omega arith, refl), is) ]
    | inr later ↦ inr (
      later.0,
      tail_in came packet later.0 later.1,
      subst (λ s. IsFor s later.0 given) (seal_stays old packet are.0 are.1 are.2) later.2,
    )
  ]

pub unless_none : (given : GivenValue) (taken : List GivenValue) → taken ≡ [] → Contains taken given → ⊥
unless_none given taken none has = let few = has.1 in let size = ap length none in omega (arith, few, size)

pub has_used : (old : SealerValue) (next left : ℕ) → next ≡ old.next + 1 → left ≡ old.left - 1
    → record old { next = next; left = left } ≡ record old { next = old.next + 1; left = old.left - 1 }
has_used old next left one less = ap (λ (n : ℕ). record old { next = n; left = left }) one
    ∙ ap (λ (n : ℕ). record old { next = old.next + 1; left = n }) less

pub has_taken : (old : SealerValue) (after : List GivenValue) (given : GivenValue) → after ≡ old.taken ++ given ∷ []
    → record old { taken = after } ≡ record old { taken = old.taken ++ given ∷ [] }
has_taken old after given more = ap (λ (taken : List GivenValue). record old { taken = taken }) more

-- what is taken of a packet for this seat with a new counter
pub takes : (old : SealerValue) (packet : List ℕ) (given : GivenValue) (after : List GivenValue) → IsFor old.seal packet given
    → IsNew (counters_of given.from old.taken) given.counter → after ≡ old.taken ++ given ∷ []
    → IsTaking old packet (Ok given) (record old { taken = after })
takes old packet given after is new more = (is, new, has_taken old after given more)

-- ---- the counters of one seat, as an element of all

pub element : (seen : List (List ℕ)) (i place : ℕ) (x : List ℕ) → place ≡ i → i < length seen → slice_index_or seen i [] ≡ slice_index_or seen place x
element seen i place x same within = get_or_default seen i [] x within ∙ ap (λ (n : ℕ). slice_index_or seen n x) (sym same)

pub put_back : (seen : List (List ℕ)) (i : ℕ) (x : List ℕ) → i < length seen → slice_index_or seen i [] ≡ x → slice_set seen i x ≡ seen
put_back seen i x within is = ap (slice_set seen i) (sym is) ∙ set-get_or seen i []

-- ---- a packet that is not taken

pub unchanged : (old : SealerValue) (packet : List ℕ) (why : NotTaken) (new : SealerValue) → IsTaking old packet (Err why) new → new ≡ old
unchanged old packet NotSealed new is = is.1
unchanged old packet SeenBefore new is = is.1
