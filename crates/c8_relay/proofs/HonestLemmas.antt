-- What was sent stays due, as more is received.
use Rattle.std.proofs.Common.{◌≡◌, ◌≤◌, ◌⊎◌, ◌+◌, ℕ, List, [], ◌∷◌, ◌++◌, Some, length, refl, arith, subst, rules, inl, inr, length-append}
use Rattle.std.proofs.Common.{add_assoc, sym, ap, ◌∙◌}
use Rattle.std.specs.List.{All, Contains}
use Rattle.std.proofs.lemmas.List.Elements.{All-append, Contains-append_left, Contains-append_right}
use Rattle.c8_relay.specs.Ether.{MaySend}
use Rattle.c8_relay.specs.Honest.{HasAsked, IsCarried, IsAnswer, IsHonest, weight}
use Rattle.c8_relay.specs.Reading.{IsDatagram, IsJoin}
use Rattle.c8_relay.specs.Seating.{Sits, Shares, Expels, origin, seat_of, sender_at, target}
use Rattle.c8_relay.specs.Standing.{Standing, SeatsWhoAsks, slot_of}
use Rattle.c8_relay.specs.declared.address.Address.{Address}
use Rattle.c8_relay.specs.declared.address.Place.{Place}
use Rattle.c8_relay.specs.declared.control.Join.{Join}
use Rattle.c8_relay.specs.declared.control.Route.{Route}
use Rattle.c8_relay.specs.declared.address.Sender.{Sender}
use Rattle.c8_relay.specs.declared.seats.Seated.{Seated}

-- the last item stands in the list
pub last : {X : Type 0} (xs : List X) (x : X) → Contains (xs ++ x ∷ []) x
last xs x = Contains-append_right xs (x ∷ []) x (0, omega arith, refl)

-- all of one item
only : {X : Type 0} (P : X → Type 0) (x : X) → P x → All P (x ∷ [])
only P x p = search rules

weight-append : (xs : List (Address × List ℕ)) (x : Address × List ℕ) → weight (xs ++ x ∷ []) ≡ weight xs + length x.1
weight-append [] x = omega arith
weight-append (y ∷ ys) x = ap (λ n. length y.1 + n) (weight-append ys x) ∙ sym (add_assoc (length y.1) (weight ys) (length x.1))

-- who had asked has asked when more was received
asked_more : (key : List ℕ) (received : List (Address × List ℕ)) (x : Address × List ℕ) (address : Address) (place : Place)
    → HasAsked key received address place → HasAsked key (received ++ x ∷ []) address place
asked_more key received x address place asked =
    (asked.0, (asked.1.0, (asked.1.1.0, (Contains-append_left received (x ∷ []) _ asked.1.1.1.0, asked.1.1.1.1, asked.1.1.1.2, asked.1.1.1.3))))

module _ (now : ℕ) (from : Address) (packet : List ℕ) (old new : Standing) (received sent : List (Address × List ℕ))
    (key : new.key ≡ old.key) (seats : SeatsWhoAsks now from packet old new) (was : IsHonest old received sent) where
  -- who sits now has asked
  seated : (address : Address) (place : Place) → Sits new.members address place → HasAsked old.key (received ++ (from, packet) ∷ []) address place
  seated address place sits = elim (seats address place sits) [
    | inl before ↦ asked_more old.key received (from, packet) address place (was.seated address place before)
    | inr asks ↦ (
        let P : Address → Type 0 = λ a. HasAsked old.key (received ++ (from, packet) ∷ []) a place in
        subst P (sym asks.0) (packet, (asks.1.0, (slot_of now, (last received (from, packet), asks.1.1, asks.1.2, asks.1.3)))))
  ]

  due_more : All (λ one. IsCarried old.key (received ++ (from, packet) ∷ []) one ⊎ IsAnswer (received ++ (from, packet) ∷ []) one) sent
  due_more = λ k d h. elim (was.due k d h) [
    | inl on ↦ inl (
      on.0,
      Contains-append_left received ((from, packet) ∷ []) _ on.1,
      (
        on.2.0,
        on.2.1,
        (
          on.2.2.0,
          asked_more old.key received (from, packet) _ _ on.2.2.1,
          asked_more old.key received (from, packet) _ _ on.2.2.2,
        ),
      ),
    )
    | inr answer ↦ inr (answer.0, Contains-append_left received ((from, packet) ∷ []) _ answer.1, answer.2)
  ]

  -- a packet came, and led to nothing
  pub after_nothing : IsHonest new (received ++ (from, packet) ∷ []) sent
  after_nothing =
      let P : List ℕ → Type 0 = λ k. IsHonest (record { key = k; members = new.members }) (received ++ (from, packet) ∷ []) sent in
      subst P (sym key) (record {
        seated = seated;
        due = due_more;
        fewer = let f = was.fewer in omega (arith, length-append received ((from, packet) ∷ []), f);
        lighter = let f = was.lighter in omega (arith, weight-append received (from, packet), f);
      })

  -- a packet came, and another was sent that is due and no longer
  after_one : (after : List (Address × List ℕ)) (to : Address) (other : List ℕ) → MaySend sent to other after
      → IsCarried old.key (received ++ (from, packet) ∷ []) (to, other) ⊎ IsAnswer (received ++ (from, packet) ∷ []) (to, other)
      → length other ≤ length packet → IsHonest new (received ++ (from, packet) ∷ []) after
  after_one after to other went due short =
      let Q : List (Address × List ℕ) → Type 0 = λ xs. IsHonest new (received ++ (from, packet) ∷ []) xs in
      let P : List ℕ → Type 0 = λ k. IsHonest (record { key = k; members = new.members }) (received ++ (from, packet) ∷ [])
      (sent ++ (to, other) ∷ []) in
      elim went [
        | inl same ↦ subst Q (sym same) after_nothing
        | inr one ↦ subst Q (sym one) (subst P (sym key) (record {
          seated = seated;
          due = All-append (λ x. IsCarried old.key (received ++ (from, packet) ∷ []) x ⊎ IsAnswer (received ++ (from, packet) ∷ []) x) sent
              ((to, other) ∷ []) due_more
              (only (λ x. IsCarried old.key (received ++ (from, packet) ∷ []) x ⊎ IsAnswer (received ++ (from, packet) ∷ []) x) (to, other) due);
          fewer = let f = was.fewer in omega (arith, length-append received ((from, packet) ∷ []), length-append sent ((to, other) ∷ []), f);
          lighter = let f = was.lighter in omega (arith, weight-append received (from, packet), weight-append sent (to, other), f, short);
        }))
      ]

  -- a datagram was sent on
  pub after_forward : (after : List (Address × List ℕ)) (to : Address) (route : Route) → MaySend sent to packet after
      → IsDatagram packet route → Shares old.members from route to
      → IsHonest new (received ++ (from, packet) ∷ []) after
  after_forward after to route went is shares =
      after_one after to packet went (inl (
        from,
        last received (from, packet),
        (
          route,
          is,
          (
            shares.0,
            asked_more old.key received (from, packet) from (origin route shares.0) (was.seated from (origin route shares.0) shares.1),
            asked_more old.key received (from, packet) to (target route shares.0) (was.seated to (target route shares.0) shares.2),
          ),
        ),
      ))
      (omega arith)

  -- a JOIN was answered
  pub after_answer : (after : List (Address × List ℕ)) (answer : List ℕ) (join : Join) → MaySend sent from answer after → IsJoin packet join
      → length answer ≡ 24
      → IsHonest new (received ++ (from, packet) ∷ []) after
  after_answer after answer join went is short =
      after_one after from answer went (inr (packet, last received (from, packet), (join, is, short)))
      (let size = is.size in omega (arith, size, short))

-- nothing was received and nothing sent
pub at_first : (key : List ℕ) → IsHonest (record { key = key; members = [] }) [] []
at_first key = record {
  seated = λ address place sits. let e = sits.1 in cc;
  due = λ k d h. absurd (omega (arith, h));
  fewer = omega arith;
  lighter = omega arith;
}

-- who stood up does not have to have asked
pub keeps_honest : (old new : Standing) (received sent : List (Address × List ℕ)) → new.key ≡ old.key
    → ((other : Sender) (seated : Seated) → seat_of new.members other ≡ Some seated → seat_of old.members other ≡ Some seated)
    → IsHonest old received sent → IsHonest new received sent
keeps_honest old new received sent key nobody was =
    let P : List ℕ → Type 0 = λ k. IsHonest (record { key = k; members = new.members }) received sent in
    subst P (sym key) (record {
      seated = λ address place sits. was.seated address place (sits.0, nobody (sender_at address place) sits.0 sits.1, sits.2, sits.3);
      due = was.due;
      fewer = was.fewer;
      lighter = was.lighter;
    })

pub fewer_seats : (now : ℕ) (old new : Standing) (received sent : List (Address × List ℕ)) → new.key ≡ old.key
    → Expels now old.members new.members → IsHonest old received sent
    → IsHonest new received sent
fewer_seats now old new received sent key expels was =
    keeps_honest old new received sent key (λ other seated sits. (expels other seated).0 sits) was
