-- Checked, not believed: what is admitted, and what an admitted datagram changes.
use Rattle.std.proofs.Common.{◌≡◌, ◌≢◌, ℕ, zero, suc, ◌<◌, ◌≤◌, ◌⊎◌, Bool, true, false, cond, Option, Some, None, refl, sym, ap, subst, ◌∙◌}
use Rattle.std.proofs.Common.{inl, inr, arith}
use Rattle.std.specs.Prelude.{◌==◌, not, if◌then◌else◌}
use Rattle.std.proofs.lemmas.Bool.{cases_lt, cases_eq, eqb-true, ne_eqb, both_ways, lt-ltb, le-ltb}
use Rattle.std.proofs.lemmas.Bool.Decides.{nat_tests}
use Rattle.c8_wire.specs.declared.kinds.DatagramKind.{DatagramKind}
use Rattle.c8_wire.specs.declared.kinds.DatagramKind.TheVariants as kinds
use Rattle.c8_wire.specs.Packet.{HeadValue}
use Rattle.c8_hand.specs.declared.error.HandError.TheVariants as errors
use Rattle.c8_hand.specs.Links.{LinkValue, LinksValue, no_link, link_to, with_link, is_mine, refusal, refusal_of_seen, refusal_as}
use Rattle.c8_hand.specs.Links.{admission, refusal_by_kind, refusal_of_welcome, refusal_of_others, link_after, heard, IsForMe, NamesBoth}
use Rattle.c8_hand.specs.Links.{IsWelcomeOf, OpensByWelcome}

-- ---- one link changes

pub link_with : (l : LinksValue) (player : ℕ) (link : LinkValue) → 1 ≤ player → player ≤ 4 → link_to (with_link l player link) player ≡ link
link_with l zero link from to = absurd (omega arith)
link_with l (suc zero) link from to = refl
link_with l (suc (suc zero)) link from to = refl
link_with l (suc (suc (suc zero))) link from to = refl
link_with l (suc (suc (suc (suc zero)))) link from to = refl
link_with l (suc (suc (suc (suc (suc n))))) link from to = absurd (omega arith)

own_link : (l : LinksValue) (from player : ℕ) → from ≤ 4 → player ≡ from → link_to (with_link l from (link_to l from)) player ≡ link_to l player
own_link l zero player to same = rw (same) refl
own_link l (suc zero) player to same = rw (same) refl
own_link l (suc (suc zero)) player to same = rw (same) refl
own_link l (suc (suc (suc zero))) player to same = rw (same) refl
own_link l (suc (suc (suc (suc zero)))) player to same = rw (same) refl
own_link l (suc (suc (suc (suc (suc n))))) player to same = absurd (omega arith)

-- there is no link to a fifth player
pub link_past : (l : LinksValue) (player : ℕ) → 4 < player → link_to l player ≡ no_link
link_past l player past =
    rw (
      ne_eqb player 1 (λ e. omega arith),
      ne_eqb player 2 (λ e. omega arith),
      ne_eqb player 3 (λ e. omega arith),
      ne_eqb player 4 (λ e. omega arith),
    ) refl

unless : (player place : ℕ) (link old : LinkValue) → (place ≡ player → ⊥) → (if player == place then link else old) ≡ old
unless player place link old other = rw (ne_eqb player place (λ e. other (sym e))) refl

pub link_other : (l : LinksValue) (player : ℕ) (link : LinkValue) (other : ℕ) → (other ≡ player → ⊥)
    → link_to (with_link l player link) other ≡ link_to l other
link_other l player link zero apart = refl
link_other l player link (suc zero) apart = unless player 1 link l.one apart
link_other l player link (suc (suc zero)) apart = unless player 2 link l.two apart
link_other l player link (suc (suc (suc zero))) apart = unless player 3 link l.three apart
link_other l player link (suc (suc (suc (suc zero)))) apart = unless player 4 link l.four apart
link_other l player link (suc (suc (suc (suc (suc n))))) apart =
    let past : 4 < suc (suc (suc (suc (suc n)))) = omega arith in
    link_past (with_link l player link) (suc (suc (suc (suc (suc n))))) past ∙ sym (link_past l (suc (suc (suc (suc (suc n))))) past)

-- no link changes if the sender is a watcher
unlinked : (player place : ℕ) (link old : LinkValue) → 4 < player → place ≤ 4 → (if player == place then link else old) ≡ old
unlinked player place link old past within = unless player place link old (λ same. omega (arith, same, past, within))

pub heard_past : (l : LinksValue) (head : HeadValue) → 4 < head.from → heard l head ≡ l
heard_past l head past =
    let link : LinkValue = link_after head.kind (link_to l head.from) head.sender_epoch in
    λ i. record l {
      one = unlinked head.from 1 link l.one past (omega arith) i;
      two = unlinked head.from 2 link l.two past (omega arith) i;
      three = unlinked head.from 3 link l.three past (omega arith) i;
      four = unlinked head.from 4 link l.four past (omega arith) i;
    }

-- ---- admitted datagrams

none_past : {A : Type 0} (test : Bool) (x : A) (others : Option A) → cond test (Some x) others ≡ None → (test ≡ false) × (others ≡ None)
none_past true x others e = absurd cc
none_past false x others e = (refl, e)

none_within : {A : Type 0} (test : Bool) (x : A) (others : Option A) → cond test others (Some x) ≡ None → (test ≡ true) × (others ≡ None)
none_within true x others e = (refl, e)
none_within false x others e = absurd cc

-- what holds for an admitted datagram
record IsAdmitted (l : LinksValue) (head : HeadValue) : Type 0 where
  session : not (head.session == l.session) ≡ false
  mine : is_mine l head ≡ true
  by_kind : refusal_by_kind head.kind (link_to l head.from) l.epoch head.sender_epoch head.addressee_epoch ≡ None

admitted : (l : LinksValue) (head : HeadValue) → refusal l head ≡ None → IsAdmitted l head
unfolding refusal
admitted l head none =
    let judged = refusal_by_kind head.kind (link_to l head.from) l.epoch head.sender_epoch head.addressee_epoch in
    let past = none_past (not (head.session == l.session)) errors.Session (if is_mine l head then judged else Some errors.NotMine) none in
    let within = none_within (is_mine l head) errors.NotMine judged past.1 in
    record { session = past.0; mine = within.0; by_kind = within.1 }

pub is_for_me : (l : LinksValue) (head : HeadValue) → refusal l head ≡ None → IsForMe l head
is_for_me l head none =
    let a = admitted l head none in
    let session = a.session in
    let mine = a.mine in
    record {
      session = grind (arith, nat_tests);
      to = grind (arith, nat_tests);
      apart = λ same. grind (arith, nat_tests);
      from_one = grind (arith, nat_tests);
      plays = grind (arith, nat_tests);
    }

welcomed : (link : LinkValue) (own theirs mine : ℕ) → refusal_of_welcome link own theirs mine ≡ None → mine ≡ own
welcomed link own theirs mine none = let judged = none in grind (arith, nat_tests)

record IsLinked (link : LinkValue) (own theirs mine : ℕ) : Type 0 where
  known : theirs ≡ link.known
  own_epoch : mine ≡ own
  is_open : link.is_open ≡ true

linked : (link : LinkValue) (own theirs mine : ℕ) → refusal_of_others link own theirs mine ≡ None → IsLinked link own theirs mine
linked link own theirs mine none = let judged = none in
    record { known = grind (arith, nat_tests); own_epoch = grind (arith, nat_tests); is_open = grind (arith, nat_tests) }

linked_by_kind : (kind : DatagramKind) (link : LinkValue) (own theirs mine : ℕ) → refusal_by_kind kind link own theirs mine ≡ None
    → kind ≢ kinds.Hello → kind ≢ kinds.Welcome → IsLinked link own theirs mine
linked_by_kind kinds.Hello link own theirs mine none hello welcome = absurd (hello refl)
linked_by_kind kinds.Welcome link own theirs mine none hello welcome = absurd (welcome refl)
linked_by_kind kinds.Data link own theirs mine none hello welcome = linked link own theirs mine none
linked_by_kind kinds.Freeze link own theirs mine none hello welcome = linked link own theirs mine none
linked_by_kind kinds.Frozen link own theirs mine none hello welcome = linked link own theirs mine none
linked_by_kind kinds.Cut link own theirs mine none hello welcome = linked link own theirs mine none
linked_by_kind kinds.Show link own theirs mine none hello welcome = absurd cc
linked_by_kind kinds.Seen link own theirs mine none hello welcome = absurd cc

-- no SHOW and no SEEN is admitted as a player's
among_players : (kind : DatagramKind) (link : LinkValue) (own theirs mine : ℕ) → refusal_by_kind kind link own theirs mine ≡ None
    → (kind ≢ kinds.Show) × (kind ≢ kinds.Seen)
among_players kind link own theirs mine none = (
  λ is. let never = ap (λ (k : DatagramKind). refusal_by_kind k link own theirs mine) (sym is) ∙ none in absurd cc,
  λ is. let never = ap (λ (k : DatagramKind). refusal_by_kind k link own theirs mine) (sym is) ∙ none in absurd cc,
)

pub admitted_players : (l : LinksValue) (head : HeadValue) → refusal l head ≡ None → (head.kind ≢ kinds.Show) × (head.kind ≢ kinds.Seen)
admitted_players l head none = among_players head.kind (link_to l head.from) l.epoch head.sender_epoch head.addressee_epoch
    (admitted l head none).by_kind

pub admitted_welcome : (l : LinksValue) (head : HeadValue) → refusal l head ≡ None → head.kind ≡ kinds.Welcome → head.addressee_epoch ≡ l.epoch
admitted_welcome l head none kind =
    let link : LinkValue = link_to l head.from in
    welcomed link l.epoch head.sender_epoch head.addressee_epoch
    (ap (λ (k : DatagramKind). refusal_by_kind k link l.epoch head.sender_epoch head.addressee_epoch) (sym kind) ∙ (admitted l head none).by_kind)

admitted_linked : (l : LinksValue) (head : HeadValue) → refusal l head ≡ None → head.kind ≢ kinds.Hello → head.kind ≢ kinds.Welcome
    → IsLinked (link_to l head.from) l.epoch head.sender_epoch head.addressee_epoch
admitted_linked l head none hello welcome =
    linked_by_kind head.kind (link_to l head.from) l.epoch head.sender_epoch head.addressee_epoch (admitted l head none).by_kind hello welcome

pub names_both : (l : LinksValue) (head : HeadValue) → refusal l head ≡ None → head.kind ≢ kinds.Hello → head.kind ≢ kinds.Welcome → NamesBoth l head
names_both l head none hello welcome =
    let is = admitted_linked l head none hello welcome in
    record { theirs = is.known; mine = is.own_epoch }

pub comes_by_link : (l : LinksValue) (head : HeadValue) → refusal l head ≡ None → head.kind ≢ kinds.Hello → head.kind ≢ kinds.Welcome
    → (link_to l head.from).is_open ≡ true
comes_by_link l head none hello welcome = (admitted_linked l head none hello welcome).is_open

-- how each kind is judged
as_player : (kind : DatagramKind) (l : LinksValue) (head : HeadValue) → kind ≢ kinds.Seen → refusal_as kind l head ≡ refusal l head
as_player kinds.Hello l head other = refl
as_player kinds.Welcome l head other = refl
as_player kinds.Data l head other = refl
as_player kinds.Freeze l head other = refl
as_player kinds.Frozen l head other = refl
as_player kinds.Cut l head other = refl
as_player kinds.Show l head other = refl
as_player kinds.Seen l head other = absurd (other refl)

pub of_player : (l : LinksValue) (head : HeadValue) → head.kind ≢ kinds.Seen → admission l head ≡ refusal l head
of_player l head other = as_player head.kind l head other

pub of_watcher : (l : LinksValue) (head : HeadValue) → head.kind ≡ kinds.Seen → admission l head ≡ refusal_of_seen l head
of_watcher l head seen = ap (λ (kind : DatagramKind). refusal_as kind l head) seen

-- what is admitted as a player's is admitted
pub player_admitted : (l : LinksValue) (head : HeadValue) → refusal l head ≡ None → admission l head ≡ None
player_admitted l head none = of_player l head (admitted_players l head none).1 ∙ none

-- an admitted datagram is a SEEN or a player's
by_kinds : (kind : DatagramKind) (l : LinksValue) (head : HeadValue) → refusal_as kind l head ≡ None → (kind ≡ kinds.Seen) ⊎ (refusal l head ≡ None)
by_kinds kinds.Hello l head none = inr none
by_kinds kinds.Welcome l head none = inr none
by_kinds kinds.Data l head none = inr none
by_kinds kinds.Freeze l head none = inr none
by_kinds kinds.Frozen l head none = inr none
by_kinds kinds.Cut l head none = inr none
by_kinds kinds.Show l head none = inr none
by_kinds kinds.Seen l head none = inl refl

pub seen_or_player : (l : LinksValue) (head : HeadValue) → admission l head ≡ None → (head.kind ≡ kinds.Seen) ⊎ (refusal l head ≡ None)
seen_or_player l head none = by_kinds head.kind l head none

-- an admitted SEEN is for this player
pub admitted_seen : (l : LinksValue) (head : HeadValue) → refusal_of_seen l head ≡ None → head.to ≡ l.me
unfolding refusal_of_seen
admitted_seen l head none =
    let past = none_past (not (head.session == l.session)) errors.Session _ none in
    eqb-true head.to l.me (none_within (head.to == l.me) errors.NotMine None past.1).0

-- a SEEN changes no link
with_own : (l : LinksValue) (from player : ℕ) → link_to (with_link l from (link_to l from)) player ≡ link_to l player
with_own l from player =
    elim (cases_eq player from) [
      | inl same ↦ elim (cases_lt 4 from) [
        | inl past ↦ link_past (with_link l from (link_to l from)) player (omega arith) ∙ sym (link_past l player (omega arith))
        | inr to ↦ own_link l from player to same
      ]
      | inr other ↦ link_other l from (link_to l from) player other
    ]

pub seen_changes_none : (l : LinksValue) (head : HeadValue) (player : ℕ) → head.kind ≡ kinds.Seen → link_to (heard l head) player ≡ link_to l player
seen_changes_none l head player seen =
    ap (λ (kind : DatagramKind). link_to (with_link l head.from (link_after kind (link_to l head.from) head.sender_epoch)) player) seen
    ∙ with_own l head.from player

-- ---- only a WELCOME opens a link

pub sender_link : (l : LinksValue) (head : HeadValue) → 1 ≤ head.from → head.from ≤ 4
    → link_to (heard l head) head.from ≡ link_after head.kind (link_to l head.from) head.sender_epoch
sender_link l head from to = link_with l head.from (link_after head.kind (link_to l head.from) head.sender_epoch) from to

pub other_link : (l : LinksValue) (head : HeadValue) (player : ℕ) → player ≢ head.from → link_to (heard l head) player ≡ link_to l player
other_link l head player apart = link_other l head.from (link_after head.kind (link_to l head.from) head.sender_epoch) player apart

-- what opens one link
opened : (kind : DatagramKind) (link : LinkValue) (theirs : ℕ) → (link_after kind link theirs).is_open ≡ true
    → (link_after kind link theirs ≡ link) ⊎ ((kind ≡ kinds.Welcome) × (theirs ≡ (link_after kind link theirs).known))
opened kinds.Hello link theirs was =
    elim (cases_lt link.known theirs) [
      | inl later ↦ let closed = rw (lt-ltb link.known theirs later) at was in absurd (both_ways false refl closed)
      | inr known ↦ inl (rw (le-ltb link.known theirs known) refl)
    ]
opened kinds.Welcome link theirs was = inr (refl, refl)
opened kinds.Data link theirs was = inl refl
opened kinds.Freeze link theirs was = inl refl
opened kinds.Frozen link theirs was = inl refl
opened kinds.Cut link theirs was = inl refl
opened kinds.Show link theirs was = inl refl
opened kinds.Seen link theirs was = inl refl

-- the link to the sender, if it has one
sender_opens : (l : LinksValue) (head : HeadValue) → refusal l head ≡ None → 1 ≤ head.from → head.from ≤ 4
    → (link_to (heard l head) head.from).is_open ≡ true
    → (link_to (heard l head) head.from ≡ link_to l head.from) ⊎ IsWelcomeOf (heard l head) head.from head
sender_opens l head none from to was =
    let new = sender_link l head from to in
    let after : LinkValue = link_after head.kind (link_to l head.from) head.sender_epoch in
    let for_me = is_for_me l head none in
    elim (opened head.kind (link_to l head.from) head.sender_epoch (sym (ap (λ (link : LinkValue). link.is_open) new) ∙ was)) [
      | inl kept ↦ inl (new ∙ kept)
      | inr welcome ↦ inr (record {
        kind = welcome.0;
        session = for_me.session;
        from = refl;
        to = for_me.to;
        theirs = welcome.1 ∙ sym (ap (λ (link : LinkValue). link.known) new);
        mine = admitted_welcome l head none welcome.0;
      })
    ]

player_opens : (l : LinksValue) (head : HeadValue) → refusal l head ≡ None → OpensByWelcome l head (heard l head)
player_opens l head none player was =
    elim (cases_eq player head.from) [
      | inl same ↦ elim (cases_lt 4 head.from) [
        | inl past ↦ inl (link_past (heard l head) player (omega arith) ∙ sym (link_past l player (omega arith)))
        | inr to ↦
            let here : (link_to (heard l head) head.from).is_open ≡ true = ap (λ (p : ℕ). (link_to (heard l head) p).is_open) (sym same) ∙ was in
            let from = (is_for_me l head none).from_one in
            subst (λ (p : ℕ). (link_to (heard l head) p ≡ link_to l p) ⊎ IsWelcomeOf (heard l head) p head) (sym same)
            (sender_opens l head none from to here)
      ]
      | inr other ↦ inl (other_link l head player other)
    ]

pub opens_by_welcome : (l : LinksValue) (head : HeadValue) → admission l head ≡ None → OpensByWelcome l head (heard l head)
opens_by_welcome l head none player was =
    elim (seen_or_player l head none) [
      | inl seen ↦ inl (seen_changes_none l head player seen)
      | inr by_player ↦ player_opens l head by_player player was
    ]

-- ---- a known epoch never falls

not_below : (kind : DatagramKind) (link : LinkValue) (own theirs mine : ℕ) → refusal_by_kind kind link own theirs mine ≡ None
    → link.known ≤ (link_after kind link theirs).known
not_below kinds.Hello link own theirs mine none =
    elim (cases_lt link.known theirs) [
      | inl later ↦ rw (lt-ltb link.known theirs later) (omega arith)
      | inr known ↦ rw (le-ltb link.known theirs known) (omega arith)
    ]
not_below kinds.Welcome link own theirs mine none = let judged = none in grind (arith, nat_tests)
not_below kinds.Data link own theirs mine none = omega arith
not_below kinds.Freeze link own theirs mine none = omega arith
not_below kinds.Frozen link own theirs mine none = omega arith
not_below kinds.Cut link own theirs mine none = omega arith
not_below kinds.Show link own theirs mine none = omega arith
not_below kinds.Seen link own theirs mine none = omega arith

player_rises : (l : LinksValue) (head : HeadValue) (player : ℕ) → refusal l head ≡ None
    → (link_to l player).known ≤ (link_to (heard l head) player).known
player_rises l head player none =
    elim (cases_eq player head.from) [
      | inl same ↦ elim (cases_lt 4 head.from) [
        | inl past ↦ omega (
          arith,
          ap (λ (link : LinkValue). link.known) (link_past (heard l head) player (omega arith)),
          ap (λ (link : LinkValue). link.known) (link_past l player (omega arith)),
        )
        | inr to ↦
            let new = ap (λ (link : LinkValue). link.known) (sender_link l head (is_for_me l head none).from_one to) in
            let rises = not_below head.kind (link_to l head.from) l.epoch head.sender_epoch head.addressee_epoch (admitted l head none).by_kind in
            subst (λ (p : ℕ). (link_to l p).known ≤ (link_to (heard l head) p).known) (sym same) (omega (arith, new, rises))
      ]
      | inr other ↦ omega (arith, ap (λ (link : LinkValue). link.known) (other_link l head player other))
    ]

pub known_rises : (l : LinksValue) (head : HeadValue) (player : ℕ) → admission l head ≡ None
    → (link_to l player).known ≤ (link_to (heard l head) player).known
known_rises l head player none =
    elim (seen_or_player l head none) [
      | inl seen ↦ omega (arith, ap (λ (link : LinkValue). link.known) (seen_changes_none l head player seen))
      | inr by_player ↦ player_rises l head player by_player
    ]
