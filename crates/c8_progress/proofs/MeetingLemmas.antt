-- How two players' links open and stay open, whatever they knew; for GreetingLemmas and `two_players_meet`.
use Rattle.std.proofs.Common.{◌<◌, ◌≡◌, ℕ, ◌≤◌, ◌⊎◌, Bool, true, false, None, refl, sym, ap, subst, ◌∙◌, inl, inr, arith}
use Rattle.std.specs.Prelude.{not}
use Rattle.std.proofs.lemmas.Bool.{cases_Bool, cases_lt, cases_eq, ne_eqb, both_ways, lt-ltb, le-ltb, le-leb, eq-eqb}
use Rattle.c8_wire.specs.declared.kinds.DatagramKind.{DatagramKind}
use Rattle.c8_wire.specs.declared.kinds.DatagramKind.TheVariants as kinds
use Rattle.c8_wire.specs.Packet.{HeadValue}
use Rattle.c8_hand.specs.Links.{LinkValue, LinksValue, link_to, refusal, refusal_by_kind, refusal_of_hello, refusal_of_welcome, refusal_of_others}
use Rattle.c8_hand.specs.Links.{link_after, heard, head_to}
use Rattle.c8_hand.specs.checked.LinkLaws.{link_with, sender_link, other_link, known_rises, player_admitted}
use Rattle.c8_progress.specs.Meeting.{AreMatched, IsFresh, Meets, hailed, welcomed, met, answered, met_in_turns}

-- the link is open, but names an epoch of the other that is over
pub record IsPast (l m : LinksValue) : Type 0 where
  pub known : (link_to l m.me).known < m.epoch
  pub is_open : (link_to l m.me).is_open ≡ true

-- While one player's open link names an epoch that is over, the other's is not open.
pub record AreNotBothPast (l m : LinksValue) : Type 0 where
  pub one : IsPast l m → (link_to m l.me).is_open ≡ false
  pub other : IsPast m l → (link_to l m.me).is_open ≡ false

-- a datagram from l to m is judged by its kind alone
by_kind_alone : (l m : LinksValue) (kind : DatagramKind) → AreMatched l m
    → refusal m (head_to l m.me kind) ≡ refusal_by_kind kind (link_to m l.me) m.epoch l.epoch (link_to l m.me).known
unfolding refusal
by_kind_alone l m kind are =
    rw (
      eq-eqb l.session m.session are.session,
      eq-eqb m.me m.me refl,
      ne_eqb l.me m.me are.apart,
      le-leb 1 l.me are.one_from,
      le-leb l.me m.players
          (omega (arith, are.players, are.one_to)),
    ) refl

hello_fits : (link : LinkValue) (own theirs mine : ℕ) → 1 ≤ theirs → link.known ≤ theirs → mine ≤ own → refusal_of_hello link own theirs mine ≡ None
hello_fits link own theirs mine from above below = rw (ne_eqb theirs 0 (λ e. omega arith), le-ltb theirs link.known above, le-ltb own mine below) refl

welcome_fits : (link : LinkValue) (own theirs mine : ℕ) → 1 ≤ theirs → link.known ≤ theirs → mine ≡ own
    → refusal_of_welcome link own theirs mine ≡ None
welcome_fits link own theirs mine from above same =
    rw (ne_eqb theirs 0 (λ e. omega arith), le-ltb theirs link.known above, le-ltb mine own (omega arith), le-ltb own mine (omega arith)) refl

others_fit : (link : LinkValue) (own theirs mine : ℕ) → link.is_open ≡ true → link.known ≡ theirs → mine ≡ own
    → refusal_of_others link own theirs mine ≡ None
others_fit link own theirs mine is_open known same =
    rw (
      le-ltb theirs link.known (omega arith),
      le-ltb mine own (omega arith),
      le-ltb link.known theirs (omega arith),
      le-ltb own mine (omega arith),
      is_open,
    ) refl

-- ---- what each datagram does

pub hailed_is : (l m : LinksValue) → AreMatched l m → hailed l m ≡ heard m (head_to l m.me kinds.Hello)
hailed_is l m are =
    rw (
      by_kind_alone l m kinds.Hello are,
      hello_fits (link_to m l.me) m.epoch l.epoch
          (link_to l m.me).known are.one_epoch are.known_of_one are.known_of_other,
    ) refl

hailed_known_of : (link : LinkValue) (theirs : ℕ) → link.known ≤ theirs → (link_after kinds.Hello link theirs).known ≡ theirs
hailed_known_of link theirs above =
    elim (cases_lt link.known theirs) [
      | inl later ↦ rw (lt-ltb link.known theirs later) refl
      | inr known ↦ rw (le-ltb link.known theirs known) (omega arith)
    ]

-- after a HELLO its sender's epoch is known
pub hailed_known : (l m : LinksValue) → AreMatched l m → (link_to (hailed l m) l.me).known ≡ l.epoch
hailed_known l m are =
    ap (λ (k : LinksValue). (link_to k l.me).known) (hailed_is l m are)
    ∙ ap (λ (k : LinkValue). k.known)
    (link_with m l.me (link_after kinds.Hello (link_to m l.me) l.epoch) are.one_from (omega (arith, are.one_to, are.at_most_four)))
    ∙ hailed_known_of (link_to m l.me) l.epoch are.known_of_one

-- the rest of what is matched stays
pub hailed_matched : (l m : LinksValue) → AreMatched l m → AreMatched l (hailed l m)
hailed_matched l m are =
    rw (hailed_is l m are) (record {
      session = are.session;
      players = are.players;
      at_most_four = are.at_most_four;
      apart = are.apart;
      one_from = are.one_from;
      one_to = are.one_to;
      other_from = are.other_from;
      other_to = are.other_to;
      one_epoch = are.one_epoch;
      other_epoch = are.other_epoch;
      known_of_other = are.known_of_other;
      known_of_one = omega (arith, ap (λ (k : LinksValue). (link_to k l.me).known) (sym (hailed_is l m are)) ∙ hailed_known l m are);
    })

pub matched_back : (l m : LinksValue) → AreMatched l m → AreMatched m l
matched_back l m are = record {
  session = sym are.session;
  players = sym are.players;
  at_most_four = omega (arith, are.at_most_four, are.players);
  apart = λ same. are.apart (sym same);
  one_from = are.other_from;
  one_to = omega (arith, are.other_to, are.players);
  other_from = are.one_from;
  other_to = omega (arith, are.one_to, are.players);
  one_epoch = are.other_epoch;
  other_epoch = are.one_epoch;
  known_of_other = are.known_of_one;
  known_of_one = are.known_of_other;
}

pub welcomed_is : (l m : LinksValue) → AreMatched l m → (link_to m l.me).known ≡ l.epoch → welcomed l m ≡ heard l (head_to m l.me kinds.Welcome)
welcomed_is l m are known =
    rw (
      by_kind_alone m l kinds.Welcome (matched_back l m are),
      welcome_fits (link_to l m.me) l.epoch m.epoch
          (link_to m l.me).known are.other_epoch are.known_of_other known,
    ) refl

-- a WELCOME of a player that knows the own epoch opens the link
pub welcomed_fresh : (l m : LinksValue) → AreMatched l m → (link_to m l.me).known ≡ l.epoch → IsFresh (welcomed l m) m
welcomed_fresh l m are known =
    let link : link_to (heard l (head_to m l.me kinds.Welcome)) m.me ≡ record { known = m.epoch; is_open = true } =
    link_with l m.me (link_after kinds.Welcome (link_to l m.me) m.epoch) are.other_from (omega (arith, are.other_to, are.at_most_four)) in
    rw (welcomed_is l m are known) (record { known = ap (λ (k : LinkValue). k.known) link; is_open = ap (λ (k : LinkValue). k.is_open) link })

-- a WELCOME changes no own epoch and no own number
pub welcomed_matched : (l m : LinksValue) → AreMatched l m → (link_to m l.me).known ≡ l.epoch → AreMatched (welcomed l m) m
welcomed_matched l m are known =
    let fresh = rw (welcomed_is l m are known) at (welcomed_fresh l m are known) in
    rw (welcomed_is l m are known) (record {
      session = are.session;
      players = are.players;
      at_most_four = are.at_most_four;
      apart = are.apart;
      one_from = are.one_from;
      one_to = are.one_to;
      other_from = are.other_from;
      other_to = are.other_to;
      one_epoch = are.one_epoch;
      other_epoch = are.other_epoch;
      known_of_other = omega (arith, fresh.known);
      known_of_one = are.known_of_one;
    })

-- the same, seen by the WELCOME's sender
pub same_known : (l m : LinksValue) → AreMatched l m → (link_to m l.me).known ≡ l.epoch → (welcomed l m).me ≡ l.me
same_known l m are known = ap (λ (k : LinksValue). k.me) (welcomed_is l m are known)

pub same_epoch : (l m : LinksValue) → AreMatched l m → (link_to m l.me).known ≡ l.epoch → (welcomed l m).epoch ≡ l.epoch
same_epoch l m are known = ap (λ (k : LinksValue). k.epoch) (welcomed_is l m are known)

pub fresh_for : (m l k : LinksValue) → k.me ≡ l.me → k.epoch ≡ l.epoch → IsFresh m l → IsFresh m k
fresh_for m l k me epoch fresh = record { known = rw (me, epoch) fresh.known; is_open = rw me fresh.is_open }

-- three datagrams: HELLO, WELCOME, WELCOME
pub all_meet : (l m : LinksValue) → AreMatched l m → Meets (met l m)
all_meet l m are =
    let n : LinksValue = hailed l m in
    let with_n = hailed_matched l m are in
    let knows = hailed_known l m are in
    let k : LinksValue = welcomed l n in
    let one : IsFresh k n = welcomed_fresh l n with_n knows in
    let k_with_n : AreMatched k n = welcomed_matched l n with_n knows in
    let me : k.me ≡ l.me = same_known l n with_n knows in
    let is : n.me ≡ m.me = ap (λ (x : LinksValue). x.me) (hailed_is l m are) in
    let n_with_k : AreMatched n k = matched_back k n k_with_n in
    let last : IsFresh (welcomed n k) k = welcomed_fresh n k n_with_k one.known in
    record { one = fresh_for k n (welcomed n k) (same_known n k n_with_k one.known) (same_epoch n k n_with_k one.known) one; other = last }

-- ---- what is fresh stays

after_stays : (kind : DatagramKind) (link : LinkValue) (theirs epoch : ℕ) → link.known ≡ epoch → link.is_open ≡ true → theirs ≤ epoch
    → link.known ≤ (link_after kind link theirs).known
    → ((link_after kind link theirs).known ≡ epoch) × ((link_after kind link theirs).is_open ≡ true)
after_stays kinds.Hello link theirs epoch known is_open below rises = rw (le-ltb link.known theirs (omega (arith, known, below))) (known, is_open)
after_stays kinds.Welcome link theirs epoch known is_open below rises = (omega (arith, known, below, rises), refl)
after_stays kinds.Data link theirs epoch known is_open below rises = (known, is_open)
after_stays kinds.Freeze link theirs epoch known is_open below rises = (known, is_open)
after_stays kinds.Frozen link theirs epoch known is_open below rises = (known, is_open)
after_stays kinds.Cut link theirs epoch known is_open below rises = (known, is_open)
after_stays kinds.Show link theirs epoch known is_open below rises = (known, is_open)
after_stays kinds.Seen link theirs epoch known is_open below rises = (known, is_open)

-- No datagram closes a link that is fresh, as long as the other does not begin a later epoch.
pub fresh_stays : (l m : LinksValue) (head : HeadValue) → IsFresh l m → 1 ≤ m.me → m.me ≤ 4 → refusal l head ≡ None
    → (head.from ≡ m.me → head.sender_epoch ≤ m.epoch) → IsFresh (heard l head) m
fresh_stays l m head fresh from to none epochs =
    elim (cases_eq m.me head.from) [
      | inl same ↦
          let link = sender_link l head (omega (arith, same, from)) (omega (arith, same, to)) in
          let fresh_here : ((link_to l head.from).known ≡ m.epoch) × ((link_to l head.from).is_open ≡ true) =
          (ap (λ (p : ℕ). (link_to l p).known) (sym same) ∙ fresh.known, ap (λ (p : ℕ). (link_to l p).is_open) (sym same) ∙ fresh.is_open) in
          let rises : (link_to l head.from).known ≤ (link_after head.kind (link_to l head.from) head.sender_epoch).known =
          subst (λ (k : LinkValue). (link_to l head.from).known ≤ k.known) link (known_rises l head head.from (player_admitted l head none)) in
          let after = after_stays head.kind (link_to l head.from) head.sender_epoch m.epoch fresh_here.0 fresh_here.1 (epochs (sym same)) rises in
          record {
            known = ap (λ (p : ℕ). (link_to (heard l head) p).known) same ∙ ap (λ (k : LinkValue). k.known) link ∙ after.0;
            is_open = ap (λ (p : ℕ). (link_to (heard l head) p).is_open) same ∙ ap (λ (k : LinkValue). k.is_open) link ∙ after.1;
          }
      | inr other ↦
          let link = other_link l head m.me other in
          record { known = ap (λ (k : LinkValue). k.known) link ∙ fresh.known; is_open = ap (λ (k : LinkValue). k.is_open) link ∙ fresh.is_open }
    ]

-- between two fresh links every datagram is admitted
pub others_admitted : (l m : LinksValue) → AreMatched l m → IsFresh l m → IsFresh m l
    → (refusal l (head_to m l.me kinds.Data) ≡ None) × (refusal l (head_to m l.me kinds.Freeze) ≡ None) ×
    (refusal l (head_to m l.me kinds.Frozen) ≡ None) × (refusal l (head_to m l.me kinds.Cut) ≡ None)
others_admitted l m are one other =
    let fit : refusal_of_others (link_to l m.me) l.epoch m.epoch (link_to m l.me).known ≡ None =
    others_fit (link_to l m.me) l.epoch m.epoch (link_to m l.me).known one.is_open one.known other.known in
    let back = matched_back l m are in (
      by_kind_alone m l kinds.Data back ∙ fit,
      by_kind_alone m l kinds.Freeze back ∙ fit,
      by_kind_alone m l kinds.Frozen back
          ∙ fit,
      by_kind_alone m l kinds.Cut back ∙ fit,
    )

-- ---- HELLO only where the link is not open, WELCOME only for a HELLO

closed_after : (link : LinkValue) (theirs : ℕ) → link.known ≤ theirs → ((link_after kinds.Hello link theirs).is_open ≡ true) → link.known ≡ theirs
closed_after link theirs above is_open =
    elim (cases_lt link.known theirs) [
      | inl later ↦ let closed = rw (lt-ltb link.known theirs later) at is_open in absurd (both_ways false refl closed)
      | inr known ↦ omega (arith, above, known)
    ]

-- whoever is not open greets; so one of two players greets unless both are fresh
pub one_greets : (l m : LinksValue) → AreMatched l m → AreNotBothPast l m
    → ((link_to l m.me).is_open ≡ false) ⊎ (((link_to m l.me).is_open ≡ false) ⊎ (IsFresh l m × IsFresh m l))
one_greets l m are apart =
    elim (cases_Bool (link_to l m.me).is_open) [
      | inr closed ↦ inl closed
      | inl is_open ↦ elim (cases_Bool (link_to m l.me).is_open) [
        | inr closed ↦ inr (inl closed)
        | inl also ↦ elim (cases_lt (link_to l m.me).known m.epoch) [
          | inl past ↦ absurd (both_ways (link_to m l.me).is_open (apart.one (record { known = past; is_open = is_open })) also)
          | inr now ↦ elim (cases_lt (link_to m l.me).known l.epoch) [
            | inl past ↦ absurd (both_ways (link_to l m.me).is_open (apart.other (record { known = past; is_open = also })) is_open)
            | inr also_now ↦ inr
                (inr (
                  record { known = omega (arith, now, are.known_of_other); is_open = is_open },
                  record { known = omega (arith, also_now, are.known_of_one); is_open = also },
                ))
          ]
        ]
      ]
    ]

greeted : (is_open : Bool) (k n : LinksValue) → (link_to n k.me).is_open ≡ is_open → IsFresh k n → (link_to n k.me).known ≡ k.epoch → AreMatched k n
    → Meets (record {
      one = k;
      other = answered is_open n k;
    })
greeted true k n is one knows are = record { one = one; other = record { known = knows; is_open = is } }
greeted false k n is one knows are =
    let back : AreMatched n k = matched_back k n are in
    record {
      one = fresh_for k n (welcomed n k) (same_known n k back one.known) (same_epoch n k back one.known) one;
      other = welcomed_fresh n k back one.known;
    }

-- After the HELLO of l and the WELCOME back, l is fresh. The other is fresh too, or not open, so that it says HELLO and is welcomed.
pub greeted_meet : (l m : LinksValue) → AreMatched l m → Meets (met_in_turns l m)
greeted_meet l m are =
    let n : LinksValue = hailed l m in
    let with_n = hailed_matched l m are in
    let knows = hailed_known l m are in
    let k : LinksValue = welcomed l n in
    let one : IsFresh k n = welcomed_fresh l n with_n knows in
    let k_with_n : AreMatched k n = welcomed_matched l n with_n knows in
    let me : k.me ≡ l.me = same_known l n with_n knows in
    let epoch : k.epoch ≡ l.epoch = same_epoch l n with_n knows in
    greeted (link_to n k.me).is_open k n refl one (omega (arith, epoch, ap (λ (p : ℕ). (link_to n p).known) me ∙ knows)) k_with_n

pub hello_admitted : (l m : LinksValue) → AreMatched l m → refusal m (head_to l m.me kinds.Hello) ≡ None
hello_admitted l m are =
    by_kind_alone l m kinds.Hello are
    ∙ hello_fits (link_to m l.me) m.epoch l.epoch (link_to l m.me).known are.one_epoch are.known_of_one are.known_of_other

pub welcome_admitted : (l m : LinksValue) → AreMatched l m → (link_to m l.me).known ≡ l.epoch → refusal l (head_to m l.me kinds.Welcome) ≡ None
welcome_admitted l m are known =
    by_kind_alone m l kinds.Welcome (matched_back l m are)
    ∙ welcome_fits (link_to l m.me) l.epoch m.epoch (link_to m l.me).known are.other_epoch are.known_of_other known
