-- An honest match is never accused: all its readings have a place in one world.
use Rattle.std.proofs.Common.{◌≡◌, ◌≢◌, ℕ, zero, suc, ◌-◌, ◌<◌, ◌≤◌, ◌⊎◌, inl, inr, List, [], ◌∷◌, ◌++◌, length, Bool, true, false, Option}
use Rattle.c8_peer.specs.Runs.{never_opened}
use Rattle.std.proofs.Common.{Some, None, refl, sym, ap, subst, ◌∙◌, arith}
use Rattle.std.specs.Prelude.{if◌then◌else◌, option_to_list}
use Rattle.std.specs.List.{slice_get}
use Rattle.std.proofs.lemmas.Bool.{cases_eq, cases_lt}
use Rattle.std.proofs.lemmas.Bool.Decides.{nat_tests}
use Rattle.std.proofs.lemmas.List.{append-nil, length-set, length-replicate, get_or-set_same, get_or-set_other, get_or-replicate, get_or_past}
use Rattle.c8_game.specs.Rules.{Rules}
use Rattle.c8_known.specs.Journal.{Record, Head, Epoch, Own, Got, Freeze, Leave, Cut, State as StateRecord, Check}
use Rattle.c8_known.specs.Known.{KnownValue, known_of, with_record, NamesPlayer}
use Rattle.c8_known.specs.Growth.{Begins}
use Rattle.c8_known.specs.checked.BeginsLaws.{begins_same, begins_more}
use Rattle.c8_known.specs.checked.OneMore.{one_more}
use Rattle.c8_record.specs.Allowed.{IsOpening}
use Rattle.c8_peer.specs.State.{State}
use Rattle.c8_peer.specs.Steps.{Works}
use Rattle.c8_peer.specs.Opening.{NoMemory, found, away}
use Rattle.c8_world.specs.World.{World, start, is_player, peer_of, journal_of, with_peer, Give, Event, Stop, Happening}
use Rattle.c8_world.specs.World.{Answer, Stopped, After, give_to, acted, crashed, CanHappen, Chain, IsReached}
use Rattle.c8_world.specs.Agreement.{IsPlayer}
use Rattle.c8_audit.specs.Journals.{Readings}
use Rattle.c8_audit.specs.Honest.{WasReadTwice}
use Rattle.c8_audit.proofs.StepLemmas.{moved_chain}
use Rattle.c8_audit.proofs.FateLemmas.{IsSettled, Grows, all_grow, found_grows, IsOpeningOf, Waits, Keeps, Lacks, HasOpening, lacks_read}
use Rattle.c8_audit.proofs.FateLemmas.{Fares, all_fare, same_next, never_shorter}

-- ---- reached worlds

chain_join : (rules : Rules) (room : ℕ) (w u v : World) (events more : List Event) (answers others : List Answer)
    → Chain rules room w events answers u → Chain rules room u more others v
    → Chain rules room w (events ++ more) (answers ++ others) v
chain_join rules room w u v [] more [] others chain rest = subst (λ (x : World). Chain rules room x more others v) chain rest
chain_join rules room w u v [] more (answer ∷ answers) others chain rest = absurd chain
chain_join rules room w u v (event ∷ events) more [] others chain rest = absurd chain
chain_join rules room w u v (event ∷ events) more (answer ∷ answers) others chain rest =
    (chain.0, chain.1, chain_join rules room chain.0 u v events more answers others chain.2 rest)

pub reached_later : (rules : Rules) (room : ℕ) (w v : World) (events : List Event) (answers : List Answer) → IsReached rules room w
    → Chain rules room w events answers v → IsReached rules room v
reached_later rules room w v events answers reached chain = record {
  events = reached.events ++ events;
  answers = reached.answers ++ answers;
  chain = chain_join rules room (start rules) w v reached.events events reached.answers answers reached.chain chain;
}

reached_next : (rules : Rules) (room : ℕ) (w v : World) (event : Event) (answer : Answer) → IsReached rules room w
    → CanHappen rules room w event answer v → IsReached rules room v
reached_next rules room w v event answer reached can = reached_later rules room w v (event ∷ []) (answer ∷ []) reached (v, can, refl)

nodes_at_start : (rules : Rules) → length (start rules).peers ≡ rules.players
nodes_at_start rules = length-replicate rules.players never_opened

peer_at_start : (rules : Rules) (p : ℕ) → peer_of (start rules) p ≡ never_opened
peer_at_start rules p =
    elim (cases_lt (p - 1) rules.players) [
      | inl within ↦ get_or-replicate rules.players (p - 1) never_opened never_opened within
      | inr past ↦ get_or_past (start rules).peers (p - 1) never_opened (omega (arith, past, nodes_at_start rules))
    ]

never_settled : IsSettled never_opened
never_settled up = refl

-- how many peers there are, and that an open one has no pending record
pub record IsRegular (rules : Rules) (p : ℕ) (w : World) : Type 0 where
  pub nodes : length w.peers ≡ rules.players
  pub settled : IsSettled (peer_of w p)

pub reached_regular : (rules : Rules) (room p : ℕ) (w : World) → IsPlayer rules p → IsReached rules room w → IsRegular rules p w
reached_regular rules room p w plays reached =
    let moved = moved_chain rules room p Grows (start rules) w reached.events reached.answers (all_grow rules room p) (nodes_at_start rules)
    plays reached.chain in
    record {
      nodes = moved.nodes ∙ nodes_at_start rules;
      settled = moved.moved.settled (subst (λ (s : State). IsSettled s) (sym (peer_at_start rules p)) never_settled);
    }

-- ---- a crash settles what a read finds

none_past : {X : Type 0} (xs : List X) → slice_get xs (length xs) ≡ None
none_past [] = refl
none_past (x ∷ xs) = none_past xs

player_is : (rules : Rules) (p : ℕ) → IsPlayer rules p → is_player rules p ≡ true
player_is rules p plays =
    let from = plays.from_one in
    let to = plays.in_game in
    grind (arith, nat_tests)

abbrev pub settled_at : World → ℕ → Bool → World
settled_at w p finds = with_peer w p (away (peer_of w p) (found (peer_of w p) finds) None)

crash_can : (rules : Rules) (room : ℕ) (w : World) (p : ℕ) (finds : Bool) → IsPlayer rules p
    → CanHappen rules room w (Stop (Give (length w.said) p) 0 0) Stopped (settled_at w p finds)
unfolding acted
crash_can rules room w p finds plays =
    let h : Happening = record { finds = false; opening = NoMemory; on_disk = Works; leaves = finds } in
    let still : (acted rules room w (Give (length w.said) p) h).world ≡ w = ap (λ o. (give_to rules w p Works o).world) (none_past w.said) in
    let crash : crashed rules w p finds ≡ settled_at w p finds = ap (λ (b : Bool). if b then settled_at w p finds else w) (player_is rules p plays) in
    record {
      happening = h;
      may = tt;
      is = ap (λ (u : World). let a : After = record { answer = Stopped; world = crashed rules u p finds } in a) still
          ∙ ap (λ (u : World). let a : After = record { answer = Stopped; world = u } in a) crash;
    }

pub settled_reached : (rules : Rules) (room : ℕ) (w : World) (p : ℕ) (finds : Bool) → IsPlayer rules p → IsReached rules room w
    → IsReached rules room (settled_at w p finds)
settled_reached rules room w p finds plays reached =
    reached_next rules room w (settled_at w p finds) _ _ reached (crash_can rules room w p finds plays)

pub settled_here : (rules : Rules) (w : World) (p : ℕ) (finds : Bool) → IsPlayer rules p → length w.peers ≡ rules.players
    → peer_of (settled_at w p finds) p ≡ away (peer_of w p) (found (peer_of w p) finds) None
settled_here rules w p finds plays nodes =
    let from = plays.from_one in
    let to = plays.in_game in
    get_or-set_same w.peers (p - 1) _ never_opened (omega (arith, from, to, nodes))

pub settled_there : (rules : Rules) (w : World) (p q : ℕ) (finds : Bool) → IsPlayer rules p → IsPlayer rules q → q ≢ p
    → peer_of (settled_at w p finds) q ≡ peer_of w q
settled_there rules w p q finds plays others apart =
    let from = plays.from_one in
    let also = others.from_one in
    get_or-set_other w.peers (p - 1) (q - 1) _ never_opened (λ e. apart (omega (arith, e, from, also)))

-- the first n players' disks were read, and that is their journal
pub adopt : World → (ℕ → Bool) → ℕ → World
adopt w finds zero = w
adopt w finds (suc n) = settled_at (adopt w finds n) (suc n) (finds (suc n))

pub adopt_reached : (rules : Rules) (room : ℕ) (w : World) (finds : ℕ → Bool) (n : ℕ) → IsReached rules room w → n ≤ rules.players
    → IsReached rules room (adopt w finds n)
unfolding adopt
adopt_reached rules room w finds zero reached within = reached
adopt_reached rules room w finds (suc n) reached within =
    settled_reached rules room (adopt w finds n) (suc n) (finds (suc n)) (record { from_one = omega arith; in_game = within })
    (adopt_reached rules room w finds n reached (omega (arith, within)))

adopt_nodes : (rules : Rules) (w : World) (finds : ℕ → Bool) (n : ℕ) → length w.peers ≡ rules.players → length (adopt w finds n).peers ≡ rules.players
unfolding adopt
adopt_nodes rules w finds zero nodes = nodes
adopt_nodes rules w finds (suc n) nodes = length-set (adopt w finds n).peers (suc n - 1) _ ∙ adopt_nodes rules w finds n nodes

adopt_past : (rules : Rules) (w : World) (finds : ℕ → Bool) (n q : ℕ) → n < q → IsPlayer rules q → peer_of (adopt w finds n) q ≡ peer_of w q
unfolding adopt
adopt_past rules w finds zero q past plays = refl
adopt_past rules w finds (suc n) q past plays =
    let within = plays.in_game in
    settled_there rules (adopt w finds n) (suc n) q (finds (suc n))
    (record { from_one = omega arith; in_game = omega (arith, within, past) }) plays (λ e. omega (arith, e, past))
    ∙ adopt_past rules w finds n q (omega (arith, past)) plays

pub adopt_is : (rules : Rules) (w : World) (finds : ℕ → Bool) (n q : ℕ) → length w.peers ≡ rules.players → n ≤ rules.players → q ≤ n
    → IsPlayer rules q → journal_of (adopt w finds n) q ≡ found (peer_of w q) (finds q)
unfolding adopt
adopt_is rules w finds zero q nodes within few plays = let from = plays.from_one in absurd (omega (arith, from, few))
adopt_is rules w finds (suc n) q nodes within few plays =
    let here : IsPlayer rules (suc n) = record { from_one = omega arith; in_game = within } in
    elim (cases_eq q (suc n)) [
      | inl same ↦
          let old : peer_of (adopt w finds n) (suc n) ≡ peer_of w (suc n) = adopt_past rules w finds n (suc n) (omega arith) here in
          subst (λ (x : ℕ). journal_of (adopt w finds (suc n)) x ≡ found (peer_of w x) (finds x)) (sym same)
          (ap (λ (s : State). s.journal) (settled_here rules (adopt w finds n) (suc n) (finds (suc n)) here
          (adopt_nodes rules w finds n nodes)) ∙ ap (λ (s : State). found s (finds (suc n))) old)
      | inr apart ↦
          ap (λ (s : State). s.journal) (settled_there rules (adopt w finds n) (suc n) q (finds (suc n)) here plays apart)
          ∙ adopt_is rules w finds n q nodes (omega (arith, within)) (omega (arith, few, apart)) plays
    ]

-- ---- one player's readings

-- the record of an opening has no inputs
opening_adds_nothing : (rules : Rules) (p : ℕ) (journal : List Record) (x : Record) → IsPlayer rules p → IsOpeningOf p x
    → known_of rules p (journal ++ x ∷ []) ≡ known_of rules p journal
opening_adds_nothing rules p journal x plays opening =
    let from = plays.from_one in
    let to = plays.in_game in
    let own = opening.own in
    let names : NamesPlayer rules x = record { from_one = omega (arith, from, own); in_game = omega (arith, to, own) } in
    one_more rules p journal x names ∙ unchanged (known_of rules p journal) x opening.opening
  where
    unchanged : (k : KnownValue) (r : Record) → IsOpening r → with_record k r ≡ k
    unchanged k (Head player form id room) is = refl
    unchanged k (Epoch player number form) is = refl
    unchanged k (Own player start word) is = absurd is
    unchanged k (Got player start words) is = absurd is
    unchanged k (Freeze player) is = absurd is
    unchanged k (Leave player) is = absurd is
    unchanged k (Cut player length start words) is = absurd is
    unchanged k (StateRecord player frames piece words) is = absurd is
    unchanged k (Check player frames digest) is = absurd is

-- At the moment `between`, a read of the disk begins with records that make known what the first reading makes known.
-- The second reading begins with that read.
pub record IsBacked (rules : Rules) (p : ℕ) (between : World) (finds : Bool) (r : Readings) : Type 0 where
  pub before : List Record
  pub begins : Begins before (found (peer_of between p) finds)
  pub known : known_of rules p r.first ≡ known_of rules p before
  pub ends : Begins (found (peer_of between p) finds) r.later

abbrev pub Backed : Rules → ℕ → World → Readings → Type 0
Backed rules p between r = (finds : Bool) × IsBacked rules p between finds r

-- by the journal alone
by_journal : (rules : Rules) (p : ℕ) (between : World) (r : Readings) (before : List Record) → known_of rules p r.first ≡ known_of rules p before
    → Begins before (journal_of between p) → Begins (journal_of between p) r.later → Backed rules p between r
by_journal rules p between r before known begins ends = (false, record { before = before; begins = begins; known = known; ends = ends })

-- the pending record that the first reading found is still pending
by_pending : (rules : Rules) (p : ℕ) (between : World) (r : Readings) (before : List Record) (x : Record) → r.first ≡ before ++ x ∷ []
    → Begins r.first r.later
    → Waits before x (peer_of between p) → Backed rules p between r
by_pending rules p between r before x first continues waits =
    let read : found (peer_of between p) true ≡ r.first =
    ap (λ (o : Option Record). (peer_of between p).journal ++ option_to_list o) waits.pending
    ∙ ap (λ (j : List Record). j ++ x ∷ []) waits.journal ∙ sym first in (
      true,
      record {
        before = r.first;
        begins = subst (λ (j : List Record). Begins r.first j) (sym read) (begins_same r.first);
        known = refl;
        ends = subst (λ (j : List Record). Begins j r.later) (sym read) continues;
      },
    )

-- that record was lost, so it was the record of an opening
by_opening : (rules : Rules) (p : ℕ) (between : World) (r : Readings) (before : List Record) (x : Record) → IsPlayer rules p
    → r.first ≡ before ++ x ∷ [] → Begins r.first r.later
    → Begins before (journal_of between p) → Begins (journal_of between p) r.later → HasOpening p before r.later ⊎ (r.later ≡ before)
    → Backed rules p between r
by_opening rules p between r before x plays first continues begins ends (inl has) =
    let same : x ≡ has.record_is = same_next before r.later x has.record_is (subst (λ (j : List Record). Begins j r.later) first continues)
    has.begins in
    let opening : IsOpeningOf p x = subst (λ (y : Record). IsOpeningOf p y) (sym same) has.opening in
    by_journal rules p between r before (ap (known_of rules p) first ∙ opening_adds_nothing rules p before x plays opening) begins ends
by_opening rules p between r before x plays first continues begins ends (inr none) =
    absurd (never_shorter before x (subst (λ (j : List Record). Begins (before ++ x ∷ []) j) none
    (subst (λ (j : List Record). Begins j r.later) first continues)))

by_fate : (rules : Rules) (room p : ℕ) (between : World) (r : Readings) (before : List Record) (x : Record)
    (was : WasReadTwice rules room between p r) → IsPlayer rules p → length between.peers ≡ rules.players
    → r.first ≡ before ++ x ∷ [] → Begins before (journal_of between p) → Begins (journal_of between p) r.later
    → Keeps before x (peer_of between p) ⊎ Lacks p before (peer_of between p) → Backed rules p between r
by_fate rules room p between r before x was plays nodes first begins ends (inl (inl waits)) =
    by_pending rules p between r before x first was.continues waits
by_fate rules room p between r before x was plays nodes first begins ends (inl (inr stands)) =
    by_journal rules p between r (before ++ x ∷ []) (ap (known_of rules p) first) stands ends
by_fate rules room p between r before x was plays nodes first begins ends (inr lacks) =
    let fares = moved_chain rules room p (Fares p before x) between was.later_at was.more_events was.more_answers
    (all_fare rules room p before x) nodes plays was.after in
    let read = lacks_read p before (peer_of was.later_at p) was.later_finds (fares.moved.lost lacks) in
    by_opening rules p between r before x plays first was.continues begins ends
    (subst (λ (j : List Record). HasOpening p before j ⊎ (j ≡ before)) (sym was.later_is) read)

by_reading : (rules : Rules) (room p : ℕ) (between : World) (r : Readings) (was : WasReadTwice rules room between p r) (s : State)
    (finds : Bool) (o : Option Record) → IsPlayer rules p → length between.peers ≡ rules.players
    → s.pending ≡ o → r.first ≡ found s finds → IsSettled s → Begins s.journal (journal_of between p) → Begins (journal_of between p) r.later
    → ((x : Record) → Waits s.journal x s → Keeps s.journal x (peer_of between p) ⊎ Lacks p s.journal (peer_of between p)) → Backed rules p between r
by_reading rules room p between r was s false o plays nodes pending first settled begins ends fares =
    by_journal rules p between r s.journal (ap (known_of rules p) first) begins ends
by_reading rules room p between r was s true None plays nodes pending first settled begins ends fares =
    let same : r.first ≡ s.journal = first ∙ ap (λ (x : Option Record). s.journal ++ option_to_list x) pending ∙ append-nil s.journal in
    by_journal rules p between r s.journal (ap (known_of rules p) same) begins ends
by_reading rules room p between r was s true (Some x) plays nodes pending first settled begins ends fares =
    let waits : Waits s.journal x s = record {
      journal = refl;
      pending = pending;
      mode = λ up. let both : None ≡ Some x = sym (settled up) ∙ pending in cc;
    } in
    by_fate rules room p between r s.journal x was plays nodes (first ∙ ap (λ (y : Option Record). s.journal ++ option_to_list y) pending)
    begins ends (fares x waits)

pub backed : (rules : Rules) (room p : ℕ) (between : World) (r : Readings) → IsPlayer rules p → WasReadTwice rules room between p r
    → Backed rules p between r
backed rules room p between r plays was =
    let s : State = peer_of was.first_at p in
    let regular = reached_regular rules room p was.first_at plays was.first_reached in
    let early = moved_chain rules room p Grows was.first_at between was.events was.answers (all_grow rules room p) regular.nodes plays was.before in
    let late = moved_chain rules room p Grows between was.later_at was.more_events was.more_answers (all_grow rules room p)
    (early.nodes ∙ regular.nodes) plays was.after in
    let ends : Begins (journal_of between p) r.later =
    subst (λ (j : List Record). Begins (journal_of between p) j) (sym was.later_is)
    (begins_more (journal_of between p) (journal_of was.later_at p) (found (peer_of was.later_at p) was.later_finds) late.moved.grown
    (found_grows (peer_of was.later_at p) was.later_finds)) in
    by_reading rules room p between r was s was.finds s.pending plays (early.nodes ∙ regular.nodes) refl was.first_is regular.settled
    early.moved.grown ends
    (λ x waits. (moved_chain rules room p (Fares p s.journal x) was.first_at between was.events was.answers
    (all_fare rules room p s.journal x) regular.nodes plays was.before).moved.kept (inl waits))
