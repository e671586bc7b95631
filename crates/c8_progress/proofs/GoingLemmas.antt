-- A match that goes on: who was not dropped is open, and nobody else is dropped; for CuttingLemmas, BroughtLemmas, EnteringLemmas.
use Rattle.std.proofs.Common.{◌≡◌, ◌≢◌, ℕ, ◌+◌, ◌≤◌, ◌⊎◌, inl, inr, ⊎_elim, List, [], ◌∷◌, ◌++◌, length, Bool, true, false, Option, Some, None, refl}
use Rattle.std.proofs.Common.{sym, ap, subst, ◌∙◌, arith}
use Rattle.std.specs.Prelude.{◌||◌, ◌&&◌}
use Rattle.std.specs.List.{list_all}
use Rattle.std.proofs.lemmas.List.Folds.{list_all-append}
use Rattle.std.proofs.lemmas.Bool.{cases_eq, both_ways}
use Rattle.c8_game.specs.Rules.{Rules, AreInRange}
use Rattle.c8_known.specs.Journal.{Record, held, count, has_freeze, has_leave, cut_of, lets_go}
use Rattle.c8_known.specs.Known.{PlayerValue}
use Rattle.c8_known.specs.Growth.{Begins}
use Rattle.c8_known.specs.checked.BeginsLaws.{begins_same, begins_more, begins_append, begins_length}
use Rattle.c8_known.specs.checked.JournalLaws.{held_begins, leave_next, cut_stays}
use Rattle.c8_known.specs.checked.OneMore.{player_known}
use Rattle.c8_record.specs.checked.LeaverLaws.{journal_orderly}
use Rattle.c8_peer.specs.State as states
use Rattle.c8_peer.specs.State.{Saying}
use Rattle.c8_world.specs.World as worlds
use Rattle.c8_world.specs.World.{World, IsReached, Event, Answer, Do, CanHappen, Chain, peer_of, journal_of}
use Rattle.c8_world.specs.Agreement.{IsPlayer, IsUndropped}
use Rattle.c8_progress.specs.Ending.{goes_on}
use Rattle.c8_progress.specs.Exchange.{works, spoken, exchanged, greeted, got_on, links_of, GetOn, Greets}
use Rattle.c8_progress.proofs.GreetingLemmas.{ArePair, AreKept, player_one}
use Rattle.c8_progress.proofs.TellingLemmas.{IsLonger}
use Rattle.c8_progress.proofs.LawLemmas.{Laws}
use Rattle.c8_progress.proofs.ExchangeLemmas.{Takes, pair_gets_on, pair_gets_all}
use Rattle.c8_progress.proofs.MeetingLemmas.{one_greets}
use Rattle.c8_progress.proofs.ReachedLemmas.{reached_well, reached_matched, reached_not_both_past}
use Rattle.c8_progress.proofs.DroppedLemmas.{reached_ordered}

-- some events by which a match goes on lead from one world to another
pub record Leads (rules : Rules) (room : ℕ) (w v : World) : Type 0 where
  pub events : List Event
  pub answers : List Answer
  pub chain : Chain rules room w events answers v
  pub plain : list_all goes_on events ≡ true

-- ---- events, one after another

chain_append : (rules : Rules) (room : ℕ) (u w v : World) (events more : List Event) (answers others : List Answer)
    → Chain rules room u events answers w → Chain rules room w more others v → Chain rules room u (events ++ more) (answers ++ others) v
chain_append rules room u w v [] more [] others one two = subst (λ (x : World). Chain rules room x more others v) one two
chain_append rules room u w v [] more (answer ∷ answers) others one two = absurd one
chain_append rules room u w v (event ∷ events) more [] others one two = absurd one
chain_append rules room u w v (event ∷ events) more (answer ∷ answers) others one two =
    (one.0, one.1, chain_append rules room one.0 w v events more answers others one.2 two)

both : (a b : Bool) → a ≡ true → b ≡ true → (a && b) ≡ true
both true b one two = two
both false b one two = absurd cc

pub leads_none : (rules : Rules) (room : ℕ) (w : World) → Leads rules room w w
leads_none rules room w = record { events = []; answers = []; chain = refl; plain = refl }

pub leads_more : (rules : Rules) (room : ℕ) (u w v : World) → Leads rules room u w → Leads rules room w v → Leads rules room u v
leads_more rules room u w v one two = record {
  events = one.events ++ two.events;
  answers = one.answers ++ two.answers;
  chain = chain_append rules room u w v one.events two.events one.answers two.answers one.chain two.chain;
  plain = list_all-append goes_on one.events two.events ∙ both (list_all goes_on one.events) (list_all goes_on two.events) one.plain two.plain;
}

pub leads_one : (rules : Rules) (room : ℕ) (w v : World) (event : Event) (answer : Answer) → goes_on event ≡ true
    → CanHappen rules room w event answer v → Leads rules room w v
leads_one rules room w v event answer plain can = record {
  events = event ∷ [];
  answers = answer ∷ [];
  chain = (v, can, refl);
  plain = both (goes_on event) true plain refl;
}

pub reached_leads : (rules : Rules) (room : ℕ) (w v : World) → IsReached rules room w → Leads rules room w v → IsReached rules room v
reached_leads rules room w v is leads = record {
  events = is.events ++ leads.events;
  answers = is.answers ++ leads.answers;
  chain = chain_append rules room (worlds.start rules) w v is.events leads.events is.answers leads.answers is.chain leads.chain;
}

pub exchange_leads : (rules : Rules) (room : ℕ) (w : World) (p q : ℕ) (what : Saying) → Leads rules room w (exchanged rules room w p q what)
exchange_leads rules room w p q what =
    let u : World = spoken rules room w p q what in
    let v : World = exchanged rules room w p q what in
    leads_more rules room w u v (leads_one rules room w u (Do (worlds.Say p q what)) _ refl (record { happening = works; may = tt; is = refl }))
    (leads_one rules room u v (Do (worlds.Give (length w.said) q)) _ refl (record { happening = works; may = tt; is = refl }))

pub greeted_leads : (rules : Rules) (room : ℕ) (w : World) (p q : ℕ) → Leads rules room w (greeted rules room w p q)
greeted_leads rules room w p q =
    let v : World = greeted rules room w p q in
    leads_more rules room w _ v (exchange_leads rules room w p q states.Hello)
    (leads_more rules room _ _ v (exchange_leads rules room _ q p states.Welcome) (exchange_leads rules room _ p q states.Welcome))

pub got_on_leads : (rules : Rules) (room : ℕ) (w : World) (p q : ℕ) → Leads rules room w (got_on rules room w p q)
got_on_leads rules room w p q =
    leads_more rules room w _ (got_on rules room w p q) (greeted_leads rules room w p q) (exchange_leads rules room _ p q states.Data)

-- ---- a match that goes on

-- Player 1 has dropped these players and no others, and all others are open.
pub record IsOn (rules : Rules) (room : ℕ) (out : ℕ → Bool) (w : World) : Type 0 where
  pub reached : IsReached rules room w
  pub leaves : (p : ℕ) → has_leave p (journal_of w 1) ≡ out p
  pub up : (p : ℕ) → IsPlayer rules p → out p ≡ false → (peer_of w p).mode ≡ states.Open

-- some events later it still goes on, and no journal is shorter
pub record IsLater (rules : Rules) (room : ℕ) (out : ℕ → Bool) (w v : World) : Type 0 where
  pub leads : Leads rules room w v
  pub on : IsOn rules room out v
  pub grows : (r : ℕ) → IsPlayer rules r → Begins (journal_of w r) (journal_of v r)

pub later_same : (rules : Rules) (room : ℕ) (out : ℕ → Bool) (w : World) → IsOn rules room out w → IsLater rules room out w w
later_same rules room out w on = record { leads = leads_none rules room w; on = on; grows = λ r plays. begins_same (journal_of w r) }

pub later_more : (rules : Rules) (room : ℕ) (out : ℕ → Bool) (u w v : World) → IsLater rules room out u w → IsLater rules room out w v
    → IsLater rules room out u v
later_more rules room out u w v one two = record {
  leads = leads_more rules room u w v one.leads two.leads;
  on = two.on;
  grows = λ r plays. begins_more (journal_of u r) (journal_of w r) (journal_of v r) (one.grows r plays) (two.grows r plays);
}

-- a journal is the same, or it has one more record, which drops nobody
abbrev pub HasGrown : List Record → List Record → Type 0
HasGrown old new = (new ≡ old) ⊎ ((r : Record) × ((q : ℕ) → lets_go q r ≡ false) × (new ≡ old ++ r ∷ []))

pub grown_longer : (old new : List Record) → IsLonger old new → HasGrown old new
grown_longer old new longer = ⊎_elim (λ same. inl same) (λ more. inr (more.0, more.1.leaves, more.2)) longer

grown_begins : (old new : List Record) → HasGrown old new → Begins old new
grown_begins old new grown =
    ⊎_elim (λ same. subst (Begins old) (sym same) (begins_same old)) (λ more. subst (Begins old) (sym more.2) (begins_append old (more.0 ∷ []))) grown

or_false : (a b : Bool) → b ≡ false → (a || b) ≡ a
or_false true b e = refl
or_false false b e = e

pub grown_leaves : (p : ℕ) (old new : List Record) → HasGrown old new → has_leave p new ≡ has_leave p old
grown_leaves p old new grown =
    ⊎_elim (λ same. ap (has_leave p) same)
    (λ more. ap (has_leave p) more.2 ∙ leave_next p old more.0 ∙ or_false (has_leave p old) (lets_go p more.0) (more.1 p)) grown

-- one journal has grown, and who was open is open
pub record HasStepped (rules : Rules) (w v : World) (q : ℕ) : Type 0 where
  pub modes : (r : ℕ) → IsPlayer rules r → (peer_of w r).mode ≡ states.Open → (peer_of v r).mode ≡ states.Open
  pub here : HasGrown (journal_of w q) (journal_of v q)
  pub there : (r : ℕ) → IsPlayer rules r → r ≢ q → journal_of v r ≡ journal_of w r

pub later_by : (rules : Rules) (room : ℕ) (out : ℕ → Bool) (w v : World) (q : ℕ) → AreInRange rules → IsOn rules room out w → Leads rules room w v
    → HasStepped rules w v q → IsLater rules room out w v
later_by rules room out w v q range on leads is =
    let grown : (r : ℕ) → IsPlayer rules r → HasGrown (journal_of w r) (journal_of v r) = λ r plays. elim (cases_eq r q) [
      | inl at ↦ subst (λ (x : ℕ). HasGrown (journal_of w x) (journal_of v x)) (sym at) is.here
      | inr other ↦ inl (is.there r plays other)
    ] in
    record {
      leads = leads;
      on = record {
        reached = reached_leads rules room w v on.reached leads;
        leaves = λ p. grown_leaves p (journal_of w 1) (journal_of v 1) (grown 1 (player_one rules range)) ∙ on.leaves p;
        up = λ p plays stays. is.modes p plays (on.up p plays stays);
      };
      grows = λ r plays. grown_begins (journal_of w r) (journal_of v r) (grown r plays);
    }

pub later_kept : (rules : Rules) (room : ℕ) (out : ℕ → Bool) (w v : World) → AreInRange rules → IsOn rules room out w → Leads rules room w v
    → AreKept rules w v → IsLater rules room out w v
later_kept rules room out w v range on leads kept = later_by rules room out w v 1 range on leads (record {
  modes = λ r plays up. kept.modes r plays ∙ up;
  here = inl (kept.journals 1 (player_one rules range));
  there = λ r plays other. kept.journals r plays;
})

-- ---- who was not dropped

-- no journal says that p left, or was frozen or cut
pub record IsClean (w : World) (p q : ℕ) : Type 0 where
  pub stays : has_leave p (journal_of w q) ≡ false
  pub unfrozen : has_freeze p (journal_of w q) ≡ false
  pub uncut : cut_of p (journal_of w q) ≡ None

false_if : (b : Bool) → (b ≡ true → ⊥) → b ≡ false
false_if true never = absurd (never refl)
false_if false never = refl

none_if : (o : Option ℕ) → ((n : ℕ) → o ≡ Some n → ⊥) → o ≡ None
none_if None never = refl
none_if (Some n) never = absurd (never n refl)

pub stays_clean : (rules : Rules) (room : ℕ) (w : World) (p q : ℕ) → AreInRange rules → Laws rules room → IsReached rules room w
    → IsUndropped w p → IsPlayer rules q → IsClean w p q
stays_clean rules room w p q range laws reached in_it plays =
    let all = (reached_ordered rules room w range laws reached).journals q plays in
    let never : has_leave p (journal_of w 1) ≡ true → ⊥ = λ e. both_ways (has_leave p (journal_of w 1)) in_it e in
    record {
      stays = false_if (has_leave p (journal_of w q)) (λ e. elim (cases_eq q 1) [
        | inl one ↦ never (subst (λ (x : ℕ). has_leave p (journal_of w x) ≡ true) one e)
        | inr apart ↦ never (all.left apart p e)
      ]);
      unfrozen = false_if (has_freeze p (journal_of w q)) (λ e. never (all.frozen p e));
      uncut = none_if (cut_of p (journal_of w q)) (λ K e. never (all.cut p K e));
    }

pub undropped_clean : (rules : Rules) (room : ℕ) (out : ℕ → Bool) (w : World) (p q : ℕ) → AreInRange rules → Laws rules room
    → IsOn rules room out w → out p ≡ false → IsPlayer rules q → IsClean w p q
undropped_clean rules room out w p q range laws on in_it plays =
    stays_clean rules room w p q range laws on.reached (on.leaves p ∙ in_it) plays

pub on_pair : (rules : Rules) (room : ℕ) (out : ℕ → Bool) (w : World) (p q : ℕ) → AreInRange rules → Laws rules room → IsOn rules room out w
    → IsPlayer rules p → IsPlayer rules q → p ≢ q → out p ≡ false → out q ≡ false → ArePair rules w p q
on_pair rules room out w p q range laws on plays also apart stays also_stays = record {
  plays = plays;
  also = also;
  apart = apart;
  up = on.up p plays stays;
  also_up = on.up q also also_stays;
  stays = (undropped_clean rules room out w p p range laws on stays plays).stays;
  also_stays = (undropped_clean rules room out w q q range laws on also_stays also).stays;
  undropped = on.leaves p ∙ stays;
  also_undropped = on.leaves q ∙ also_stays;
}

-- player 1 never drops itself
pub one_stays : (rules : Rules) (room : ℕ) (out : ℕ → Bool) (w : World) → AreInRange rules → Laws rules room → IsOn rules room out w → out 1 ≡ false
one_stays rules room out w range laws on =
    let one = player_one rules range in
    let journal = (laws w on.reached).journals 1 one in
    let told = ((journal_orderly rules 1 room (journal_of w 1) journal 1 (omega arith)).one_stays refl).1 in
    let known = ap (λ (v : PlayerValue). v.leaving) (player_known rules 1 1 (journal_of w 1) one.from_one one.in_game) in
    sym (on.leaves 1) ∙ sym known ∙ told

-- ---- what stays while journals grow

pub count_begins : (rules : Rules) (q : ℕ) (old new : List Record) → Begins old new → count rules q old ≤ count rules q new
count_begins rules q old new begins =
    subst (λ (j : List Record). count rules q old ≤ count rules q j) (sym begins.is)
    (begins_length (held rules q old) (held rules q (old ++ begins.rest)) (held_begins rules q old begins.rest))

pub cut_begins : (q K : ℕ) (old new : List Record) → Begins old new → cut_of q old ≡ Some K → cut_of q new ≡ Some K
cut_begins q K old new begins cut =
    subst (λ (j : List Record). cut_of q j ≡ Some K) (sym begins.is) (cut_stays q K old begins.rest cut)

-- ---- two players get on

pub undropped_pair : (rules : Rules) (room : ℕ) (w : World) (p q : ℕ) → AreInRange rules → Laws rules room → IsReached rules room w
    → IsPlayer rules p → IsPlayer rules q → p ≢ q → (peer_of w p).mode ≡ states.Open → (peer_of w q).mode ≡ states.Open
    → IsUndropped w p → IsUndropped w q → ArePair rules w p q
undropped_pair rules room w p q range laws reached plays also apart up also_up stays also_stays = record {
  plays = plays;
  also = also;
  apart = apart;
  up = up;
  also_up = also_up;
  stays = (stays_clean rules room w p p range laws reached stays plays).stays;
  also_stays = (stays_clean rules room w q q range laws reached also_stays also).stays;
  undropped = stays;
  also_undropped = also_stays;
}

pub players_get_on : (rules : Rules) (room : ℕ) (w : World) (p q : ℕ) → AreInRange rules → Laws rules room → IsReached rules room w
    → IsPlayer rules p → IsPlayer rules q → p ≢ q → (peer_of w p).mode ≡ states.Open → (peer_of w q).mode ≡ states.Open
    → IsUndropped w p → IsUndropped w q → GetOn rules w (got_on rules room w p q) p q
players_get_on rules room w p q range laws reached plays also apart up also_up stays also_stays =
    let are = undropped_pair rules room w p q range laws reached plays also apart up also_up stays also_stays in
    let here = stays_clean rules room w p q range laws reached stays also in
    let there = stays_clean rules room w q p range laws reached also_stays plays in
    let takes : Takes w p q = record { unfrozen = here.unfrozen; unleft = here.stays } in
    let is = pair_gets_on rules room w p q range reached laws are takes in
    record {
      one = is.one;
      other = is.other;
      all = pair_gets_all rules room w p q range reached laws are takes (record { one = here.uncut; other = there.uncut });
    }

-- of two players one is not open, so it says HELLO, or both have open links with the present epochs
pub one_of_two_greets : (rules : Rules) (room : ℕ) (w : World) (p q : ℕ) → AreInRange rules → Laws rules room → IsReached rules room w
    → IsPlayer rules p → IsPlayer rules q → p ≢ q → (peer_of w p).mode ≡ states.Open → (peer_of w q).mode ≡ states.Open
    → Greets (links_of w p) (links_of w q) p q
one_of_two_greets rules room w p q range laws reached plays also apart up also_up =
    let p_up : (peer_of w p).mode ≢ states.Away = λ gone. cc (up, gone) in
    let q_up : (peer_of w q).mode ≢ states.Away = λ gone. cc (also_up, gone) in
    let well = reached_well rules room w range reached in
    let matched = reached_matched rules room w p q range reached plays also apart p_up q_up in
    let never = reached_not_both_past rules room w p q range reached plays also p_up q_up
    (λ x y x_plays x_up is_open. ((laws w reached).linked x y x_plays x_up is_open).named) in
    let greets : Greets (links_of w p) (links_of w q) (links_of w p).me (links_of w q).me = one_greets (links_of w p) (links_of w q) matched never in
    subst (λ (x : ℕ). Greets (links_of w p) (links_of w q) x q) (well.linked p plays p_up).me
    (subst (λ (y : ℕ). Greets (links_of w p) (links_of w q) (links_of w p).me y) (well.linked q also q_up).me greets)
