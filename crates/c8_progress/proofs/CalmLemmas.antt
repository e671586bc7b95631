-- What never goes back in a calm run: journals, links that are open, acknowledgements; for ArrivingLemmas and the laws of rounds.
use Rattle.std.proofs.Common.{◌≡◌, ◌≢◌, ℕ, zero, suc, ◌+◌, ◌-◌, ◌≤◌, ◌⊎◌, inl, inr, ⊎_elim, List, ◌++◌, true, None, refl, sym, ap, subst, ◌∙◌, arith}
use Rattle.std.proofs.lemmas.Bool.{cases_eq}
use Rattle.c8_game.specs.Rules.{Rules, AreInRange}
use Rattle.c8_wire.specs.Packet.{Packet}
use Rattle.c8_hand.specs.Links.{LinksValue, link_to, refusal, heard}
use Rattle.c8_hand.specs.checked.LinkLaws.{known_rises, player_admitted}
use Rattle.c8_known.specs.Journal.{Record, count, has_freeze, has_leave}
use Rattle.c8_known.specs.Known.{PlayerValue, known_of}
use Rattle.c8_known.specs.Confirmed.{confirmed}
use Rattle.c8_known.specs.Growth.{Begins}
use Rattle.c8_known.specs.checked.BeginsLaws.{begins_same, begins_more, begins_get}
use Rattle.c8_known.specs.checked.ConfirmedLaws.{confirmed_rises}
use Rattle.c8_known.specs.checked.JournalLaws.{freeze_stays}
use Rattle.c8_record.specs.Allowed.{IsJournal}
use Rattle.c8_known.specs.checked.OneMore.{player_known}
use Rattle.c8_record.specs.checked.JournalLaws.{journal_grows}
use Rattle.c8_record.specs.checked.LeaverLaws.{journal_orderly}
use Rattle.c8_window.specs.Window.{acked_of}
use Rattle.c8_peer.specs.State as states
use Rattle.c8_world.specs.World.{World, IsReached, peer_of, journal_of, known_by}
use Rattle.c8_world.specs.Agreement.{IsPlayer, IsUndropped, IsAmong}
use Rattle.c8_progress.specs.Exchange.{links_of, got_on}
use Rattle.c8_progress.specs.Meeting.{AreMatched, IsFresh}
use Rattle.c8_progress.specs.Rounds.{Run, IsCalm, IsKept, LinksAreOpen}
use Rattle.c8_progress.proofs.LawLemmas.{Laws}
use Rattle.c8_progress.proofs.LinkedLemmas.{IsWell, IsLinkedWell}
use Rattle.c8_progress.proofs.MeetingLemmas.{fresh_stays}
use Rattle.c8_progress.proofs.ReachedLemmas.{reached_well, reached_matched}
use Rattle.c8_progress.proofs.SayingLemmas.{reached_more}
use Rattle.c8_progress.proofs.GreetingLemmas.{player_one}
use Rattle.c8_progress.proofs.TellingLemmas.{IsLonger}
use Rattle.c8_progress.proofs.ExchangeLemmas.{pair_gets_on}
use Rattle.c8_progress.proofs.GoingLemmas.{got_on_leads, reached_leads, grown_longer, grown_leaves, count_begins, cut_begins, stays_clean}
use Rattle.c8_progress.proofs.GoingLemmas.{undropped_pair, players_get_on}
use Rattle.c8_progress.proofs.EventLemmas.{IsCalled, HasMoved, event_calls, event_said, called_moves}

-- a calm run from a reached world
pub record Goes (rules : Rules) (room : ℕ) (run : Run rules room) : Type 0 where
  pub range : AreInRange rules
  pub laws : Laws rules room
  pub reached : IsReached rules room (run.world 0)
  pub calm : IsCalm rules room run

-- a player that was not dropped when the run began
pub record Stays (rules : Rules) (room : ℕ) (run : Run rules room) (p : ℕ) : Type 0 where
  pub plays : IsPlayer rules p
  pub undropped : IsUndropped (run.world 0) p

-- ---- what each step keeps holds later

from_on : (P : ℕ → Type 0) → ((t : ℕ) → P t → P (suc t)) → (t more : ℕ) → P t → P (t + more)
from_on P keeps t zero is = let e : t ≡ t + 0 = omega arith in subst P e is
from_on P keeps t (suc more) is =
    let e : suc (t + more) ≡ t + suc more = omega arith in
    subst P e (keeps (t + more) (from_on P keeps t more is))

pub later_on : (P : ℕ → Type 0) → ((t : ℕ) → P t → P (suc t)) → (t u : ℕ) → t ≤ u → P t → P u
later_on P keeps t u up_to is = let e : t + (u - t) ≡ u = omega (arith, up_to) in subst P e (from_on P keeps t (u - t) is)

pub reached_at : (rules : Rules) (room : ℕ) (run : Run rules room) → Goes rules room run → (t : ℕ) → IsReached rules room (run.world t)
reached_at rules room run goes t =
    later_on (λ u. IsReached rules room (run.world u))
    (λ u is. reached_more rules room (run.world u) (run.world (suc u)) (run.event u) (run.answer u) is (run.step u)) 0 t (omega arith) goes.reached

pub well_at : (rules : Rules) (room : ℕ) (run : Run rules room) → Goes rules room run → (t : ℕ) → IsWell rules room (run.world t)
well_at rules room run goes t = reached_well rules room (run.world t) goes.range (reached_at rules room run goes t)

pub undropped_at : (rules : Rules) (room : ℕ) (run : Run rules room) → Goes rules room run → (p t : ℕ) → Stays rules room run p
    → IsUndropped (run.world t) p
undropped_at rules room run goes p t stays =
    later_on (λ u. IsUndropped (run.world u) p) (λ u is. goes.calm.stay u p is) 0 t (omega arith) stays.undropped

-- player 1 is never dropped
pub first_stays : (rules : Rules) (room : ℕ) (run : Run rules room) → Goes rules room run → Stays rules room run 1
first_stays rules room run goes =
    let one = player_one rules goes.range in
    let journal = (goes.laws (run.world 0) goes.reached).journals 1 one in
    let told = ((journal_orderly rules 1 room (journal_of (run.world 0) 1) journal 1 (omega arith)).one_stays refl).1 in
    let known = ap (λ (v : PlayerValue). v.leaving) (player_known rules 1 1 (journal_of (run.world 0) 1) one.from_one one.in_game) in
    record { plays = one; undropped = sym known ∙ told }

pub open_at : (rules : Rules) (room : ℕ) (run : Run rules room) → Goes rules room run → (p t : ℕ) → Stays rules room run p
    → (peer_of (run.world t) p).mode ≡ states.Open
open_at rules room run goes p t stays = goes.calm.up t p stays.plays (undropped_at rules room run goes p t stays)

pub awake_at : (rules : Rules) (room : ℕ) (run : Run rules room) → Goes rules room run → (p t : ℕ) → Stays rules room run p
    → (peer_of (run.world t) p).mode ≢ states.Away
awake_at rules room run goes p t stays gone = let up = open_at rules room run goes p t stays in cc (up, gone)

pub linked_at : (rules : Rules) (room : ℕ) (run : Run rules room) → Goes rules room run → (p t : ℕ) → Stays rules room run p
    → IsLinkedWell rules room (journal_of (run.world t)) (run.world t).said p (links_of (run.world t) p)
linked_at rules room run goes p t stays = (well_at rules room run goes t).linked p stays.plays (awake_at rules room run goes p t stays)

-- at each time a call was made of the peer, or nothing happened to it
pub called_at : (rules : Rules) (room : ℕ) (run : Run rules room) → Goes rules room run → (p t : ℕ) → Stays rules room run p
    → IsCalled rules (run.world t) p (peer_of (run.world (suc t)) p)
called_at rules room run goes p t stays =
    event_calls rules room (run.world t) (run.world (suc t)) p (run.event t) (run.answer t) goes.range.at_most_four (well_at rules room run goes t)
    stays.plays (run.step t) (open_at rules room run goes p t stays) (open_at rules room run goes p (suc t) stays)

moved_at : (rules : Rules) (room : ℕ) (run : Run rules room) → Goes rules room run → (p t : ℕ) → Stays rules room run p
    → HasMoved (run.world t).said (peer_of (run.world t) p) (peer_of (run.world (suc t)) p)
moved_at rules room run goes p t stays =
    called_moves rules (run.world t) p (peer_of (run.world (suc t)) p) (open_at rules room run goes p t stays)
    (called_at rules room run goes p t stays)

-- ---- journals, datagrams and acknowledgements

pub said_later : (rules : Rules) (room : ℕ) (run : Run rules room) (t u : ℕ) → t ≤ u → Begins (run.world t).said (run.world u).said
said_later rules room run t u up_to =
    later_on (λ x. Begins (run.world t).said (run.world x).said)
    (λ x is. begins_more (run.world t).said (run.world x).said (run.world (suc x)).said is
    (event_said rules room (run.world x) (run.world (suc x)) (run.event x) (run.answer x) (run.step x))) t u up_to (begins_same (run.world t).said)

pub among_later : (rules : Rules) (room : ℕ) (run : Run rules room) (t u : ℕ) (x : Packet) → t ≤ u → IsAmong (run.world t).said x
    → IsAmong (run.world u).said x
among_later rules room run t u x up_to among =
    (among.0, begins_get (run.world t).said (run.world u).said among.0 x (said_later rules room run t u up_to) among.1)

pub journal_later : (rules : Rules) (room : ℕ) (run : Run rules room) → Goes rules room run → (p t u : ℕ) → Stays rules room run p → t ≤ u
    → Begins (journal_of (run.world t) p) (journal_of (run.world u) p)
journal_later rules room run goes p t u stays up_to =
    later_on (λ x. Begins (journal_of (run.world t) p) (journal_of (run.world x) p))
    (λ x is. begins_more (journal_of (run.world t) p) (journal_of (run.world x) p) (journal_of (run.world (suc x)) p) is
    (moved_at rules room run goes p x stays).journal) t u up_to (begins_same (journal_of (run.world t) p))

pub count_later : (rules : Rules) (room : ℕ) (run : Run rules room) → Goes rules room run → (p q t u : ℕ) → Stays rules room run q → t ≤ u
    → count rules p (journal_of (run.world t) q) ≤ count rules p (journal_of (run.world u) q)
count_later rules room run goes p q t u stays up_to =
    count_begins rules p (journal_of (run.world t) q) (journal_of (run.world u) q) (journal_later rules room run goes q t u stays up_to)

pub acked_later : (rules : Rules) (room : ℕ) (run : Run rules room) → Goes rules room run → (p q t u : ℕ) → Stays rules room run p
    → IsPlayer rules q → t ≤ u → acked_of (peer_of (run.world t) p).memory.acks q ≤ acked_of (peer_of (run.world u) p).memory.acks q
acked_later rules room run goes p q t u stays also up_to =
    let from = also.from_one in
    let to = also.in_game in
    let four = goes.range.at_most_four in
    later_on (λ x. acked_of (peer_of (run.world t) p).memory.acks q ≤ acked_of (peer_of (run.world x) p).memory.acks q)
    (λ x is. let rises = (moved_at rules room run goes p x stays).acks q from (omega (arith, to, four)) in omega (arith, is, rises)) t u up_to
    (omega arith)

-- ---- links

-- the same player in the same epoch, who knows no less
pub record IsSameEnd (l m : LinksValue) : Type 0 where
  pub me : m.me ≡ l.me
  pub players : m.players ≡ l.players
  pub session : m.session ≡ l.session
  pub epoch : m.epoch ≡ l.epoch
  pub rises : (q : ℕ) → (link_to l q).known ≤ (link_to m q).known

same_end : (l m : LinksValue) → m ≡ l → IsSameEnd l m
same_end l m same = subst (IsSameEnd l) (sym same) (record { me = refl; players = refl; session = refl; epoch = refl; rises = λ q. omega arith })

heard_end : (l m : LinksValue) (x : Packet) → refusal l x.head ≡ None → m ≡ heard l x.head → IsSameEnd l m
heard_end l m x none same = subst (IsSameEnd l) (sym same) (record {
  me = refl;
  players = refl;
  session = refl;
  epoch = refl;
  rises = λ q. known_rises l x.head q (player_admitted l x.head none);
})

end_more : (k l m : LinksValue) → IsSameEnd k l → IsSameEnd l m → IsSameEnd k m
end_more k l m one two = record {
  me = two.me ∙ one.me;
  players = two.players ∙ one.players;
  session = two.session ∙ one.session;
  epoch = two.epoch ∙ one.epoch;
  rises = λ q. let a = one.rises q in let b = two.rises q in omega (arith, a, b);
}

moved_end : (rules : Rules) (room : ℕ) (run : Run rules room) → Goes rules room run → (p t : ℕ) → Stays rules room run p
    → IsSameEnd (links_of (run.world t) p) (links_of (run.world (suc t)) p)
moved_end rules room run goes p t stays = ⊎_elim
    (λ same. same_end (links_of (run.world t) p) (links_of (run.world (suc t)) p) same)
    (λ h. heard_end (links_of (run.world t) p) (links_of (run.world (suc t)) p) h.0 h.2 h.3)
    (moved_at rules room run goes p t stays).links

pub end_later : (rules : Rules) (room : ℕ) (run : Run rules room) → Goes rules room run → (p t u : ℕ) → Stays rules room run p → t ≤ u
    → IsSameEnd (links_of (run.world t) p) (links_of (run.world u) p)
end_later rules room run goes p t u stays up_to =
    later_on (λ x. IsSameEnd (links_of (run.world t) p) (links_of (run.world x) p))
    (λ x is. end_more (links_of (run.world t) p) (links_of (run.world x) p) (links_of (run.world (suc x)) p) is
    (moved_end rules room run goes p x stays)) t u up_to (same_end (links_of (run.world t) p) (links_of (run.world t) p) refl)

pub matched_at : (rules : Rules) (room : ℕ) (run : Run rules room) → Goes rules room run → (p q t : ℕ) → Stays rules room run p
    → Stays rules room run q → p ≢ q → AreMatched (links_of (run.world t) p) (links_of (run.world t) q)
matched_at rules room run goes p q t stays also apart =
    reached_matched rules room (run.world t) p q goes.range (reached_at rules room run goes t) stays.plays also.plays apart
    (awake_at rules room run goes p t stays) (awake_at rules room run goes q t also)

-- what p said and what q hears of it later are matched
pub matched_across : (rules : Rules) (room : ℕ) (run : Run rules room) → Goes rules room run → (p q t u : ℕ) → Stays rules room run p
    → Stays rules room run q → p ≢ q → t ≤ u → AreMatched (links_of (run.world t) p) (links_of (run.world u) q)
matched_across rules room run goes p q t u stays also apart up_to =
    let is = matched_at rules room run goes p q u stays also apart in
    let one = end_later rules room run goes p t u stays up_to in
    let my_name = one.me in
    let all = one.players in
    let epoch = one.epoch in
    let low = one.rises (links_of (run.world u) q).me in
    let a = is.one_from in
    let b = is.one_to in
    let c = is.other_to in
    let d = is.at_most_four in
    let e = is.one_epoch in
    let f = is.known_of_other in
    let g = is.known_of_one in
    record {
      session = sym one.session ∙ is.session;
      players = sym all ∙ is.players;
      at_most_four = omega (arith, all, d);
      apart = λ same. is.apart (my_name ∙ same);
      one_from = omega (arith, my_name, a);
      one_to = omega (arith, my_name, all, b);
      other_from = is.other_from;
      other_to = omega (arith, all, c);
      one_epoch = omega (arith, epoch, e);
      other_epoch = is.other_epoch;
      known_of_other = omega (arith, low, f);
      known_of_one = subst (λ (x : ℕ). (link_to (links_of (run.world u) q) x).known ≤ (links_of (run.world t) p).epoch) my_name (omega (
        arith,
        epoch,
        g,
      ));
    }

-- p knows q's present epoch
abbrev pub Knows : World → ℕ → ℕ → Type 0
Knows w p q = (link_to (links_of w p) q).known ≡ (links_of w q).epoch

pub known_within : (rules : Rules) (room : ℕ) (run : Run rules room) → Goes rules room run → (p q t : ℕ) → Stays rules room run p
    → Stays rules room run q → p ≢ q → (link_to (links_of (run.world t) p) q).known ≤ (links_of (run.world t) q).epoch
known_within rules room run goes p q t stays also apart =
    let its_name = (linked_at rules room run goes q t also).me in
    subst (λ (x : ℕ). (link_to (links_of (run.world t) p) x).known ≤ (links_of (run.world t) q).epoch) its_name
    (matched_at rules room run goes p q t stays also apart).known_of_other

pub knows_later : (rules : Rules) (room : ℕ) (run : Run rules room) → Goes rules room run → (p q t u : ℕ) → Stays rules room run p
    → Stays rules room run q → p ≢ q → t ≤ u → Knows (run.world t) p q → Knows (run.world u) p q
knows_later rules room run goes p q t u stays also apart up_to knows =
    let rises = (end_later rules room run goes p t u stays up_to).rises q in
    let epoch = (end_later rules room run goes q t u also up_to).epoch in
    let within = known_within rules room run goes p q u stays also apart in
    omega (arith, rises, epoch, within, knows)

-- p's link to q is open, and names q's present epoch
abbrev pub Fresh : World → ℕ → ℕ → Type 0
Fresh w p q = IsFresh (links_of w p) (links_of w q)

fresh_next : (rules : Rules) (room : ℕ) (run : Run rules room) → Goes rules room run → (p q t : ℕ) → Stays rules room run p → Stays rules room run q
    → Fresh (run.world t) p q → Fresh (run.world (suc t)) p q
fresh_next rules room run goes p q t stays also fresh =
    let l : LinksValue = links_of (run.world t) p in
    let m : LinksValue = links_of (run.world t) q in
    let n : LinksValue = links_of (run.world (suc t)) p in
    let well = linked_at rules room run goes q t also in
    let its_name = well.me in
    let from = also.plays.from_one in
    let to = also.plays.in_game in
    let four = goes.range.at_most_four in
    let other = moved_end rules room run goes q t also in
    let kept : IsFresh n m = ⊎_elim
    (λ same. subst (λ (x : LinksValue). IsFresh x m) (sym same) fresh)
    (λ h. subst (λ (x : LinksValue). IsFresh x m) (sym h.3)
    (fresh_stays l m h.0.head fresh (omega (arith, its_name, from)) (omega (arith, its_name, to, four)) h.2
    (λ sender. well.own h.0 h.1 (sender ∙ its_name))))
    (moved_at rules room run goes p t stays).links in
    record {
      known = ap (λ (x : ℕ). (link_to n x).known) other.me ∙ kept.known ∙ sym other.epoch;
      is_open = ap (λ (x : ℕ). (link_to n x).is_open) other.me ∙ kept.is_open;
    }

pub fresh_later : (rules : Rules) (room : ℕ) (run : Run rules room) → Goes rules room run → (p q t u : ℕ) → Stays rules room run p
    → Stays rules room run q → t ≤ u → Fresh (run.world t) p q → Fresh (run.world u) p q
fresh_later rules room run goes p q t u stays also up_to fresh =
    later_on (λ x. Fresh (run.world x) p q) (λ x is. fresh_next rules room run goes p q x stays also is) t u up_to fresh

-- ---- all of it

confirmed_later : (rules : Rules) (room : ℕ) (run : Run rules room) → Goes rules room run → (p t u : ℕ) → Stays rules room run p → t ≤ u
    → confirmed (known_by rules (run.world t) p) ≤ confirmed (known_by rules (run.world u) p)
confirmed_later rules room run goes p t u stays up_to =
    let early : List Record = journal_of (run.world t) p in
    let begins = journal_later rules room run goes p t u stays up_to in
    let journal : IsJournal rules p room (early ++ begins.rest) =
    subst (IsJournal rules p room) begins.is ((goes.laws (run.world u) (reached_at rules room run goes u)).journals p stays.plays) in
    let still = journal_grows rules p room early begins.rest goes.range stays.plays.from_one stays.plays.in_game journal in
    subst (λ (j : List Record). confirmed (known_of rules p early) ≤ confirmed (known_of rules p j)) (sym begins.is)
    (confirmed_rises (known_of rules p early) (known_of rules p (early ++ begins.rest)) still)

pub calm_keeps : (rules : Rules) (room : ℕ) (run : Run rules room) → Goes rules room run → (p q t u : ℕ) → Stays rules room run p
    → Stays rules room run q → t ≤ u → IsKept rules (run.world t) (run.world u) p q
calm_keeps rules room run goes p q t u stays also up_to =
    let begins = journal_later rules room run goes p t u stays up_to in
    record {
      confirms = confirmed_later rules room run goes p t u stays up_to;
      holds = λ player. count_later rules room run goes player p t u stays up_to;
      frozen = λ leaver is. subst (λ (j : List Record). has_freeze leaver j ≡ true) (sym begins.is)
          (freeze_stays leaver (journal_of (run.world t) p) begins.rest is);
      cuts = λ leaver K is. cut_begins leaver K (journal_of (run.world t) p) (journal_of (run.world u) p) begins is;
      linked = λ fresh. fresh_later rules room run goes p q t u stays also up_to fresh;
    }

-- nobody is dropped while two get on
got_on_drops : (rules : Rules) (room : ℕ) (w : World) (p q : ℕ) → AreInRange rules → Laws rules room → IsReached rules room w → IsPlayer rules p
    → IsPlayer rules q → p ≢ q → (peer_of w p).mode ≡ states.Open → (peer_of w q).mode ≡ states.Open → IsUndropped w p → IsUndropped w q
    → (r : ℕ) → IsUndropped w r → IsUndropped (got_on rules room w p q) r
got_on_drops rules room w p q range laws reached plays also apart up also_up stays also_stays r undropped =
    let v : World = got_on rules room w p q in
    let clean = stays_clean rules room w p q range laws reached stays also in
    let are = undropped_pair rules room w p q range laws reached plays also apart up also_up stays also_stays in
    let is = (pair_gets_on rules room w p q range reached laws are (record { unfrozen = clean.unfrozen; unleft = clean.stays })).entered in
    let one = player_one rules range in
    elim (cases_eq 1 q) [
      | inl at ↦
          let longer : IsLonger (journal_of w 1) (journal_of v 1) = subst (λ (x : ℕ). IsLonger (journal_of w x) (journal_of v x)) (sym at) is.here in
          grown_leaves r (journal_of w 1) (journal_of v 1) (grown_longer (journal_of w 1) (journal_of v 1) longer) ∙ undropped
      | inr other ↦ ap (has_leave r) (is.there 1 one other) ∙ undropped
    ]

-- Two players who got on once get on in every calm run after it.
pub get_on_for_good : (rules : Rules) (room : ℕ) (w : World) (run : Run rules room) (p q t : ℕ) → AreInRange rules → Laws rules room
    → IsReached rules room w → IsPlayer rules p → IsPlayer rules q → p ≢ q → (peer_of w p).mode ≡ states.Open
    → (peer_of w q).mode ≡ states.Open → IsUndropped w p → IsUndropped w q → IsCalm rules room run → run.world 0 ≡ got_on rules room w p q
    → LinksAreOpen (run.world t) p q
get_on_for_good rules room w run p q t range laws reached plays also apart up also_up stays also_stays calm from =
    let v : World = got_on rules room w p q in
    let is = players_get_on rules room w p q range laws reached plays also apart up also_up stays also_stays in
    let goes : Goes rules room run = record {
      range = range;
      laws = laws;
      reached = subst (IsReached rules room) (sym from) (reached_leads rules room w v reached (got_on_leads rules room w p q));
      calm = calm;
    } in
    let kept = (got_on_drops rules room w p q range laws reached plays also apart up also_up stays also_stays) in
    let one : Stays rules room run p = record { plays = plays; undropped = subst (λ (x : World). IsUndropped x p) (sym from) (kept p stays) } in
    let other : Stays rules room run q = record { plays = also; undropped = subst (λ (x : World). IsUndropped x q) (sym from) (kept q also_stays) } in
    record {
      one = fresh_later rules room run goes p q 0 t one other (omega arith) (subst (λ (x : World). Fresh x p q) (sym from) is.one);
      other = fresh_later rules room run goes q p 0 t other one (omega arith) (subst (λ (x : World). Fresh x q p) (sym from) is.other);
    }
