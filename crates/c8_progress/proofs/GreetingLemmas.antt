-- How two players of a reached world open their links: HELLO, WELCOME back, WELCOME; for ExchangeLemmas and CuttingLemmas.
use Rattle.std.proofs.Common.{◌≡◌, ◌≢◌, ℕ, ◌-◌, ◌≤◌, inl, inr, false, Ok, refl, sym, ap, subst, ◌∙◌, arith}
use Rattle.std.specs.Prelude.{◌==◌, not, max}
use Rattle.std.proofs.lemmas.Bool.{cases_eq, ne_eqb}
use Rattle.c8_game.specs.Rules.{Rules, AreInRange}
use Rattle.c8_wire.specs.Packet.{Packet}
use Rattle.c8_hand.specs.Links.{LinksValue, link_to}
use Rattle.c8_known.specs.Journal.{held, count, has_leave}
use Rattle.c8_known.specs.Known.{known_of}
use Rattle.c8_known.specs.checked.BeginsLaws.{begins_length}
use Rattle.c8_window.specs.Window.{WindowValue, acked_of, acked_more}
use Rattle.c8_peer.specs.Told.{told_of}
use Rattle.c8_peer.specs.State as states
use Rattle.c8_peer.specs.State.{Memory, Away, State, Hello, Welcome, Deliver}
use Rattle.c8_peer.specs.Steps.{Works, step}
use Rattle.c8_peer.specs.Saying.{packet}
use Rattle.c8_world.specs.World.{World, peer_of, journal_of, after, IsReached}
use Rattle.c8_world.specs.Agreement.{IsPlayer, IsUndropped}
use Rattle.c8_progress.specs.Meeting.{IsFresh, hailed, welcomed}
use Rattle.c8_progress.proofs.TellingLemmas.{acked_here}
use Rattle.c8_progress.specs.Exchange.{links_of, exchanged, greeted}
use Rattle.c8_progress.proofs.LawLemmas.{HasLaws}
use Rattle.c8_progress.proofs.MeetingLemmas.{fresh_for, same_epoch, same_known, hailed_known, welcomed_fresh}
use Rattle.c8_progress.proofs.ReachedLemmas.{reached_well, reached_matched}
use Rattle.c8_progress.proofs.ReportLemmas.{SameRound}
use Rattle.c8_progress.proofs.SayingLemmas.{IsExchanged, exchange_reached, exchange_is, say_ok, hello_heard, welcome_heard}

-- Two open players whom player 1 has not dropped, and who do not think that they are out.
pub record ArePair (rules : Rules) (w : World) (p q : ℕ) : Type 0 where
  pub plays : IsPlayer rules p
  pub also : IsPlayer rules q
  pub apart : p ≢ q
  pub up : (peer_of w p).mode ≡ states.Open
  pub also_up : (peer_of w q).mode ≡ states.Open
  pub stays : has_leave p (journal_of w p) ≡ false
  pub also_stays : has_leave q (journal_of w q) ≡ false
  pub undropped : IsUndropped w p
  pub also_undropped : IsUndropped w q

-- ---- two players

pub pair_back : (rules : Rules) (w : World) (p q : ℕ) → ArePair rules w p q → ArePair rules w q p
pair_back rules w p q are = record {
  plays = are.also;
  also = are.plays;
  apart = λ e. are.apart (sym e);
  up = are.also_up;
  also_up = are.up;
  stays = are.also_stays;
  also_stays = are.stays;
  undropped = are.also_undropped;
  also_undropped = are.undropped;
}

-- all journals and modes are the same
pub record AreKept (rules : Rules) (w v : World) : Type 0 where
  pub journals : (r : ℕ) → IsPlayer rules r → journal_of v r ≡ journal_of w r
  pub modes : (r : ℕ) → IsPlayer rules r → (peer_of v r).mode ≡ (peer_of w r).mode

pub player_one : (rules : Rules) → AreInRange rules → IsPlayer rules 1
player_one rules range = let two = range.at_least_two in record { from_one = omega arith; in_game = omega (arith, two) }

pub pair_later : (rules : Rules) (w v : World) (p q : ℕ) → AreInRange rules → AreKept rules w v → ArePair rules w p q → ArePair rules v p q
pair_later rules w v p q range kept are =
    let one = kept.journals 1 (player_one rules range) in
    record {
      plays = are.plays;
      also = are.also;
      apart = are.apart;
      up = kept.modes p are.plays ∙ are.up;
      also_up = kept.modes q are.also ∙ are.also_up;
      stays = ap (has_leave p) (kept.journals p are.plays) ∙ are.stays;
      also_stays = ap (has_leave q) (kept.journals q are.also) ∙ are.also_stays;
      undropped = ap (has_leave p) one ∙ are.undropped;
      also_undropped = ap (has_leave q) one ∙ are.also_undropped;
    }

pub awake_of : (rules : Rules) (w : World) (p q : ℕ) → ArePair rules w p q → (peer_of w p).mode ≢ Away
awake_of rules w p q are gone = let up = are.up in cc (up, gone)

-- what a HELLO or a WELCOME of p leaves at q
record IsLeft (rules : Rules) (w v : World) (p q : ℕ) (l : LinksValue) (acks : WindowValue) : Type 0 where
  kept : AreKept rules w v
  same : peer_of v p ≡ peer_of w p
  links : links_of v q ≡ l
  acks_are : (peer_of v q).memory.acks ≡ acks
  rounds_are : (r : ℕ) → IsPlayer rules r → SameRound (peer_of w r).memory (peer_of v r).memory

left_by : (rules : Rules) (w v : World) (p q : ℕ) (told : Packet) (l : LinksValue) (acks : WindowValue) → ArePair rules w p q
    → IsExchanged rules w v q told
    → (step rules q (peer_of w q) (Deliver (Ok told)) Works).state ≡ record
    (peer_of w q) { memory = record (peer_of w q).memory { links = l; acks = acks } } → IsLeft rules w v p q l acks
left_by rules w v p q told l acks are is to =
    let here : peer_of v q ≡ record (peer_of w q) { memory = record (peer_of w q).memory { links = l; acks = acks } } = is.here ∙ to in
    record {
      kept = record {
        journals = λ r plays. elim (cases_eq r q) [
          | inl at ↦ ap (journal_of v) at ∙ ap (λ (s : State). s.journal) here ∙ ap (journal_of w) (sym at)
          | inr other ↦ ap (λ (s : State). s.journal) (is.there r plays other)
        ];
        modes = λ r plays. elim (cases_eq r q) [
          | inl at ↦ ap (λ (x : ℕ). (peer_of v x).mode) at ∙ ap (λ (s : State). s.mode) here ∙ ap (λ (x : ℕ). (peer_of w x).mode) (sym at)
          | inr other ↦ ap (λ (s : State). s.mode) (is.there r plays other)
        ];
      };
      same = is.there p are.plays are.apart;
      links = ap (λ (s : State). s.memory.links) here;
      acks_are = ap (λ (s : State). s.memory.acks) here;
      rounds_are = λ r plays. elim (cases_eq r q) [
        | inl at ↦ subst (λ (x : ℕ). SameRound (peer_of w x).memory (peer_of v x).memory) (sym at)
            (ap (λ (s : State). s.memory.chair) here, ap (λ (s : State). s.memory.stayer) here)
        | inr other ↦ (ap (λ (s : State). s.memory.chair) (is.there r plays other), ap (λ (s : State). s.memory.stayer) (is.there r plays other))
      ];
    }

hello_left : (rules : Rules) (room : ℕ) (w : World) (p q : ℕ) → AreInRange rules → IsReached rules room w → ArePair rules w p q
    → IsLeft rules w (exchanged rules room w p q Hello) p q (hailed (links_of w p) (links_of w q)) (peer_of w q).memory.acks
hello_left rules room w p q range reached are =
    let well = reached_well rules room w range reached in
    let p_up = awake_of rules w p q are in
    let q_up = awake_of rules w q p (pair_back rules w p q are) in
    let s : State = peer_of w p in
    let told : Packet = packet rules (told_of rules p s.journal) (known_of rules p s.journal) s.memory q Hello in
    let says = say_ok rules p s q Hello are.plays are.also are.apart are.up are.stays refl refl refl in
    let is = exchange_is rules room w p q Hello told well.nodes are.plays are.also are.apart are.up are.also_up says in
    let matched = reached_matched rules room w p q range reached are.plays are.also are.apart p_up q_up in
    left_by rules w (exchanged rules room w p q Hello) p q told (hailed (links_of w p) (links_of w q)) (peer_of w q).memory.acks are is
    (hello_heard rules q s (peer_of w q) (told_of rules p s.journal) (known_of rules p s.journal) are.also are.also_up are.also_stays
    (well.linked p are.plays p_up).version (well.linked q are.also q_up).me matched)

welcome_left : (rules : Rules) (room : ℕ) (w : World) (p q : ℕ) → AreInRange rules → IsReached rules room w → HasLaws rules room w
    → ArePair rules w p q → (link_to (links_of w p) q).known ≡ (links_of w q).epoch
    → IsLeft rules w (exchanged rules room w p q Welcome) p q (welcomed (links_of w q) (links_of w p))
    (acked_more (peer_of w q).memory.acks p (count rules q (journal_of w p)))
welcome_left rules room w p q range reached laws are known =
    let well = reached_well rules room w range reached in
    let p_up = awake_of rules w p q are in
    let q_up = awake_of rules w q p (pair_back rules w p q are) in
    let s : State = peer_of w p in
    let told : Packet = packet rules (told_of rules p s.journal) (known_of rules p s.journal) s.memory q Welcome in
    let some = (well.linked q are.also q_up).from_one in
    let linked : ((link_to (links_of w p) q).known == 0) ≡ false = ne_eqb (link_to (links_of w p) q).known 0 (λ e. omega (arith, e, known, some)) in
    let says = say_ok rules p s q Welcome are.plays are.also are.apart are.up are.stays refl refl linked in
    let is = exchange_is rules room w p q Welcome told well.nodes are.plays are.also are.apart are.up are.also_up says in
    let matched = reached_matched rules room w p q range reached are.plays are.also are.apart p_up q_up in
    left_by rules w (exchanged rules room w p q Welcome) p q told (welcomed (links_of w q) (links_of w p))
    (acked_more (peer_of w q).memory.acks p (count rules q (journal_of w p))) are is
    (welcome_heard rules p q s (peer_of w q) (told_of rules p s.journal) are.also are.also_up are.also_stays (well.linked p are.plays p_up).version
    (well.linked p are.plays p_up).me (well.linked q are.also q_up).me matched known
    (begins_length (held rules q (journal_of w p)) (held rules q (journal_of w q)) (laws.begins q p are.also are.plays)))

pub record AreGreeted (rules : Rules) (w v : World) (p q : ℕ) : Type 0 where
  pub kept : AreKept rules w v
  pub one : IsFresh (links_of v p) (links_of v q)
  pub other : IsFresh (links_of v q) (links_of v p)
  pub acked : count rules p (journal_of w q) ≤ acked_of (peer_of v p).memory.acks q
  pub rounds_are : (r : ℕ) → IsPlayer rules r → SameRound (peer_of w r).memory (peer_of v r).memory

same_round : (a b c : Memory) → SameRound a b → SameRound b c → SameRound a c
same_round a b c one two = (two.0 ∙ one.0, two.1 ∙ one.1)

-- Whatever happened before: after a HELLO of p, the WELCOME back and a WELCOME, both links are open with the present epochs.
pub pair_greets : (rules : Rules) (room : ℕ) (w : World) (p q : ℕ) → AreInRange rules → IsReached rules room w
    → ((x : World) → IsReached rules room x → HasLaws rules room x) → ArePair rules w p q → AreGreeted rules w (greeted rules room w p q) p q
pair_greets rules room w p q range reached laws are =
    let w1 : World = exchanged rules room w p q Hello in
    let r1 = exchange_reached rules room w p q Hello reached in
    let left1 = hello_left rules room w p q range reached are in
    let are1 = pair_later rules w w1 p q range left1.kept are in
    let well = reached_well rules room w range reached in
    let matched =
    reached_matched rules room w p q range reached are.plays are.also are.apart (awake_of rules w p q are)
    (awake_of rules w q p (pair_back rules w p q are)) in
    let my_name = (well.linked p are.plays (awake_of rules w p q are)).me in
    let known1 : (link_to (links_of w1 q) p).known ≡ (links_of w1 p).epoch =
    ap (λ (l : LinksValue). (link_to l p).known) left1.links ∙ ap (λ (x : ℕ). (link_to (hailed (links_of w p) (links_of w q)) x).known) (sym my_name)
    ∙ hailed_known (links_of w p) (links_of w q) matched ∙ ap (λ (s : State). s.memory.links.epoch) (sym left1.same) in
    let w2 : World = exchanged rules room w1 q p Welcome in
    let r2 = exchange_reached rules room w1 q p Welcome r1 in
    let back1 = pair_back rules w1 p q are1 in
    let left2 = welcome_left rules room w1 q p range r1 (laws w1 r1) back1 known1 in
    let are2 = pair_later rules w1 w2 p q range left2.kept are1 in
    let well1 = reached_well rules room w1 range r1 in
    let my_name1 = (well1.linked p are.plays (awake_of rules w1 p q are1)).me in
    let its_name1 = (well1.linked q are.also (awake_of rules w1 q p back1)).me in
    let matched1 =
    reached_matched rules room w1 p q range r1 are.plays are.also are.apart (awake_of rules w1 p q are1) (awake_of rules w1 q p back1) in
    let known1_me : (link_to (links_of w1 q) (links_of w1 p).me).known ≡ (links_of w1 p).epoch =
    ap (λ (x : ℕ). (link_to (links_of w1 q) x).known) my_name1 ∙ known1 in
    let fresh2 : IsFresh (links_of w2 p) (links_of w2 q) =
    subst (λ (l : LinksValue). IsFresh l (links_of w2 q)) (sym left2.links)
    (subst (λ (s : State). IsFresh (welcomed (links_of w1 p) (links_of w1 q)) s.memory.links) (sym left2.same)
    (welcomed_fresh (links_of w1 p) (links_of w1 q) matched1 known1_me)) in
    let well2 = reached_well rules room w2 range r2 in
    let back2 = pair_back rules w2 p q are2 in
    let my_name2 = (well2.linked p are.plays (awake_of rules w2 p q are2)).me in
    let its_name2 = (well2.linked q are.also (awake_of rules w2 q p back2)).me in
    let known2 : (link_to (links_of w2 p) q).known ≡ (links_of w2 q).epoch =
    ap (λ (x : ℕ). (link_to (links_of w2 p) x).known) (sym its_name2) ∙ fresh2.known in
    let w3 : World = exchanged rules room w2 p q Welcome in
    let r3 = exchange_reached rules room w2 p q Welcome r2 in
    let left3 = welcome_left rules room w2 p q range r2 (laws w2 r2) are2 known2 in
    let are3 = pair_later rules w2 w3 p q range left3.kept are2 in
    let matched2_back =
    reached_matched rules room w2 q p range r2 are.also are.plays (λ e. are.apart (sym e)) (awake_of rules w2 q p back2)
    (awake_of rules w2 p q are2) in
    let fresh3_back : IsFresh (links_of w3 q) (links_of w3 p) =
    subst (λ (l : LinksValue). IsFresh l (links_of w3 p)) (sym left3.links)
    (subst (λ (s : State). IsFresh (welcomed (links_of w2 q) (links_of w2 p)) s.memory.links) (sym left3.same)
    (welcomed_fresh (links_of w2 q) (links_of w2 p) matched2_back fresh2.known)) in
    let fresh3 : IsFresh (links_of w3 p) (links_of w3 q) =
    subst (λ (s : State). IsFresh s.memory.links (links_of w3 q)) (sym left3.same)
    (subst (λ (l : LinksValue). IsFresh (links_of w2 p) l) (sym left3.links)
    (fresh_for (links_of w2 p) (links_of w2 q) (welcomed (links_of w2 q) (links_of w2 p))
    (same_known (links_of w2 q) (links_of w2 p) matched2_back fresh2.known)
    (same_epoch (links_of w2 q) (links_of w2 p) matched2_back fresh2.known) fresh2)) in
    let four = range.at_most_four in
    let a = are.also.from_one in
    let b = are.also.in_game in
    let held_before : count rules p (journal_of w1 q) ≡ count rules p (journal_of w q) = ap (count rules p) (left1.kept.journals q are.also) in
    let acks3 : acked_of (peer_of w3 p).memory.acks q ≡ max (acked_of (peer_of w1 p).memory.acks q) (count rules p (journal_of w1 q)) =
    ap (λ (s : State). acked_of s.memory.acks q) left3.same ∙ ap (λ (x : WindowValue). acked_of x q) left2.acks_are
    ∙ acked_here (peer_of w1 p).memory.acks q (count rules p (journal_of w1 q)) a (omega (arith, b, four)) in
    record {
      kept = record {
        journals = λ r plays. left3.kept.journals r plays ∙ left2.kept.journals r plays ∙ left1.kept.journals r plays;
        modes = λ r plays. left3.kept.modes r plays ∙ left2.kept.modes r plays ∙ left1.kept.modes r plays;
      };
      one = fresh3;
      other = fresh3_back;
      acked = omega (arith, acks3, held_before);
      rounds_are = λ r plays. same_round (peer_of w r).memory (peer_of w1 r).memory (peer_of w3 r).memory (left1.rounds_are r plays)
          (same_round (peer_of w1 r).memory (peer_of w2 r).memory (peer_of w3 r).memory (left2.rounds_are r plays) (left3.rounds_are r plays));
    }

pub greeted_reached : (rules : Rules) (room : ℕ) (w : World) (p q : ℕ) → IsReached rules room w → IsReached rules room (greeted rules room w p q)
greeted_reached rules room w p q reached =
    exchange_reached rules room _ p q Welcome (exchange_reached rules room _ q p Welcome (exchange_reached rules room w p q Hello reached))
