-- After four fair rounds the links of any two undropped players are open for good; for RoundLemmas and the laws of rounds.
use Rattle.std.proofs.Common.{◌≡◌, ◌≢◌, ℕ, zero, suc, ◌+◌, ◌≤◌, ◌<◌, ◌⊎◌, inl, inr, ⊎_elim, true, false, sym, ap, subst, ◌∙◌, arith}
use Rattle.std.proofs.lemmas.Bool.{cases_Bool, cases_lt}
use Rattle.c8_game.specs.Rules.{Rules}
use Rattle.c8_hand.specs.Links.{link_to}
use Rattle.c8_peer.specs.State.{Saying, Hello}
use Rattle.c8_world.specs.World.{peer_of}
use Rattle.c8_world.specs.Agreement.{Names}
use Rattle.c8_progress.specs.Exchange.{links_of}
use Rattle.c8_progress.specs.Rounds.{Run, IsHailed, IsDue, Arrives, IsTurn, spoke, FairRounds, LinksAreOpen}
use Rattle.c8_progress.proofs.CalmLemmas.{Goes, Stays, reached_at, well_at, undropped_at, awake_at, linked_at, among_later, end_later, Knows}
use Rattle.c8_progress.proofs.CalmLemmas.{known_within, knows_later, Fresh, fresh_later}
use Rattle.c8_progress.proofs.ArrivingLemmas.{IsGreeted, hello_arrives, welcome_arrives}

-- ---- rounds

pub turn_of : (rules : Rules) (room : ℕ) (run : Run rules room) (n i p : ℕ) (r : FairRounds rules room run n) → i < n → Stays rules room run p
    → IsTurn rules room run p (spoke r.speak i p) (r.begin i) (r.speak i p) (r.begin (suc i))
turn_of rules room run n i p r less stays = r.turns i p less stays.plays stays.undropped

-- a round begins after the last one
pub begins_next : (rules : Rules) (room : ℕ) (run : Run rules room) (n i p : ℕ) (r : FairRounds rules room run n) → i < n → Stays rules room run p
    → r.begin i ≤ r.begin (suc i)
begins_next rules room run n i p r less stays =
    let turn = turn_of rules room run n i p r less stays in
    let from = turn.from in
    let to = turn.to in
    omega (arith, from, to)

spoke_before : (rules : Rules) (room : ℕ) (run : Run rules room) (n i p : ℕ) (r : FairRounds rules room run n) → i < n → Stays rules room run p
    → spoke r.speak i p ≤ r.begin i
spoke_before rules room run n zero p r less stays = omega arith
spoke_before rules room run n (suc i) p r less stays = (turn_of rules room run n i p r (omega (arith, less)) stays).to

-- what is due in a turn arrives
pub due_arrives : (rules : Rules) (room : ℕ) (run : Run rules room) → Goes rules room run → (n i p q : ℕ) (r : FairRounds rules room run n)
    (what : Saying) → i < n → Stays rules room run p → Stays rules room run q → p ≢ q
    → IsDue p (peer_of (run.world (r.speak i p)) p) q what
    → Arrives rules room run p q what (r.speak i p) (r.begin (suc i))
due_arrives rules room run goes n i p q r what less one other apart due =
    (turn_of rules room run n i p r less one).says q what other.plays (λ e. apart (sym e)) (undropped_at rules room run goes q (r.speak i p) other)
    due

-- ---- what two players know

epoch_at : (rules : Rules) (room : ℕ) (run : Run rules room) → Goes rules room run → (p t u : ℕ) → Stays rules room run p
    → (links_of (run.world t) p).epoch ≡ (links_of (run.world u) p).epoch
epoch_at rules room run goes p t u stays =
    (end_later rules room run goes p 0 t stays (omega arith)).epoch ∙ sym (end_later rules room run goes p 0 u stays (omega arith)).epoch

named_at : (rules : Rules) (room : ℕ) (run : Run rules room) → Goes rules room run → (p q t : ℕ) → Stays rules room run p
    → (link_to (links_of (run.world t) p) q).is_open ≡ true
    → Names (run.world t).said q p (link_to (links_of (run.world t) p) q).known (links_of (run.world t) p).epoch
named_at rules room run goes p q t stays is_open =
    ((goes.laws (run.world t) (reached_at rules room run goes t)).linked p q stays.plays (awake_at rules room run goes p t stays) is_open).named

-- who has an open link knows the other's present epoch, or the other does
one_knows : (rules : Rules) (room : ℕ) (run : Run rules room) → Goes rules room run → (p q t u : ℕ) → Stays rules room run p
    → Stays rules room run q → p ≢ q → (link_to (links_of (run.world t) p) q).is_open ≡ true
    → (link_to (links_of (run.world u) q) p).is_open ≡ true → Knows (run.world t) p q ⊎ Knows (run.world u) q p
one_knows rules room run goes p q t u one other apart p_open q_open =
    let p_within = known_within rules room run goes p q t one other apart in
    let q_within = known_within rules room run goes q p u other one (λ e. apart (sym e)) in
    elim (cases_lt (link_to (links_of (run.world t) p) q).known (links_of (run.world t) q).epoch) [
      | inr now ↦ inl (omega (arith, now, p_within))
      | inl past ↦ elim (cases_lt (link_to (links_of (run.world u) q) p).known (links_of (run.world u) p).epoch) [
        | inr now ↦ inr (omega (arith, now, q_within))
        | inl also_past ↦
            let x = named_at rules room run goes p q t one p_open in
            let y = named_at rules room run goes q p u other q_open in
            let x_from = x.from in
            let x_to = x.to in
            let y_from = y.from in
            let y_to = y.to in
            let x_sender = x.sender_epoch in
            let x_addressee = x.addressee_epoch in
            let y_sender = y.sender_epoch in
            let y_addressee = y.addressee_epoch in
            let p_epoch = epoch_at rules room run goes p t u one in
            let q_epoch = epoch_at rules room run goes q t u other in
            absurd
            ((well_at rules room run goes (t + u)).crossed x.packet y.packet
            (among_later rules room run t (t + u) x.packet (omega arith) x.among)
            (among_later rules room run u (t + u) y.packet (omega arith) y.among) (x_from ∙ sym y_to)
            (x_to ∙ sym y_from) (omega (arith, x_sender, y_addressee, past, q_epoch)) (omega (arith, y_sender, x_addressee, also_past, p_epoch)))
      ]
    ]

-- whose open link names the present epoch is known by the other, which has named its epoch
other_knows : (rules : Rules) (room : ℕ) (run : Run rules room) → Goes rules room run → (p q t : ℕ) → Stays rules room run p
    → Stays rules room run q → p ≢ q → Knows (run.world t) q p → (link_to (links_of (run.world t) q) p).is_open ≡ true → Knows (run.world t) p q
other_knows rules room run goes p q t one other apart knows q_open =
    let y = named_at rules room run goes q p t other q_open in
    let y_to = y.to in
    let y_addressee = y.addressee_epoch in
    let recalled : y.packet.head.addressee_epoch ≤ (link_to (links_of (run.world t) p) q).known =
    subst (λ (i : ℕ). y.packet.head.addressee_epoch ≤ (link_to (links_of (run.world t) p) i).known) y_to
    ((linked_at rules room run goes p t one).recalls y.packet y.among y.from (y.sender_epoch ∙ knows)) in
    let within = known_within rules room run goes p q t one other apart in
    omega (arith, recalled, y_addressee, within)

fresh_by : (rules : Rules) (room : ℕ) (run : Run rules room) → Goes rules room run → (p q t : ℕ) → Stays rules room run q
    → Knows (run.world t) p q → (link_to (links_of (run.world t) p) q).is_open ≡ true → Fresh (run.world t) p q
fresh_by rules room run goes p q t other knows is_open =
    let its_name = (linked_at rules room run goes q t other).me in
    record {
      known = ap (λ (x : ℕ). (link_to (links_of (run.world t) p) x).known) its_name ∙ knows;
      is_open = ap (λ (x : ℕ). (link_to (links_of (run.world t) p) x).is_open) its_name ∙ is_open;
    }

-- ---- round by round

-- a player whose link is not open when it speaks greets the other
greets_in : (rules : Rules) (room : ℕ) (run : Run rules room) → Goes rules room run → (n i p q : ℕ) (r : FairRounds rules room run n) → i < n
    → Stays rules room run p → Stays rules room run q → p ≢ q → (link_to (links_of (run.world (r.speak i p)) p) q).is_open ≡ false
    → IsGreeted rules room run p q (r.speak i p) (r.begin (suc i))
greets_in rules room run goes n i p q r less one other apart closed =
    hello_arrives rules room run goes p q (r.speak i p) (r.begin (suc i)) one other apart
    (due_arrives rules room run goes n i p q r Hello less one other apart closed)

-- after one round one of two knows the other's epoch
first_round : (rules : Rules) (room : ℕ) (run : Run rules room) → Goes rules room run → (n p q : ℕ) (r : FairRounds rules room run n) → 0 < n
    → Stays rules room run p → Stays rules room run q → p ≢ q → Knows (run.world (r.begin 1)) p q ⊎ Knows (run.world (r.begin 1)) q p
first_round rules room run goes n p q r less one other apart =
    let back : q ≢ p = λ e. apart (sym e) in
    let p_ends = (turn_of rules room run n 0 p r less one).to in
    let q_ends = (turn_of rules room run n 0 q r less other).to in
    elim (cases_Bool (link_to (links_of (run.world (r.speak 0 p)) p) q).is_open) [
      | inr closed ↦ inr (greets_in rules room run goes n 0 p q r less one other apart closed).knows
      | inl p_open ↦ elim (cases_Bool (link_to (links_of (run.world (r.speak 0 q)) q) p).is_open) [
        | inr closed ↦ inl (greets_in rules room run goes n 0 q p r less other one back closed).knows
        | inl q_open ↦ ⊎_elim
            (λ knows. inl (knows_later rules room run goes p q (r.speak 0 p) (r.begin 1) one other apart p_ends knows))
            (λ knows. inr (knows_later rules room run goes q p (r.speak 0 q) (r.begin 1) other one back q_ends knows))
            (one_knows rules room run goes p q (r.speak 0 p) (r.speak 0 q) one other apart p_open q_open)
      ]
    ]

-- whom the other knows then knows the other a round later
next_round : (rules : Rules) (room : ℕ) (run : Run rules room) → Goes rules room run → (n i p q : ℕ) (r : FairRounds rules room run n) → i < n
    → Stays rules room run p → Stays rules room run q → p ≢ q → Knows (run.world (r.begin i)) q p → Knows (run.world (r.begin (suc i))) p q
next_round rules room run goes n i p q r less one other apart knows =
    let back : q ≢ p = λ e. apart (sym e) in
    let turn = turn_of rules room run n i q r less other in
    let now = knows_later rules room run goes q p (r.begin i) (r.speak i q) other one back turn.from knows in
    elim (cases_Bool (link_to (links_of (run.world (r.speak i q)) q) p).is_open) [
      | inr closed ↦ (greets_in rules room run goes n i q p r less other one back closed).knows
      | inl q_open ↦ knows_later rules room run goes p q (r.speak i q) (r.begin (suc i)) one other apart turn.to
          (other_knows rules room run goes p q (r.speak i q) one other apart now q_open)
    ]

both_know : (rules : Rules) (room : ℕ) (run : Run rules room) → Goes rules room run → (n p q : ℕ) (r : FairRounds rules room run n) → 1 < n
    → Stays rules room run p → Stays rules room run q → p ≢ q → Knows (run.world (r.begin 2)) p q × Knows (run.world (r.begin 2)) q p
both_know rules room run goes n p q r less one other apart =
    let back : q ≢ p = λ e. apart (sym e) in
    let later = begins_next rules room run n 1 p r less one in
    ⊎_elim
    (λ knows. (
      knows_later rules room run goes p q (r.begin 1) (r.begin 2) one other apart later knows,
      next_round rules room run goes n 1 q p r less other one back knows,
    ))
    (λ knows. (
      next_round rules room run goes n 1 p q r less one other apart knows,
      knows_later rules room run goes q p (r.begin 1) (r.begin 2) other one back later knows,
    ))
    (first_round rules room run goes n p q r (omega (arith, less)) one other apart)

-- a greeting that came before a turn is answered by the end of its round, or it need not be
welcomes_in : (rules : Rules) (room : ℕ) (run : Run rules room) → Goes rules room run → (n i p q t u : ℕ) (r : FairRounds rules room run n) → i < n
    → Stays rules room run p → Stays rules room run q → p ≢ q → (g : IsGreeted rules room run p q t u) → Knows (run.world g.at) p q
    → Knows (run.world g.at) q p → spoke r.speak i q ≤ g.at → g.at < r.speak i q → Fresh (run.world (r.begin (suc i))) p q
welcomes_in rules room run goes n i p q t u r less one other apart g knows its from before =
    let back : q ≢ p = λ e. apart (sym e) in
    let turn = turn_of rules room run n i q r less other in
    let to = turn.to in
    let hailed : IsHailed rules room run q p (spoke r.speak i q) (r.speak i q) = record {
      at = g.at;
      after = from;
      before = before;
      number = g.number;
      packet = g.packet;
      gives = g.gives;
      told = g.told;
      hello = g.hello;
      sender = g.sender;
      admitted = g.admitted;
    } in
    ⊎_elim
    (λ welcomes. welcome_arrives rules room run goes q p g.at (r.begin (suc i)) other one back its welcomes)
    (λ is_open. fresh_by rules room run goes p q (r.begin (suc i)) other
    (knows_later rules room run goes p q g.at (r.begin (suc i)) one other apart (omega (arith, before, to)) knows) is_open)
    (turn.answers p one.plays apart hailed (undropped_at rules room run goes p g.at one))

-- two more rounds after both know the other's epoch
opens : (rules : Rules) (room : ℕ) (run : Run rules room) → Goes rules room run → (n p q : ℕ) (r : FairRounds rules room run n) → 3 < n
    → Stays rules room run p → Stays rules room run q → p ≢ q → Knows (run.world (r.begin 2)) p q → Knows (run.world (r.begin 2)) q p
    → Fresh (run.world (r.begin 4)) p q
opens rules room run goes n p q r less one other apart knows its =
    let p_turn = turn_of rules room run n 2 p r (omega (arith, less)) one in
    let p_from = p_turn.from in
    let p_to : r.speak 2 p ≤ r.begin 3 = p_turn.to in
    let q_from = (turn_of rules room run n 3 q r less other).from in
    let q_before : r.speak 1 q ≤ r.begin 2 = spoke_before rules room run n 2 q r (omega (arith, less)) other in
    let three : r.begin 3 ≤ r.begin 4 = begins_next rules room run n 3 p r less one in
    elim (cases_Bool (link_to (links_of (run.world (r.speak 2 p)) p) q).is_open) [
      | inl is_open ↦ fresh_later rules room run goes p q (r.speak 2 p) (r.begin 4) one other (omega (arith, p_to, three))
          (fresh_by rules room run goes p q (r.speak 2 p) other
          (knows_later rules room run goes p q (r.begin 2) (r.speak 2 p) one other apart p_from knows) is_open)
      | inr closed ↦
          let g = greets_in rules room run goes n 2 p q r (omega (arith, less)) one other apart closed in
          let after = g.from in
          let before : g.at < r.begin 3 = g.before in
          let back : q ≢ p = λ e. apart (sym e) in
          let begun : r.begin 2 ≤ g.at = omega (arith, p_from, after) in
          let mine : Knows (run.world g.at) p q = knows_later rules room run goes p q (r.begin 2) g.at one other apart begun knows in
          let known : Knows (run.world g.at) q p = knows_later rules room run goes q p (r.begin 2) g.at other one back begun its in
          elim (cases_lt g.at (r.speak 2 q)) [
            | inl early ↦
                let since : r.speak 1 q ≤ g.at = omega (arith, q_before, begun) in
                fresh_later rules room run goes p q (r.begin 3) (r.begin 4) one other three
                (welcomes_in rules room run goes n 2 p q (r.speak 2 p) (r.begin 3) r (omega (arith, less)) one other apart g mine known since early)
            | inr late ↦
                let in_time : g.at < r.speak 3 q = omega (arith, before, q_from) in
                welcomes_in rules room run goes n 3 p q (r.speak 2 p) (r.begin 3) r less one other apart g mine known late in_time
          ]
    ]

pub four_rounds_open : (rules : Rules) (room : ℕ) (run : Run rules room) → Goes rules room run → (n p q : ℕ) (r : FairRounds rules room run n) → 3 < n
    → Stays rules room run p → Stays rules room run q → p ≢ q → Fresh (run.world (r.begin 4)) p q
four_rounds_open rules room run goes n p q r less one other apart =
    let both = both_know rules room run goes n p q r (omega (arith, less)) one other apart in
    opens rules room run goes n p q r less one other apart both.0 both.1

pub four_rounds_link : (rules : Rules) (room : ℕ) (run : Run rules room) → Goes rules room run → (p q t : ℕ) (r : FairRounds rules room run 4)
    → Stays rules room run p → Stays rules room run q → p ≢ q → r.begin 4 ≤ t → LinksAreOpen (run.world t) p q
four_rounds_link rules room run goes p q t r one other apart late =
    let back : q ≢ p = λ e. apart (sym e) in
    record {
      one = fresh_later rules room run goes p q (r.begin 4) t one other late
          (four_rounds_open rules room run goes 4 p q r (omega arith) one other apart);
      other = fresh_later rules room run goes q p (r.begin 4) t other one late
          (four_rounds_open rules room run goes 4 q p r (omega arith) other one back);
    }
