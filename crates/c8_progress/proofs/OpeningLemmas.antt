-- Who was not dropped is opened, drop rounds end, and rounds end the match; for `a_match_can_always_end`.
use Rattle.std.proofs.Common.{◌≡◌, ◌≢◌, ℕ, zero, suc, ◌<◌, ◌≤◌, inl, inr, List, [], ◌∷◌, Bool, false, cond, Err, refl, sym, ap, subst, ◌∙◌, arith}
use Rattle.std.proofs.lemmas.Bool.{cases_eq, cases_Bool}
use Rattle.c8_game.specs.Rules.{Rules, AreInRange}
use Rattle.c8_known.specs.Journal.{Record, epoch, has_leave, lets_go}
use Rattle.c8_refusals.specs.declared.error.OpenError.TheVariants as opens
use Rattle.c8_peer.specs.State as states
use Rattle.c8_peer.specs.State.{State, Mode, Down, Away}
use Rattle.c8_peer.specs.Opening.{Stands, opening_record, opened, last_epoch}
use Rattle.c8_world.specs.World as worlds
use Rattle.c8_world.specs.World.{World, IsReached, peer_of, journal_of, acted, Do, said_by, stepped, open_at_mode}
use Rattle.c8_world.specs.Agreement.{IsPlayer, IsUndropped}
use Rattle.c8_progress.proofs.LinkedLemmas.{IsWell, placed, peer_here, peer_there}
use Rattle.c8_progress.specs.Exchange.{works}
use Rattle.c8_progress.proofs.GoingLemmas.{Leads, IsOn, HasGrown, grown_leaves, leads_none, leads_one, leads_more, reached_leads}
use Rattle.c8_progress.specs.Ending.{CanAlwaysEnd}
use Rattle.c8_progress.proofs.LawLemmas.{Laws}
use Rattle.c8_progress.proofs.ReachedLemmas.{reached_well}
use Rattle.c8_progress.proofs.SayingLemmas.{player_test, apart_places}
use Rattle.c8_progress.proofs.GreetingLemmas.{player_one}
use Rattle.c8_progress.proofs.SettlingLemmas.{all_cut}
use Rattle.c8_progress.proofs.BroughtLemmas.{below}
use Rattle.c8_progress.proofs.EndingLemmas.{match_ends}

-- ---- one opening

-- a player's peer is opened; an open one stays as it is
abbrev up : Rules → ℕ → World → ℕ → World
up rules room w p = (acted rules room w (worlds.Open p) works).world

opening_drops_none : (rules : Rules) (room p : ℕ) (journal : List Record) (q : ℕ) → lets_go q (opening_record rules room p journal) ≡ false
opening_drops_none rules room p [] q = refl
opening_drops_none rules room p (r ∷ rest) q = refl

record IsUp (rules : Rules) (w v : World) (p : ℕ) : Type 0 where
  mode : (peer_of v p).mode ≡ states.Open
  grown : HasGrown (journal_of w p) (journal_of v p)
  there : (r : ℕ) → IsPlayer rules r → r ≢ p → peer_of v r ≡ peer_of w r

up_now : (rules : Rules) (room : ℕ) (w : World) (p : ℕ) → IsWell rules room w → IsPlayer rules p
    → IsUp rules w (stepped w p (opened rules room p (peer_of w p) (journal_of w p) Stands)).world p
up_now rules room w p well plays =
    let journal : List Record = journal_of w p in
    let t = opened rules room p (peer_of w p) journal Stands in
    let new = said_by t.reply in
    let here : peer_of (placed w p t.state new) p ≡ t.state = peer_here rules w p t.state new well.nodes plays in
    record {
      mode = ap (λ (s : State). s.mode) here;
      grown = inr (opening_record rules room p journal, opening_drops_none rules room p journal, ap (λ (s : State). s.journal) here);
      there = λ r r_plays other. peer_there rules w p t.state new r (apart_places rules p r plays r_plays other);
    }

mode_up : (rules : Rules) (room : ℕ) (w : World) (p : ℕ) (mode : Mode) → (peer_of w p).mode ≡ mode → IsWell rules room w → IsPlayer rules p
    → IsUp rules w (open_at_mode rules room w p works mode).world p
mode_up rules room w p states.Open is well plays = record { mode = is; grown = inl refl; there = λ r r_plays other. refl }
mode_up rules room w p Down is well plays = up_now rules room w p well plays
mode_up rules room w p Away is well plays = up_now rules room w p well plays

is_up : (rules : Rules) (room : ℕ) (w : World) (p : ℕ) → IsWell rules room w → IsPlayer rules p → IsUp rules w (up rules room w p) p
unfolding acted
is_up rules room w p well plays =
    let at : up rules room w p ≡ (open_at_mode rules room w p works (peer_of w p).mode).world =
    ap (λ (b : Bool). (cond b (open_at_mode rules room w p works (peer_of w p).mode)
    (record { answer = worlds.Told (states.Opened (Err opens.WrongPlayer)); world = w })).world) (player_test rules p plays) in
    subst (λ (v : World). IsUp rules w v p) (sym at) (mode_up rules room w p (peer_of w p).mode refl well plays)

-- ---- all openings

-- players 1 to n are open, if they were not dropped
record AreUp (rules : Rules) (room : ℕ) (out : ℕ → Bool) (w : World) (n : ℕ) : Type 0 where
  end : World
  leads : Leads rules room w end
  leaves : (p : ℕ) → has_leave p (journal_of end 1) ≡ out p
  modes : (p : ℕ) → IsPlayer rules p → p ≤ n → out p ≡ false → (peer_of end p).mode ≡ states.Open
  there : (r : ℕ) → IsPlayer rules r → n < r → peer_of end r ≡ peer_of w r

are_up : (rules : Rules) (room : ℕ) (out : ℕ → Bool) (w : World) (n : ℕ) → AreInRange rules → Laws rules room → IsReached rules room w
    → ((p : ℕ) → has_leave p (journal_of w 1) ≡ out p) → ((p : ℕ) → IsPlayer rules p → out p ≡ false → epoch (journal_of w p) < last_epoch)
    → n ≤ rules.players → AreUp rules room out w n
are_up rules room out w zero range laws reached leaves unspent within = record {
  end = w;
  leads = leads_none rules room w;
  leaves = leaves;
  modes = λ p plays none. absurd (let from = plays.from_one in omega (arith, from, none));
  there = λ r plays past. refl;
}
are_up rules room out w (suc n) range laws reached leaves unspent within =
    let p : ℕ = suc n in
    let before = are_up rules room out w n range laws reached leaves unspent (omega (arith, within)) in
    let u : World = before.end in
    let plays : IsPlayer rules p = record { from_one = omega arith; in_game = within } in
    elim (cases_Bool (out p)) [
      | inl gone ↦ record {
        end = u;
        leads = before.leads;
        leaves = before.leaves;
        modes = λ q q_plays upto stays. before.modes q q_plays (below q n upto (λ at. let same = ap out at in cc (same, gone, stays))) stays;
        there = λ r r_plays past. before.there r r_plays (omega (arith, past));
      }
      | inr stays ↦
          let then = reached_leads rules room w u reached before.leads in
          let same : peer_of u p ≡ peer_of w p = before.there p plays (omega arith) in
          let low : epoch (journal_of u p) < last_epoch =
          subst (λ (s : State). epoch s.journal < last_epoch) (sym same) (unspent p plays stays) in
          let v : World = up rules room u p in
          let is = is_up rules room u p (reached_well rules room u range then) plays in
          let one : Leads rules room u v = leads_one rules room u v (Do (worlds.Open p)) _ refl
          (record { happening = works; may = λ e. ((laws u then).journals p plays, low, within); is = refl }) in
          let first : HasGrown (journal_of u 1) (journal_of v 1) = elim (cases_eq 1 p) [
            | inl at ↦ subst (λ (x : ℕ). HasGrown (journal_of u x) (journal_of v x)) (sym at) is.grown
            | inr other ↦ inl (ap (λ (s : State). s.journal) (is.there 1 (player_one rules range) other))
          ] in
          record {
            end = v;
            leads = leads_more rules room w u v before.leads one;
            leaves = λ q. grown_leaves q (journal_of u 1) (journal_of v 1) first ∙ before.leaves q;
            modes = λ q q_plays upto q_stays. elim (cases_eq q p) [
              | inl at ↦ ap (λ (x : ℕ). (peer_of v x).mode) at ∙ is.mode
              | inr other ↦ ap (λ (s : State). s.mode) (is.there q q_plays other) ∙ before.modes q q_plays (below q n upto other) q_stays
            ];
            there = λ r r_plays past. is.there r r_plays (λ at. omega (arith, at, past)) ∙ before.there r r_plays (omega (arith, past));
          }
    ]

-- ---- the law

-- Whatever happened, a match can go on to its end, and nobody else has to be dropped for it.
pub match_can_always_end : (rules : Rules) (room : ℕ) (w : World) → AreInRange rules → Laws rules room → IsReached rules room w
    → ((p : ℕ) → IsPlayer rules p → IsUndropped w p → epoch (journal_of w p) < last_epoch) → CanAlwaysEnd rules room w
match_can_always_end rules room w range laws reached unspent =
    let out : ℕ → Bool = λ p. has_leave p (journal_of w 1) in
    let opened_all = are_up rules room out w rules.players range laws reached (λ p. refl) unspent (omega arith) in
    let u : World = opened_all.end in
    let on : IsOn rules room out u = record {
      reached = reached_leads rules room w u reached opened_all.leads;
      leaves = opened_all.leaves;
      up = λ p plays stays. opened_all.modes p plays plays.in_game stays;
    } in
    let cut_all = all_cut rules room out u rules.players range laws on (omega arith) in
    let s : World = cut_all.end in
    let ends = match_ends rules room out s range laws cut_all.later.on
    (λ L q leaver leaves plays stays. cut_all.cut L q leaver leaver.in_game leaves plays stays) in
    let leads = leads_more rules room w u ends.end opened_all.leads
    (leads_more rules room u s ends.end cut_all.later.leads ends.later.leads) in
    record {
      end = ends.end;
      events = leads.events;
      answers = leads.answers;
      chain = leads.chain;
      plain = leads.plain;
      stays = λ p stays. ends.later.on.leaves p ∙ stays;
      all = λ p plays stays. ends.all p plays stays;
    }
