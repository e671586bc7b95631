-- What the verdicts mean for journals of worlds.
use Rattle.std.proofs.Common.{◌≡◌, ℕ, ◌<◌, ◌≤◌, inl, inr, ⊎_elim, List, Option, Some, sym, ap, subst, ◌∙◌}
use Rattle.std.specs.Prelude.{option_map}
use Rattle.std.specs.List.{slice_get}
use Rattle.c8_game.specs.Rules.{Rules}
use Rattle.c8_known.specs.Journal.{Record, held, has_leave, cut_of}
use Rattle.c8_known.specs.Known.{PlayerValue, KnownValue, player_in, known_of}
use Rattle.c8_known.specs.Confirmed.{input_of, confirmed, rows_below}
use Rattle.c8_known.specs.checked.OneMore.{player_known}
use Rattle.c8_peer.specs.TrueChecks.{HasTrueLast}
use Rattle.c8_world.specs.World.{World, journal_of, known_by}
use Rattle.c8_world.specs.Agreement.{IsPlayer, IsUndropped, AreSameUpTo, AgreeUpTo}
use Rattle.c8_world.specs.Agreement as worlds
use Rattle.c8_audit.specs.Journals.{Readings, Evidence, Seen, AllSeen, seen_of, seen_in, IsGiven, is_dropped, cut_in, Stays}
use Rattle.c8_audit.specs.Honest.{AreOfWorlds}
use Rattle.c8_audit.specs.Verdicts.{IsEntered, AreEntered, AreTrue, AreAgreed, IsLeastCount}
use Rattle.c8_audit.proofs.AccusedLemmas.{dropped_is, cut_is}

given_in : (rules : Rules) (e : Evidence) (w v : World) (p : ℕ) (r : Readings) → AreOfWorlds rules e w v → e p ≡ Some r
    → IsGiven (seen_in rules e) p (seen_of rules p r)
given_in rules e w v p r of is = record { from_one = (of.players p r is).from_one; is = ap (option_map (seen_of rules p)) is }

first_known : (rules : Rules) (e : Evidence) (w v : World) (p : ℕ) (r : Readings) → AreOfWorlds rules e w v → e p ≡ Some r
    → known_of rules p r.first ≡ known_by rules w p
first_known rules e w v p r of is = ap (known_of rules p) (of.first_are p r is)

-- what player 1 decided is what its journal says later
later_cut : (rules : Rules) (e : Evidence) (w v : World) (q : ℕ) → AreOfWorlds rules e w v → IsPlayer rules q
    → cut_in (seen_in rules e) q ≡ cut_of q (journal_of v 1)
later_cut rules e w v q of plays =
    cut_is rules e of.one q of.one_given ∙ ap (λ (j : List Record). (player_in (known_of rules 1 j) q).cut) (of.later_are 1 of.one of.one_given)
    ∙ ap (λ (x : PlayerValue). x.cut) (player_known rules 1 q (journal_of v 1) plays.from_one plays.in_game)

later_dropped : (rules : Rules) (e : Evidence) (w v : World) (q : ℕ) → AreOfWorlds rules e w v → IsPlayer rules q
    → is_dropped (seen_in rules e) q ≡ has_leave q (journal_of v 1)
later_dropped rules e w v q of plays =
    dropped_is rules e of.one q of.one_given ∙ ap (λ (j : List Record). (player_in (known_of rules 1 j) q).leaving)
    (of.later_are 1 of.one of.one_given)
    ∙ ap (λ (x : PlayerValue). x.leaving) (player_known rules 1 q (journal_of v 1) plays.from_one plays.in_game)

later_held : (rules : Rules) (e : Evidence) (w v : World) (q : ℕ) (r : Readings) → AreOfWorlds rules e w v → e q ≡ Some r
    → (player_in (known_of rules q r.later) q).held ≡ held rules q (journal_of v q)
later_held rules e w v q r of is =
    let plays = of.players q r is in
    ap (λ (j : List Record). (player_in (known_of rules q j) q).held) (of.later_are q r is)
    ∙ ap (λ (x : PlayerValue). x.held) (player_known rules q q (journal_of v q) plays.from_one plays.in_game)

entered_there : (rules : Rules) (v : World) (q frame : ℕ) (cut : Option ℕ) (own : KnownValue) (input : Option ℕ)
    → cut ≡ cut_of q (journal_of v 1) → (player_in own q).held ≡ held rules q (journal_of v q)
    → IsEntered cut own q frame input → worlds.IsEntered rules v q frame input
entered_there rules v q frame cut own input cuts holds is = record {
  word = is.word;
  is = is.is;
  entered = ⊎_elim
      (λ here. inl (ap (λ (xs : List ℕ). slice_get xs frame) (sym holds) ∙ here))
      (λ past. inr (past.0, past.1, sym cuts ∙ past.2, past.3))
      is.entered;
}

pub yes_entered : (rules : Rules) (e : Evidence) (w v : World) → AreOfWorlds rules e w v → AreEntered (seen_in rules e)
    → (p q frame : ℕ) (by own : Readings) → e p ≡ Some by → e q ≡ Some own
    → frame < confirmed (known_by rules w p) → worlds.IsEntered rules v q frame (input_of (player_in (known_by rules w p) q) frame)
yes_entered rules e w v of verdict p q frame by own by_is own_is below =
    let first = first_known rules e w v p by of by_is in
    let is = verdict p q frame (seen_of rules p by) (seen_of rules q own) (given_in rules e w v p by of by_is) (given_in rules e w v q own of own_is)
    (subst (λ (k : KnownValue). frame < confirmed k) (sym first) below) in
    subst (λ (k : KnownValue). worlds.IsEntered rules v q frame (input_of (player_in k q) frame)) first
    (entered_there rules v q frame (cut_in (seen_in rules e) q) (known_of rules q own.later)
    (input_of (player_in (known_of rules p by.first) q) frame)
    (later_cut rules e w v q of (of.players q own own_is)) (later_held rules e w v q own of own_is) is)

pub yes_true : (rules : Rules) (e : Evidence) (w v : World) → AreOfWorlds rules e w v → AreTrue rules (seen_in rules e)
    → (p : ℕ) (by : Readings) → e p ≡ Some by → HasTrueLast rules p (journal_of w p)
yes_true rules e w v of verdict p by is =
    let here : HasTrueLast rules p by.first = verdict p (seen_of rules p by) (given_in rules e w v p by of is) in
    subst (λ (j : List Record). HasTrueLast rules p j) (of.first_are p by is) here

stays_in : (rules : Rules) (e : Evidence) (w v : World) (p : ℕ) (r : Readings) → AreOfWorlds rules e w v → e p ≡ Some r → IsUndropped v p
    → Stays (seen_in rules e) p (seen_of rules p r)
stays_in rules e w v p r of is stays = record {
  given = given_in rules e w v p r of is;
  undropped = later_dropped rules e w v p of (of.players p r is) ∙ stays;
}

pub yes_agreed : (rules : Rules) (e : Evidence) (w v : World) → AreOfWorlds rules e w v → AreAgreed rules (seen_in rules e)
    → (p r : ℕ) (one other : Readings) → e p ≡ Some one → e r ≡ Some other
    → IsUndropped v p → IsUndropped v r → AgreeUpTo rules w w p r
yes_agreed rules e w v of verdict p r one other one_is other_is p_stays r_stays n p_counts r_counts =
    let a = first_known rules e w v p one of one_is in
    let b = first_known rules e w v r other of other_is in
    let is = verdict p r (seen_of rules p one) (seen_of rules r other) (stays_in rules e w v p one of one_is p_stays)
    (stays_in rules e w v r other of other_is r_stays) n
    (subst (λ (k : KnownValue). n ≤ confirmed k) (sym a) p_counts) (subst (λ (k : KnownValue). n ≤ confirmed k) (sym b) r_counts) in
    subst (λ (k : KnownValue). AreSameUpTo rules k (known_by rules w r) n) a
    (subst (λ (k : KnownValue). AreSameUpTo rules (known_of rules p one.first) k n) b is)

pub yes_result : (rules : Rules) (all : AllSeen) (N : ℕ) → AreAgreed rules all → IsLeastCount all N → (p r : ℕ) (a b : Seen) → Stays all p a
    → Stays all r b → rows_below a.first N ≡ rows_below b.first N
yes_result rules all N verdict count p r a b at_p at_r = (verdict p r a b at_p at_r N (count.least p a at_p) (count.least r b at_r)).rows
