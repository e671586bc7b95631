-- The verdicts on the journals of an honest match.
use Rattle.std.proofs.Common.{◌≡◌, ℕ, ◌^◌, ◌<◌, ◌≤◌, ◌⊎◌, inl, inr, List, [], Bool, true, false, Option, Some, None, refl, sym, ap, subst, ◌∙◌, arith}
use Rattle.std.specs.Prelude.{option_map}
use Rattle.std.specs.List.{slice_get}
use Rattle.std.proofs.lemmas.Bool.{both_ways}
use Rattle.c8_game.specs.Rules.{Rules, AreInRange}
use Rattle.c8_roll.specs.Roll.{IsOnTheWay}
use Rattle.c8_known.specs.Journal.{Record, held, has_leave, cut_of}
use Rattle.c8_known.specs.Known.{PlayerValue, KnownValue, player_in, known_of, Plays}
use Rattle.c8_known.specs.Confirmed.{input_of, confirmed, row, rows_below}
use Rattle.c8_known.specs.Growth.{Begins, IsStillKnown}
use Rattle.c8_known.specs.checked.BeginsLaws.{begins_get}
use Rattle.c8_known.specs.checked.ConfirmedLaws.{confirmed_is, confirmed_rises, some_value, input_stays, row_stays, map_same}
use Rattle.c8_known.specs.checked.OneMore.{player_known}
use Rattle.c8_known.specs.checked.StartLaws.{players_known}
use Rattle.c8_record.specs.Allowed.{IsJournal}
use Rattle.c8_record.specs.checked.JournalLaws.{journal_grows}
use Rattle.c8_peer.specs.Opening.{found}
use Rattle.c8_peer.specs.State.{State}
use Rattle.c8_peer.specs.TrueChecks.{HasTrueLast}
use Rattle.c8_world.specs.World.{World, peer_of, journal_of, known_by, IsReached}
use Rattle.c8_world.specs.Agreement.{IsPlayer, AreSameUpTo}
use Rattle.c8_audit.specs.Journals.{Readings, Evidence, Seen, seen_of, seen_in, IsGiven, dropped_by, is_dropped, cut_by, cut_in}
use Rattle.c8_audit.specs.Honest.{IsHonest}
use Rattle.c8_audit.specs.Verdicts.{IsEntered, AreEntered, AreTrue, AreAgreed}
use Rattle.c8_audit.specs.checked.Below.{AreWorldsLawful}
use Rattle.c8_audit.proofs.AgreedLemmas.{same_up_to}
use Rattle.c8_audit.proofs.HonestLemmas.{reached_later, reached_regular, settled_at, settled_reached, settled_here, adopt, adopt_reached}
use Rattle.c8_audit.proofs.HonestLemmas.{adopt_is, IsBacked, backed}

some_same : {X : Type 0} (x y : X) → Some x ≡ Some y → x ≡ y
some_same x y same = cc

-- ---- the world in which all readings have a place

-- The world knows what the first reading makes known, and the second reading makes known what the world knows.
pub record StandsIn (rules : Rules) (w : World) (p : ℕ) (r : Readings) : Type 0 where
  pub first : IsStillKnown (known_of rules p r.first) (known_by rules w p)
  pub later : IsStillKnown (known_by rules w p) (known_of rules p r.later)

-- all given journals are backed by one world to which some list of events leads
pub record IsCommon (rules : Rules) (room : ℕ) (e : Evidence) : Type 0 where
  pub world : World
  pub reached : IsReached rules room world
  pub stand : (p : ℕ) (r : Readings) → e p ≡ Some r → IsPlayer rules p × StandsIn rules world p r

still_by : (rules : Rules) (room p : ℕ) (early late : List Record) → AreInRange rules → IsPlayer rules p → IsJournal rules p room late
    → Begins early late → IsStillKnown (known_of rules p early) (known_of rules p late)
still_by rules room p early late range plays valid begins =
    subst (λ (j : List Record). IsStillKnown (known_of rules p early) (known_of rules p j)) (sym begins.is)
    (journal_grows rules p room early begins.rest range plays.from_one plays.in_game
    (subst (λ (j : List Record). IsJournal rules p room j) begins.is valid))

-- which pending records the reads at the moment between find
choose : (rules : Rules) (room : ℕ) (e : Evidence) (honest : IsHonest rules room e) (p : ℕ) (o : Option Readings) → e p ≡ o
    → (finds : Bool) × ((r : Readings) → e p ≡ Some r → IsBacked rules p honest.between finds r)
choose rules room e honest p None none = (false, λ r is. let both : None ≡ Some r = sym none ∙ is in absurd cc)
choose rules room e honest p (Some s) is =
    let back = backed rules room p honest.between s (honest.players p s is) (honest.read p s is) in
    (back.0, λ r other. subst (λ (t : Readings). IsBacked rules p honest.between back.0 t) (some_same s r (sym is ∙ other)) back.1)

between_reached : (rules : Rules) (room : ℕ) (e : Evidence) (honest : IsHonest rules room e) → IsReached rules room honest.between
between_reached rules room e honest =
    let was = honest.read 1 honest.one honest.one_given in
    reached_later rules room was.first_at honest.between was.events was.answers was.first_reached was.before

later_reached : (rules : Rules) (room : ℕ) (e : Evidence) (honest : IsHonest rules room e) (p : ℕ) (r : Readings) (is : e p ≡ Some r)
    → IsReached rules room (honest.read p r is).later_at
later_reached rules room e honest p r is =
    let was = honest.read p r is in
    reached_later rules room honest.between was.later_at was.more_events was.more_answers (between_reached rules room e honest) was.after

pub first_journal : (laws : AreWorldsLawful) (rules : Rules) (room : ℕ) (e : Evidence) → AreInRange rules → room < 2 ^ 64
    → (honest : IsHonest rules room e) (p : ℕ) (r : Readings) → e p ≡ Some r → IsJournal rules p room r.first
first_journal laws rules room e range few honest p r is =
    let was = honest.read p r is in
    subst (λ (j : List Record). IsJournal rules p room j) (sym was.first_is)
    (laws.journals rules room was.first_at p was.finds range few was.first_reached (honest.players p r is))

pub later_journal : (laws : AreWorldsLawful) (rules : Rules) (room : ℕ) (e : Evidence) → AreInRange rules → room < 2 ^ 64
    → (honest : IsHonest rules room e) (p : ℕ) (r : Readings) → e p ≡ Some r → IsJournal rules p room r.later
later_journal laws rules room e range few honest p r is =
    let was = honest.read p r is in
    subst (λ (j : List Record). IsJournal rules p room j) (sym was.later_is)
    (laws.journals rules room was.later_at p was.later_finds range few (later_reached rules room e honest p r is) (honest.players p r is))

stands_in : (laws : AreWorldsLawful) (rules : Rules) (room : ℕ) (w : World) (p : ℕ) (r : Readings) (before : List Record) → AreInRange rules
    → room < 2 ^ 64 → IsReached rules room w → IsPlayer rules p
    → IsJournal rules p room r.later → known_of rules p r.first ≡ known_of rules p before → Begins before (journal_of w p)
    → Begins (journal_of w p) r.later → StandsIn rules w p r
stands_in laws rules room w p r before range few reached plays later known begins ends =
    let valid : IsJournal rules p room (journal_of w p) = laws.journals rules room w p false range few reached plays in
    record {
      first = subst (λ (k : KnownValue). IsStillKnown k (known_by rules w p)) (sym known)
          (still_by rules room p before (journal_of w p) range plays valid begins);
      later = still_by rules room p (journal_of w p) r.later range plays later ends;
    }

pub common : (laws : AreWorldsLawful) (rules : Rules) (room : ℕ) (e : Evidence) → AreInRange rules → room < 2 ^ 64 → IsHonest rules room e
    → IsCommon rules room e
common laws rules room e range few honest =
    let finds : ℕ → Bool = λ p. (choose rules room e honest p (e p) refl).0 in
    let w : World = adopt honest.between finds rules.players in
    let between = between_reached rules room e honest in
    let reached : IsReached rules room w = adopt_reached rules room honest.between finds rules.players between (omega arith) in
    record {
      world = w;
      reached = reached;
      stand = λ p r is.
          let plays = honest.players p r is in
          let back = (choose rules room e honest p (e p) refl).1 r is in
          let nodes = (reached_regular rules room p honest.between plays between).nodes in
          let at : journal_of w p ≡ found (peer_of honest.between p) (finds p) =
          adopt_is rules honest.between finds rules.players p nodes (omega arith) plays.in_game plays in (
            plays,
            stands_in laws rules room w p r back.before range few reached plays (later_journal laws rules room e range few honest p r is) back.known
                (subst (λ (j : List Record). Begins back.before j) (sym at) back.begins)
                (subst (λ (j : List Record). Begins j r.later) (sym at) back.ends),
          );
    }

-- ---- what is given

-- the reading by which this is known
pub record IsOfReading (rules : Rules) (e : Evidence) (p : ℕ) (s : Seen) : Type 0 where
  pub readings : Readings
  pub is : e p ≡ Some readings
  pub seen : s ≡ seen_of rules p readings

pub of_reading_at : (rules : Rules) (e : Evidence) (p : ℕ) (s : Seen) (o : Option Readings) → e p ≡ o
    → option_map (seen_of rules p) o ≡ Some s → IsOfReading rules e p s
of_reading_at rules e p s None is same = absurd cc
of_reading_at rules e p s (Some r) is same = record { readings = r; is = is; seen = some_same s (seen_of rules p r) (sym same) }

pub of_reading : (rules : Rules) (e : Evidence) (p : ℕ) (s : Seen) → IsGiven (seen_in rules e) p s → IsOfReading rules e p s
of_reading rules e p s given = of_reading_at rules e p s (e p) refl given.is

-- what player 1's second reading decides
pub dropped_is : (rules : Rules) (e : Evidence) (one : Readings) (q : ℕ) → e 1 ≡ Some one
    → is_dropped (seen_in rules e) q ≡ (player_in (known_of rules 1 one.later) q).leaving
dropped_is rules e one q is = ap (λ (o : Option Readings). dropped_by (option_map (seen_of rules 1) o) q) is

pub cut_is : (rules : Rules) (e : Evidence) (one : Readings) (q : ℕ) → e 1 ≡ Some one
    → cut_in (seen_in rules e) q ≡ (player_in (known_of rules 1 one.later) q).cut
cut_is rules e one q is = ap (λ (o : Option Readings). cut_by (option_map (seen_of rules 1) o) q) is

-- ---- entered

pub plays_known : (rules : Rules) (p q : ℕ) (journal : List Record) → IsPlayer rules q → Plays (known_of rules p journal) q
plays_known rules p q journal plays =
    let from = plays.from_one in
    let to = plays.in_game in
    record { from_one = from; in_game = omega (arith, to, players_known rules p journal) }

-- an input that was held or cut there is held or cut later
later_entered : (rules : Rules) (w : World) (q frame word : ℕ) (own one : Readings) → IsPlayer rules q → StandsIn rules w q own
    → StandsIn rules w 1 one
    → (slice_get (held rules q (journal_of w q)) frame ≡ Some word) ⊎ ((word ≡ 0) × (K : ℕ) × (cut_of q (journal_of w 1) ≡ Some K) × (K ≤ frame))
    → (slice_get (player_in (known_of rules q own.later) q).held frame ≡ Some word)
    ⊎ ((word ≡ 0) × (K : ℕ) × ((player_in (known_of rules 1 one.later) q).cut ≡ Some K) × (K ≤ frame))
later_entered rules w q frame word own one plays own_stands one_stands (inl has) =
    let here : (player_in (known_by rules w q) q).held ≡ held rules q (journal_of w q) =
    ap (λ (v : PlayerValue). v.held) (player_known rules q q (journal_of w q) plays.from_one plays.in_game) in
    inl (begins_get (player_in (known_by rules w q) q).held (player_in (known_of rules q own.later) q).held frame word
    (own_stands.later.each q).held (ap (λ (xs : List ℕ). slice_get xs frame) here ∙ has))
later_entered rules w q frame word own one plays own_stands one_stands (inr past) =
    let here : (player_in (known_by rules w 1) q).cut ≡ cut_of q (journal_of w 1) =
    ap (λ (v : PlayerValue). v.cut) (player_known rules 1 q (journal_of w 1) plays.from_one plays.in_game) in
    inr (past.0, past.1, (one_stands.later.each q).cut past.1 (here ∙ past.2), past.3)

entered_of : (laws : AreWorldsLawful) (rules : Rules) (room : ℕ) (w : World) (p q frame : ℕ) (by own one : Readings) → AreInRange rules
    → room < 2 ^ 64 → IsReached rules room w
    → IsPlayer rules p → IsPlayer rules q → StandsIn rules w p by → StandsIn rules w q own → StandsIn rules w 1 one
    → frame < confirmed (known_of rules p by.first)
    → IsEntered (player_in (known_of rules 1 one.later) q).cut (known_of rules q own.later) q frame
    (input_of (player_in (known_of rules p by.first) q) frame)
entered_of laws rules room w p q frame by own one range few reached p_plays q_plays by_stands own_stands one_stands below =
    let k : KnownValue = known_of rules p by.first in
    let rises = confirmed_rises k (known_by rules w p) by_stands.first in
    let there = laws.entered rules room w w [] [] p range few reached refl p_plays frame q q_plays (omega (arith, below, rises)) in
    let has = some_value (input_of (player_in k q) frame) ((confirmed_is k).settled frame q below (plays_known rules p q by.first q_plays)) in
    let stays = input_stays (player_in k q) (player_in (known_by rules w p) q) (by_stands.first.each q) frame has.0 has.1 in
    let same : has.0 ≡ there.word = some_same has.0 there.word (sym stays ∙ there.is) in
    record {
      word = there.word;
      is = has.1 ∙ ap Some same;
      entered = later_entered rules w q frame there.word own one q_plays own_stands one_stands there.entered;
    }

pub honest_entered : (laws : AreWorldsLawful) (rules : Rules) (room : ℕ) (e : Evidence) → AreInRange rules → room < 2 ^ 64
    → IsHonest rules room e → AreEntered (seen_in rules e)
honest_entered laws rules room e range few honest p q frame s t s_given t_given below =
    let c = common laws rules room e range few honest in
    let by = of_reading rules e p s s_given in
    let own = of_reading rules e q t t_given in
    let at_p = c.stand p by.readings by.is in
    let at_q = c.stand q own.readings own.is in
    let at_one = c.stand 1 honest.one honest.one_given in
    let counts : frame < confirmed (known_of rules p by.readings.first) = subst (λ (x : Seen). frame < confirmed x.first) by.seen below in
    let is = entered_of laws rules room c.world p q frame by.readings own.readings honest.one range few c.reached at_p.0 at_q.0 at_p.1
    at_q.1 at_one.1 counts in
    subst (λ (o : Option ℕ). IsEntered o t.later q frame (input_of (player_in s.first q) frame)) (sym (cut_is rules e honest.one q honest.one_given))
    (subst (λ (x : Seen). IsEntered (player_in (known_of rules 1 honest.one.later) q).cut t.later q frame
    (input_of (player_in x.first q) frame)) (sym by.seen)
    (subst (λ (x : Seen). IsEntered (player_in (known_of rules 1 honest.one.later) q).cut x.later q frame
    (input_of (player_in (known_of rules p by.readings.first) q) frame)) (sym own.seen) is))

-- ---- checkpoints

pub honest_true : (laws : AreWorldsLawful) (rules : Rules) (room : ℕ) (e : Evidence) → AreInRange rules → room < 2 ^ 64
    → IsHonest rules room e → AreTrue rules (seen_in rules e)
honest_true laws rules room e range few honest p s given from last =
    let by = of_reading rules e p s given in
    let was = honest.read p by.readings by.is in
    let plays = honest.players p by.readings by.is in
    let w : World = settled_at was.first_at p was.finds in
    let reached : IsReached rules room w = settled_reached rules room was.first_at p was.finds plays was.first_reached in
    let nodes = (reached_regular rules room p was.first_at plays was.first_reached).nodes in
    let at : journal_of w p ≡ by.readings.first =
    ap (λ (x : State). x.journal) (settled_here rules was.first_at p was.finds plays nodes) ∙ sym was.first_is in
    let true_last : HasTrueLast rules p by.readings.first =
    subst (λ (j : List Record). HasTrueLast rules p j) at (laws.checks rules room w p range few reached plays).last in
    subst (λ (x : Seen). IsOnTheWay rules x.first from) (sym by.seen) (true_last from (subst (λ (x : Seen). x.last ≡ Some from) by.seen last))

-- ---- agreement

not_true : (b c : Bool) → (b ≡ true → c ≡ true) → c ≡ false → b ≡ false
not_true true c then none = absurd (both_ways c none (then refl))
not_true false c then none = refl

undropped_there : (rules : Rules) (w : World) (q : ℕ) (one : Readings) → IsPlayer rules q → StandsIn rules w 1 one
    → (player_in (known_of rules 1 one.later) q).leaving ≡ false → has_leave q (journal_of w 1) ≡ false
undropped_there rules w q one plays stands none =
    let here : (player_in (known_by rules w 1) q).leaving ≡ has_leave q (journal_of w 1) =
    ap (λ (v : PlayerValue). v.leaving) (player_known rules 1 q (journal_of w 1) plays.from_one plays.in_game) in
    sym here ∙ not_true (player_in (known_by rules w 1) q).leaving (player_in (known_of rules 1 one.later) q).leaving
    (stands.later.each q).leaving none

-- the rows that a first reading confirms are confirmed there
first_rows : (a b : KnownValue) (n : ℕ) → IsStillKnown a b → n ≤ confirmed a → rows_below a n ≡ rows_below b n
first_rows a b n still counts = map_same (row a) (row b) 0 n (λ frame below. sym (row_stays a b still frame (omega (arith, below, counts))))

agreed_of : (laws : AreWorldsLawful) (rules : Rules) (room : ℕ) (w : World) (p r n : ℕ) (a b : Readings) → AreInRange rules → room < 2 ^ 64
    → IsReached rules room w → IsPlayer rules p → IsPlayer rules r
    → StandsIn rules w p a → StandsIn rules w r b → has_leave p (journal_of w 1) ≡ false → has_leave r (journal_of w 1) ≡ false
    → n ≤ confirmed (known_of rules p a.first) → n ≤ confirmed (known_of rules r b.first)
    → AreSameUpTo rules (known_of rules p a.first) (known_of rules r b.first) n
agreed_of laws rules room w p r n a b range few reached p_plays r_plays a_stands b_stands p_stays r_stays p_counts r_counts =
    let p_rises = confirmed_rises (known_of rules p a.first) (known_by rules w p) a_stands.first in
    let r_rises = confirmed_rises (known_of rules r b.first) (known_by rules w r) b_stands.first in
    let there = laws.agree rules room w w [] [] p r range few reached refl p_plays r_plays p_stays r_stays n
    (omega (arith, p_counts, p_rises)) (omega (arith, r_counts, r_rises)) in
    same_up_to rules (known_of rules p a.first) (known_of rules r b.first) n
    (first_rows (known_of rules p a.first) (known_by rules w p) n a_stands.first p_counts ∙ there.rows
    ∙ sym (first_rows (known_of rules r b.first) (known_by rules w r) n b_stands.first r_counts))

pub honest_agreed : (laws : AreWorldsLawful) (rules : Rules) (room : ℕ) (e : Evidence) → AreInRange rules → room < 2 ^ 64
    → IsHonest rules room e → AreAgreed rules (seen_in rules e)
honest_agreed laws rules room e range few honest p r s t s_stays t_stays n p_counts r_counts =
    let c = common laws rules room e range few honest in
    let a = of_reading rules e p s s_stays.given in
    let b = of_reading rules e r t t_stays.given in
    let at_p = c.stand p a.readings a.is in
    let at_r = c.stand r b.readings b.is in
    let at_one = c.stand 1 honest.one honest.one_given in
    let p_stays = undropped_there rules c.world p honest.one at_p.0 at_one.1
    (sym (dropped_is rules e honest.one p honest.one_given) ∙ s_stays.undropped) in
    let r_stays = undropped_there rules c.world r honest.one at_r.0 at_one.1
    (sym (dropped_is rules e honest.one r honest.one_given) ∙ t_stays.undropped) in
    let is = agreed_of laws rules room c.world p r n a.readings b.readings range few c.reached at_p.0 at_r.0 at_p.1 at_r.1 p_stays r_stays
    (subst (λ (x : Seen). n ≤ confirmed x.first) a.seen p_counts) (subst (λ (x : Seen). n ≤ confirmed x.first) b.seen r_counts) in
    subst (λ (x : Seen). AreSameUpTo rules x.first t.first n) (sym a.seen)
    (subst (λ (x : Seen). AreSameUpTo rules (known_of rules p a.readings.first) x.first n) (sym b.seen) is)
