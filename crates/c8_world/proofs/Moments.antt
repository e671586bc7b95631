-- What sound journals have in common: bounds by cuts, agreement, and inputs that were entered.
use Rattle.std.proofs.Common.{◌≡◌, ℕ, zero, suc, ◌<◌, ◌≤◌, ◌⊎◌, inl, inr, ⊎_elim, List, [], ◌∷◌, ◌++◌, length, Bool, true, false, Option}
use Rattle.std.proofs.Common.{Some, None, refl, sym, ap, subst, ◌∙◌, arith}
use Rattle.std.specs.Prelude.{nat_le, if◌then◌else◌}
use Rattle.std.specs.List.{slice_get}
use Rattle.std.proofs.lemmas.Bool.{cases_eq, cases_lt, leb-true}
use Rattle.std.proofs.lemmas.Option.{slice_get_within}
use Rattle.c8_game.specs.Rules.{Rules, AreInRange}
use Rattle.c8_game.specs.declared.row.Row.{Row}
use Rattle.c8_machine.specs.Serial.{serial}
use Rattle.c8_known.specs.Journal.{Record, held, count, has_leave, cut_of}
use Rattle.c8_known.specs.Known.{PlayerValue, KnownValue, nobody, player_in, said_of, known_of}
use Rattle.c8_known.specs.Confirmed.{past_cut, unless_held, input_of, confirmed, or_empty, row, rows_below}
use Rattle.c8_known.specs.checked.ConfirmedLaws.{confirmed_is, confirmed_rises, map_same, same_row, nobody_past, some_value}
use Rattle.c8_known.specs.Growth.{Begins}
use Rattle.c8_known.specs.checked.BeginsLaws.{begins_get}
use Rattle.c8_known.specs.checked.OneMore.{player_known}
use Rattle.c8_known.specs.checked.StartLaws.{players_known}
use Rattle.c8_record.specs.Allowed.{IsJournal}
use Rattle.c8_record.specs.checked.JournalLaws.{journal_known, journal_grows}
use Rattle.c8_peer.specs.checked.TruthLaws.{confirmed_stays}
use Rattle.c8_world.specs.Agreement.{IsPlayer, AreSameUpTo}
use Rattle.c8_world.proofs.Journals.{AreSound, Grown, player_one, held_grown, cut_grown}

-- ---- bounds

same_cut : (o : Option ℕ) (K L : ℕ) → o ≡ Some K → o ≡ Some L → K ≡ L
same_cut o K L one two = cc (one, two)

pub bounded_at : (rules : Rules) (room : ℕ) (J : ℕ → List Record) (p L K : ℕ) → AreInRange rules → AreSound rules room J → IsPlayer rules p
    → IsPlayer rules L
    → has_leave p (J 1) ≡ false → cut_of L (J 1) ≡ Some K → count rules L (J p) ≤ K
bounded_at rules room J p L K range sound plays leaver stays cut =
    elim (cases_eq p 1) [
      | inl first ↦
          let one = player_one rules range in
          let known = journal_known rules 1 room (J 1) range one.from_one one.in_game (sound.valid 1 one) in
          let said : player_in (known_of rules 1 (J 1)) L ≡ said_of rules L (J 1) = player_known rules 1 L (J 1) leaver.from_one leaver.in_game in
          let ends = (known.cuts L K (ap (λ (v : PlayerValue). v.cut) said ∙ cut)).count in
          let many : count rules L (J 1) ≡ K = sym (ap (λ (v : PlayerValue). length v.held) said) ∙ ends in
          subst (λ (x : ℕ). count rules L (J x) ≤ K) (sym first) (omega (arith, many))
      | inr other ↦
          let at = sound.decided L K p cut plays other stays in
          let few = at.few in
          ⊎_elim
          (λ no_more. omega (arith, no_more, few))
          (λ later. let same : later.0 ≡ K = same_cut (cut_of L (J 1)) later.0 K later.1 cut in let within = later.2 in omega (arith, same, within))
          (sound.frozen p L at.before at.rest plays at.is)
    ]

-- ---- one input

-- an input is not held, but empty after a cut
pub record IsPastCut (p : PlayerValue) (frame word : ℕ) : Type 0 where
  pub cut : ℕ
  pub stands : p.cut ≡ Some cut
  pub past : cut ≤ frame
  pub empty : word ≡ 0
  pub unheld : slice_get p.held frame ≡ None

within_past : (b : Bool) (word : ℕ) → (if b then Some 0 else None) ≡ Some word → (b ≡ true) × (word ≡ 0)
within_past true word e = (refl, cc)
within_past false word e = absurd cc

held_or_cut : (h c : Option ℕ) (frame word : ℕ) → unless_held h (past_cut c frame) ≡ Some word
    → (h ≡ Some word) ⊎ ((K : ℕ) × (c ≡ Some K) × (K ≤ frame) × (word ≡ 0) × (h ≡ None))
held_or_cut (Some input) c frame word e = inl e
held_or_cut None None frame word e = absurd cc
held_or_cut None (Some K) frame word e = let past = within_past (nat_le K frame) word e in inr (K, refl, leb-true K frame past.0, past.1, refl)

input_is : (p : PlayerValue) (frame word : ℕ) → input_of p frame ≡ Some word → (slice_get p.held frame ≡ Some word) ⊎ IsPastCut p frame word
unfolding input_of
input_is p frame word e =
    ⊎_elim (λ here. inl here) (λ past. inr (record { cut = past.0; stands = past.1; past = past.2; empty = past.3; unheld = past.4 }))
    (held_or_cut (slice_get p.held frame) p.cut frame word e)

-- there is nothing beyond the end of a list
none_long : {X : Type 0} (xs : List X) (i : ℕ) → slice_get xs i ≡ None → length xs ≤ i
none_long [] i e = omega arith
none_long (x ∷ xs) zero e = absurd cc
none_long (x ∷ xs) (suc i) e = omega (arith, none_long xs i e)

some_within : {X : Type 0} (xs : List X) (i : ℕ) (x : X) → slice_get xs i ≡ Some x → i < length xs
some_within xs i x e = slice_get_within xs i x e

-- two undropped peers have the same settled input
pub inputs_agree : (rules : Rules) (room : ℕ) (J : ℕ → List Record) (p r q frame a b : ℕ) → AreInRange rules → AreSound rules room J
    → IsPlayer rules p → IsPlayer rules r → IsPlayer rules q → has_leave p (J 1) ≡ false → has_leave r (J 1) ≡ false
    → input_of (said_of rules q (J p)) frame ≡ Some a → input_of (said_of rules q (J r)) frame ≡ Some b → a ≡ b
inputs_agree rules room J p r q frame a b range sound p_plays r_plays q_plays p_stays r_stays at_p at_r =
    ⊎_elim
    (λ p_holds. ⊎_elim
    (λ r_holds.
    let one = begins_get (held rules q (J p)) (held rules q (J q)) frame a (sound.begins p q p_plays q_plays) p_holds in
    let two = begins_get (held rules q (J r)) (held rules q (J q)) frame b (sound.begins r q r_plays q_plays) r_holds in
    cc (one, two))
    (λ r_cut.
    let few = bounded_at rules room J p q r_cut.cut range sound p_plays q_plays p_stays (sound.cuts r q r_cut.cut r_plays r_cut.stands) in
    let within = some_within (held rules q (J p)) frame a p_holds in
    let past = r_cut.past in
    absurd (omega (arith, few, within, past)))
    (input_is (said_of rules q (J r)) frame b at_r))
    (λ p_cut. ⊎_elim
    (λ r_holds.
    let few = bounded_at rules room J r q p_cut.cut range sound r_plays q_plays r_stays (sound.cuts p q p_cut.cut p_plays p_cut.stands) in
    let within = some_within (held rules q (J r)) frame b r_holds in
    let past = p_cut.past in
    absurd (omega (arith, few, within, past)))
    (λ r_cut. p_cut.empty ∙ sym r_cut.empty)
    (input_is (said_of rules q (J r)) frame b at_r))
    (input_is (said_of rules q (J p)) frame a at_p)

-- ---- rows

-- a player's settled input in a confirmed frame
confirmed_input : (rules : Rules) (p : ℕ) (journal : List Record) (q frame : ℕ) → IsPlayer rules q → frame < confirmed (known_of rules p journal)
    → (word : ℕ) × (input_of (player_in (known_of rules p journal) q) frame ≡ Some word)
confirmed_input rules p journal q frame plays below =
    let k : KnownValue = known_of rules p journal in
    let from = plays.from_one in
    let to = plays.in_game in
    some_value (input_of (player_in k q) frame)
    ((confirmed_is k).settled frame q below (record { from_one = from; in_game = omega (arith, to, players_known rules p journal) }))

said_input : (rules : Rules) (p : ℕ) (journal : List Record) (q frame : ℕ) → IsPlayer rules q
    → input_of (player_in (known_of rules p journal) q) frame ≡ input_of (said_of rules q journal) frame
said_input rules p journal q frame plays = ap (λ (v : PlayerValue). input_of v frame) (player_known rules p q journal plays.from_one plays.in_game)

sets_agree : (rules : Rules) (room : ℕ) (J : ℕ → List Record) (p r frame q : ℕ) → AreInRange rules → AreSound rules room J
    → IsPlayer rules p → IsPlayer rules r → has_leave p (J 1) ≡ false → has_leave r (J 1) ≡ false
    → frame < confirmed (known_of rules p (J p)) → frame < confirmed (known_of rules r (J r)) → 1 ≤ q
    → or_empty (input_of (player_in (known_of rules p (J p)) q) frame) ≡ or_empty (input_of (player_in (known_of rules r (J r)) q) frame)
sets_agree rules room J p r frame q range sound p_plays r_plays p_stays r_stays p_below r_below from =
    elim (cases_lt rules.players q) [
      | inl past ↦
          let p_none : player_in (known_of rules p (J p)) q ≡ nobody =
          nobody_past (known_of rules p (J p)) q (omega (arith, past, players_known rules p (J p))) in
          let r_none : player_in (known_of rules r (J r)) q ≡ nobody =
          nobody_past (known_of rules r (J r)) q (omega (arith, past, players_known rules r (J r))) in
          ap (λ (v : PlayerValue). or_empty (input_of v frame)) (p_none ∙ sym r_none)
      | inr in_game ↦
          let q_plays : IsPlayer rules q = record { from_one = from; in_game = in_game } in
          let a = confirmed_input rules p (J p) q frame q_plays p_below in
          let b = confirmed_input rules r (J r) q frame q_plays r_below in
          let same : a.0 ≡ b.0 = inputs_agree rules room J p r q frame a.0 b.0 range sound p_plays r_plays q_plays p_stays r_stays
          (sym (said_input rules p (J p) q frame q_plays) ∙ a.1) (sym (said_input rules r (J r) q frame q_plays) ∙ b.1) in
          ap or_empty (a.1 ∙ ap Some same ∙ sym b.1)
    ]

pub rows_agree : (rules : Rules) (room : ℕ) (J : ℕ → List Record) (p r n : ℕ) → AreInRange rules → AreSound rules room J
    → IsPlayer rules p → IsPlayer rules r → has_leave p (J 1) ≡ false → has_leave r (J 1) ≡ false
    → n ≤ confirmed (known_of rules p (J p)) → n ≤ confirmed (known_of rules r (J r))
    → rows_below (known_of rules p (J p)) n ≡ rows_below (known_of rules r (J r)) n
rows_agree rules room J p r n range sound p_plays r_plays p_stays r_stays p_counts r_counts =
    let a : KnownValue = known_of rules p (J p) in
    let b : KnownValue = known_of rules r (J r) in
    map_same (row a) (row b) 0 n (λ frame below.
    let p_below : frame < confirmed a = omega (arith, below, p_counts) in
    let r_below : frame < confirmed b = omega (arith, below, r_counts) in
    let set = λ (q : ℕ) (from : 1 ≤ q). sets_agree rules room J p r frame q range sound p_plays r_plays p_stays r_stays p_below r_below from in
    same_row (λ q. or_empty (input_of (player_in a q) frame)) (λ q. or_empty (input_of (player_in b q) frame))
    (set 1 (omega arith)) (set 2 (omega arith)) (set 3 (omega arith)) (set 4 (omega arith)))

pub same_up_to : (rules : Rules) (a b : KnownValue) (n : ℕ) → rows_below a n ≡ rows_below b n → AreSameUpTo rules a b n
same_up_to rules a b n rows = record { rows = rows; machine = ap (λ (all : List Row). serial rules all) rows }

-- what was confirmed at an earlier moment is confirmed now
grown_rows : (rules : Rules) (room : ℕ) (J J' : ℕ → List Record) (p n : ℕ) → AreInRange rules → AreSound rules room J' → Grown rules J J'
    → IsPlayer rules p
    → n ≤ confirmed (known_of rules p (J p)) → (n ≤ confirmed (known_of rules p (J' p)))
    × (rows_below (known_of rules p (J' p)) n ≡ rows_below (known_of rules p (J p)) n)
grown_rows rules room J J' p n range sound grown plays counts =
    let begins : Begins (J p) (J' p) = grown p plays in
    let valid : IsJournal rules p room (J p ++ begins.rest) =
    subst (λ (journal : List Record). IsJournal rules p room journal) begins.is (sound.valid p plays) in
    let rises = confirmed_rises (known_of rules p (J p)) (known_of rules p (J p ++ begins.rest))
    (journal_grows rules p room (J p) begins.rest range plays.from_one plays.in_game valid) in
    let rows = confirmed_stays rules p room n (J p) begins.rest range plays.from_one plays.in_game valid counts in
    subst (λ (journal : List Record). (n ≤ confirmed (known_of rules p journal))
    × (rows_below (known_of rules p journal) n ≡ rows_below (known_of rules p (J p)) n)) (sym begins.is)
    (omega (arith, counts, rises), rows)

-- two moments
pub moments_agree : (rules : Rules) (room : ℕ) (J J' : ℕ → List Record) (p r n : ℕ) → AreInRange rules → AreSound rules room J' → Grown rules J J'
    → IsPlayer rules p → IsPlayer rules r → has_leave p (J' 1) ≡ false → has_leave r (J' 1) ≡ false
    → n ≤ confirmed (known_of rules p (J p)) → n ≤ confirmed (known_of rules r (J' r))
    → AreSameUpTo rules (known_of rules p (J p)) (known_of rules r (J' r)) n
moments_agree rules room J J' p r n range sound grown p_plays r_plays p_stays r_stays p_counts r_counts =
    let now = grown_rows rules room J J' p n range sound grown p_plays p_counts in
    same_up_to rules (known_of rules p (J p)) (known_of rules r (J' r)) n
    (sym now.1 ∙ rows_agree rules room J' p r n range sound p_plays r_plays p_stays r_stays now.0 r_counts)

-- ---- inputs were entered

pub input_entered : (rules : Rules) (room : ℕ) (J J' : ℕ → List Record) (p q frame word : ℕ) → AreInRange rules → AreSound rules room J
    → Grown rules J J'
    → IsPlayer rules p → IsPlayer rules q → input_of (said_of rules q (J p)) frame ≡ Some word
    → (slice_get (held rules q (J' q)) frame ≡ Some word) ⊎ ((word ≡ 0) × (K : ℕ) × (cut_of q (J' 1) ≡ Some K) × (K ≤ frame))
input_entered rules room J J' p q frame word range sound grown p_plays q_plays is =
    ⊎_elim
    (λ holds. inl (begins_get (held rules q (J q)) (held rules q (J' q)) frame word (held_grown rules q (J q) (J' q) (grown q q_plays))
    (begins_get (held rules q (J p)) (held rules q (J q)) frame word (sound.begins p q p_plays q_plays) holds)))
    (λ past. inr (
      past.empty,
      past.cut,
      cut_grown q past.cut (J 1) (J' 1) (grown 1 (player_one rules range))
          (sound.cuts p q past.cut p_plays past.stands),
      past.past,
    ))
    (input_is (said_of rules q (J p)) frame word is)

pub confirmed_entered : (rules : Rules) (room : ℕ) (J J' : ℕ → List Record) (p q frame : ℕ) → AreInRange rules → AreSound rules room J
    → Grown rules J J'
    → IsPlayer rules p → IsPlayer rules q → frame < confirmed (known_of rules p (J p))
    → (word : ℕ) × (input_of (player_in (known_of rules p (J p)) q) frame ≡ Some word)
    × ((slice_get (held rules q (J' q)) frame ≡ Some word) ⊎ ((word ≡ 0) × (K : ℕ) × (cut_of q (J' 1) ≡ Some K) × (K ≤ frame)))
confirmed_entered rules room J J' p q frame range sound grown p_plays q_plays below =
    let a = confirmed_input rules p (J p) q frame q_plays below in
    (a.0, a.1, input_entered rules room J J' p q frame a.0 range sound grown p_plays q_plays (sym (said_input rules p (J p) q frame q_plays) ∙ a.1))
