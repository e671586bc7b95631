-- An honest match is never accused, whenever its journals were read: each reading begins the journal of one world.
use Rattle.std.proofs.Common.{◌≡◌, ◌≢◌, ℕ, zero, suc, ◌^◌, ◌<◌, ◌≤◌, ◌⊎◌, inl, inr, ⊎_elim, List}
use Rattle.std.proofs.Common.{[], ◌∷◌, length, Bool, true, false, Option, Some, None, refl, sym, ap, subst}
use Rattle.std.proofs.Common.{◌∙◌, arith, if◌then◌else◌}
use Rattle.std.specs.Prelude.{nat_le, slice_index_or}
use Rattle.std.specs.List.{slice_get}
use Rattle.std.proofs.lemmas.Bool.{cases_eq, cases_lt, leb-true}
use Rattle.std.proofs.lemmas.Option.{slice_get-get_or, slice_get_within}
use Rattle.c8_game.specs.Rules.{Rules, AreInRange}
use Rattle.c8_roll.specs.Roll.{IsOnTheWay}
use Rattle.c8_known.specs.Journal.{Record, held, count, has_leave, cut_of}
use Rattle.c8_known.specs.Known.{PlayerValue, KnownValue, player_in, count_in, known_of, said_of}
use Rattle.c8_known.specs.Confirmed.{unless_held, past_cut, or_empty, input_of, confirmed, row}
use Rattle.c8_known.specs.Growth.{Begins}
use Rattle.c8_known.specs.checked.BeginsLaws.{begins_more, begins_get, begins_length}
use Rattle.c8_known.specs.checked.ConfirmedLaws.{confirmed_is, some_value, nobody_past, same_row}
use Rattle.c8_known.specs.checked.OneMore.{player_known}
use Rattle.c8_known.specs.checked.StartLaws.{players_known}
use Rattle.c8_record.specs.Allowed.{IsJournal}
use Rattle.c8_record.specs.checked.JournalLaws.{journal_known}
use Rattle.c8_peer.specs.Opening.{found}
use Rattle.c8_peer.specs.State.{State}
use Rattle.c8_peer.specs.TrueChecks.{HasTrueLast}
use Rattle.c8_world.specs.World.{World, peer_of, journal_of, IsReached}
use Rattle.c8_world.specs.Agreement.{IsPlayer}
use Rattle.c8_world.specs.checked.Below.{ArePeersLawful}
use Rattle.c8_world.proofs.Journals.{AreSound, player_one, held_grown, cut_grown, frozen_grown}
use Rattle.c8_world.proofs.Reached.{reached_sound}
use Rattle.c8_audit.specs.Journals.{Readings, Evidence, Seen, seen_of, seen_in, is_dropped, cut_in}
use Rattle.c8_audit.specs.Honest.{WasRead, IsHonestAtAnyMoments, AreBeginnings}
use Rattle.c8_audit.specs.Verdicts.{IsEntered, IsAccused, AreTrue, IsAhead, IsOpposed}
use Rattle.c8_audit.specs.checked.Below.{AreWorldsLawful}
use Rattle.c8_audit.proofs.AccusedLemmas.{of_reading, dropped_is, cut_is, plays_known}
use Rattle.c8_audit.proofs.FateLemmas.{Grows, all_grow, found_grows}
use Rattle.c8_audit.proofs.HonestLemmas.{reached_later, reached_regular, settled_at, settled_reached}
use Rattle.c8_audit.proofs.HonestLemmas.{settled_here, settled_there, adopt, adopt_reached}
use Rattle.c8_audit.proofs.HonestLemmas.{adopt_is}
use Rattle.c8_audit.proofs.StepLemmas.{moved_chain}

some_same : {X : Type 0} (x y : X) → Some x ≡ Some y → x ≡ y
some_same x y same = cc

-- ---- one input

-- an input is not held, but empty past a cut
record IsPast (p : PlayerValue) (frame word : ℕ) : Type 0 where
  cut : ℕ
  stands : p.cut ≡ Some cut
  past : cut ≤ frame
  empty : word ≡ 0
  unheld : length p.held ≤ frame

within_past : (b : Bool) (word : ℕ) → (if b then Some 0 else None) ≡ Some word → (b ≡ true) × (word ≡ 0)
within_past true word e = (refl, cc)
within_past false word e = absurd cc

none_long : {X : Type 0} (xs : List X) (i : ℕ) → slice_get xs i ≡ None → length xs ≤ i
none_long [] i e = omega arith
none_long (x ∷ xs) zero e = absurd cc
none_long (x ∷ xs) (suc i) e = omega (arith, none_long xs i e)

held_or_cut : (h c : Option ℕ) (frame word : ℕ) → unless_held h (past_cut c frame) ≡ Some word
    → (h ≡ Some word) ⊎ ((K : ℕ) × (c ≡ Some K) × (K ≤ frame) × (word ≡ 0) × (h ≡ None))
held_or_cut (Some input) c frame word e = inl e
held_or_cut None None frame word e = absurd cc
held_or_cut None (Some K) frame word e = let past = within_past (nat_le K frame) word e in inr (K, refl, leb-true K frame past.0, past.1, refl)

input_is : (p : PlayerValue) (frame word : ℕ) → input_of p frame ≡ Some word → (slice_get p.held frame ≡ Some word) ⊎ IsPast p frame word
unfolding input_of
input_is p frame word e =
    ⊎_elim
    (λ here. inl here)
    (λ past. inr (record { cut = past.0; stands = past.1; past = past.2; empty = past.3; unheld = none_long p.held frame past.4 }))
    (held_or_cut (slice_get p.held frame) p.cut frame word e)

-- a cut that is not missing
some_cut : (o : Option ℕ) → (o ≡ None → ⊥) → (K : ℕ) × (o ≡ Some K)
some_cut None never = absurd (never refl)
some_cut (Some K) never = (K, refl)

same_cut : (o : Option ℕ) (K L : ℕ) → o ≡ Some K → o ≡ Some L → K ≡ L
same_cut o K L one two = cc (one, two)

-- ---- the world whose journals the readings begin

module _ (rules : Rules) (room : ℕ) (e : Evidence) (honest : IsHonestAtAnyMoments rules room e) where
  choose : (p : ℕ) (o : Option Readings) → e p ≡ o
      → (finds : Bool) × ((r : Readings) → e p ≡ Some r → Begins r.later (found (peer_of honest.last p) finds))
  choose p None none = (false, λ r is. let both : None ≡ Some r = sym none ∙ is in absurd cc)
  choose p (Some s) is =
      let was = (honest.read p s is).later in (
        was.last_finds,
        λ r other. subst (λ (t : Readings). Begins t.later (found (peer_of honest.last p) was.last_finds))
            (some_same s r (sym is ∙ other)) was.stays,
      )

  pub beginnings : AreBeginnings rules room e
  beginnings =
      let was = (honest.read 1 honest.one honest.one_given).later in
      record {
        last = honest.last;
        reached = reached_later rules room was.at honest.last was.events was.answers was.reached was.until;
        one = honest.one;
        one_given = honest.one_given;
        finds = λ p. (choose p (e p) refl).0;
        plays = λ p r is. (honest.read p r is).plays;
        continues = λ p r is. (honest.read p r is).continues;
        begins = λ p r is. (choose p (e p) refl).1 r is;
      }

module _ (peers : ArePeersLawful) (rules : Rules) (room : ℕ) (e : Evidence) (range : AreInRange rules) (few : room < 2 ^ 64)
    (honest : AreBeginnings rules room e) where
  one_plays : IsPlayer rules 1
  one_plays = player_one rules range

  final : World
  final = adopt honest.last honest.finds rules.players

  final_reached : IsReached rules room final
  unfolding final
  final_reached = adopt_reached rules room honest.last honest.finds rules.players honest.reached (omega arith)

  sound : AreSound rules room (journal_of final)
  sound = (reached_sound peers rules room final range few final_reached).journals

  final_is : (p : ℕ) → IsPlayer rules p → journal_of final p ≡ found (peer_of honest.last p) (honest.finds p)
  unfolding final
  final_is p plays =
      adopt_is rules honest.last honest.finds rules.players p (reached_regular rules room p honest.last plays honest.reached).nodes (omega arith)
      plays.in_game plays

  later_begins : (p : ℕ) (r : Readings) → e p ≡ Some r → Begins r.later (journal_of final p)
  later_begins p r is = subst (λ (j : List Record). Begins r.later j) (sym (final_is p (honest.plays p r is))) (honest.begins p r is)

  first_begins : (p : ℕ) (r : Readings) → e p ≡ Some r → Begins r.first (journal_of final p)
  first_begins p r is = begins_more r.first r.later (journal_of final p) (honest.continues p r is) (later_begins p r is)

  -- a player who stays by player 1's second reading holds no more of a player than that reading's cut
  no_more_at_one : (q K : ℕ) → IsPlayer rules q → cut_of q (journal_of final 1) ≡ Some K → count rules q (journal_of final 1) ≤ K
  no_more_at_one q K plays cut =
      let known = journal_known rules 1 room (journal_of final 1) range one_plays.from_one one_plays.in_game (sound.valid 1 one_plays) in
      let said : player_in (known_of rules 1 (journal_of final 1)) q ≡ said_of rules q (journal_of final 1) =
      player_known rules 1 q (journal_of final 1) plays.from_one plays.in_game in
      let ends = (known.cuts q K (ap (λ (v : PlayerValue). v.cut) said ∙ cut)).count in
      let many : count rules q (journal_of final 1) ≡ K = sym (ap (λ (v : PlayerValue). length v.held) said) ∙ ends in
      omega (arith, many)

  no_more_elsewhere : (was : WasRead rules room honest.last 1 honest.one.later)
      (q K r : ℕ) → IsPlayer rules q → IsPlayer rules r → r ≢ 1 → cut_of q honest.one.later ≡ Some K
      → has_leave r honest.one.later ≡ false → count rules q (journal_of final r) ≤ K
  no_more_elsewhere was q K r q_plays r_plays other cut stays =
      let u : World = settled_at was.at 1 was.finds in
      let reached : IsReached rules room u = settled_reached rules room was.at 1 was.finds one_plays was.reached in
      let before : AreSound rules room (journal_of u) = (reached_sound peers rules room u range few reached).journals in
      let nodes = (reached_regular rules room 1 was.at one_plays was.reached).nodes in
      let at_one : journal_of u 1 ≡ honest.one.later =
      ap (λ (x : State). x.journal) (settled_here rules was.at 1 was.finds one_plays nodes) ∙ sym was.is in
      let at_r : journal_of u r ≡ journal_of was.at r =
      ap (λ (x : State). x.journal) (settled_there rules was.at 1 r was.finds one_plays r_plays other) in
      let frozen = before.decided q K r (ap (cut_of q) at_one ∙ cut) r_plays other (ap (has_leave r) at_one ∙ stays) in
      let moved = moved_chain rules room r Grows was.at honest.last was.events was.answers (all_grow rules room r) nodes r_plays was.until in
      let grown = moved.moved.grown in
      let kept : Begins (journal_of honest.last r) (journal_of final r) =
      subst (λ (j : List Record). Begins (journal_of honest.last r) j) (sym (final_is r r_plays))
      (found_grows (peer_of honest.last r) (honest.finds r)) in
      let begins : Begins (journal_of u r) (journal_of final r) =
      subst (λ (j : List Record). Begins j (journal_of final r)) (sym at_r)
      (begins_more (journal_of was.at r) (journal_of honest.last r) (journal_of final r) grown kept) in
      let still = frozen_grown rules q K (journal_of u r) (journal_of final r) begins frozen in
      let less = still.few in
      ⊎_elim
      (λ same. omega (arith, same, less))
      (λ decided.
      let there : cut_of q (journal_of final 1) ≡ Some K =
      cut_grown q K honest.one.later (journal_of final 1) (later_begins 1 honest.one honest.one_given) cut in
      let equal : decided.0 ≡ K = same_cut (cut_of q (journal_of final 1)) decided.0 K decided.1 there in
      let within = decided.2 in
      omega (arith, equal, within))
      (sound.frozen r q still.before still.rest r_plays still.is)

  no_more : (was : WasRead rules room honest.last 1 honest.one.later)
      (q K r : ℕ) → IsPlayer rules q → IsPlayer rules r → cut_of q honest.one.later ≡ Some K
      → has_leave r honest.one.later ≡ false
      → count rules q (journal_of final r) ≤ K
  no_more was q K r q_plays r_plays cut stays =
      elim (cases_eq r 1) [
        | inl same ↦ subst (λ (x : ℕ). count rules q (journal_of final x) ≤ K) (sym same)
            (no_more_at_one q K q_plays (cut_grown q K honest.one.later (journal_of final 1) (later_begins 1 honest.one honest.one_given) cut))
        | inr other ↦ no_more_elsewhere was q K r q_plays r_plays other cut stays
      ]

  -- an input that a reading holds is the one that its player entered
  entered_there : (p q frame word : ℕ) (r : Readings) → e p ≡ Some r → IsPlayer rules q → slice_get (held rules q r.first) frame ≡ Some word
      → slice_get (held rules q (journal_of final q)) frame ≡ Some word
  entered_there p q frame word r is q_plays holds =
      begins_get (held rules q (journal_of final p)) (held rules q (journal_of final q)) frame word
      (sound.begins p q (honest.plays p r is) q_plays)
      (begins_get (held rules q r.first) (held rules q (journal_of final p)) frame word
      (held_grown rules q r.first (journal_of final p) (first_begins p r is)) holds)

  -- a cut that a reading has is player 1's
  cut_there : (p q K : ℕ) (r : Readings) → e p ≡ Some r → cut_of q r.first ≡ Some K → cut_of q (journal_of final 1) ≡ Some K
  cut_there p q K r is cut =
      sound.cuts p q K (honest.plays p r is) (cut_grown q K r.first (journal_of final p) (first_begins p r is) cut)

  -- and if player 1's reading has a cut it is this one
  cut_here : (p q K : ℕ) (r : Readings) → e p ≡ Some r → cut_of q r.first ≡ Some K → (cut_of q honest.one.later ≡ None → ⊥)
      → cut_of q honest.one.later ≡ Some K
  cut_here p q K r is cut some =
      let has = some_cut (cut_of q honest.one.later) some in
      let there = cut_grown q has.0 honest.one.later (journal_of final 1) (later_begins 1 honest.one honest.one_given) has.1 in
      has.1 ∙ ap Some (same_cut (cut_of q (journal_of final 1)) has.0 K there (cut_there p q K r is cut))

  -- ---- entered

  said_by_one : (q : ℕ) → IsPlayer rules q → player_in (known_of rules 1 honest.one.later) q ≡ said_of rules q honest.one.later
  said_by_one q plays = player_known rules 1 q honest.one.later plays.from_one plays.in_game

  core_entered : (p q frame : ℕ) (by own : Readings) → e p ≡ Some by → e q ≡ Some own → frame < confirmed (known_of rules p by.first)
      → frame < count_in (known_of rules q own.later) q
      → ((count_in (known_of rules p by.first) q ≤ frame) × (cut_of q honest.one.later ≡ None) → ⊥)
      → IsEntered (cut_of q honest.one.later) (known_of rules q own.later) q frame (input_of (player_in (known_of rules p by.first) q) frame)
  core_entered p q frame by own by_is own_is below has decided =
      let plays = honest.plays q own own_is in
      let k : KnownValue = known_of rules p by.first in
      let said : player_in k q ≡ said_of rules q by.first = player_known rules p q by.first plays.from_one plays.in_game in
      let own_said : player_in (known_of rules q own.later) q ≡ said_of rules q own.later =
      player_known rules q q own.later plays.from_one plays.in_game in
      let input = some_value (input_of (player_in k q) frame) ((confirmed_is k).settled frame q below (plays_known rules p q by.first plays)) in
      let within : frame < length (held rules q own.later) =
      subst (λ (v : PlayerValue). frame < length v.held) own_said has in
      let entry : ℕ = slice_index_or (held rules q own.later) frame 0 in
      let own_has : slice_get (held rules q own.later) frame ≡ Some entry = slice_get-get_or (held rules q own.later) frame 0 within in
      let own_there : slice_get (held rules q (journal_of final q)) frame ≡ Some entry =
      begins_get (held rules q own.later) (held rules q (journal_of final q)) frame entry
      (held_grown rules q own.later (journal_of final q) (later_begins q own own_is)) own_has in
      ⊎_elim
      (λ holds.
      let there = entered_there p q frame input.0 by by_is plays (subst (λ (v : PlayerValue). slice_get v.held frame ≡ Some input.0) said holds) in
      let same : entry ≡ input.0 = some_same entry input.0 (sym own_there ∙ there) in
      record {
        word = input.0;
        is = input.1;
        entered = inl (ap (λ (v : PlayerValue). slice_get v.held frame) own_said ∙ own_has ∙ ap Some same);
      })
      (λ past.
      let cut = cut_here p q past.cut by by_is (sym (ap (λ (v : PlayerValue). v.cut) said) ∙ past.stands)
      (λ none. decided (past.unheld, none)) in
      record {
        word = input.0;
        is = input.1;
        entered = inr (past.empty, past.cut, cut, past.past);
      })
      (input_is (player_in k q) frame input.0 input.1)

  one_cut_is : (q : ℕ) → IsPlayer rules q → cut_in (seen_in rules e) q ≡ cut_of q honest.one.later
  one_cut_is q plays = cut_is rules e honest.one q honest.one_given ∙ ap (λ (v : PlayerValue). v.cut) (said_by_one q plays)

  pub never_accused : (frame q p : ℕ) → IsAccused (seen_in rules e) frame q p → ⊥
  never_accused frame q p accused =
      let by = of_reading rules e p accused.is.by accused.is.by_given in
      let own = of_reading rules e q accused.is.own accused.is.own_given in
      let plays = honest.plays q own.readings own.is in
      let cut = one_cut_is q plays in
      let is = core_entered p q frame by.readings own.readings by.is own.is
      (subst (λ (x : Seen). frame < confirmed x.first) by.seen accused.is.below)
      (subst (λ (x : Seen). frame < count_in x.later q) own.seen accused.has)
      (λ lacks. accused.decided (
        subst (λ (x : Seen). count_in x.first q ≤ frame) (sym by.seen) lacks.0,
        cut ∙ lacks.1,
      )) in
      accused.is.never
      (subst (λ (o : Option ℕ). IsEntered o accused.is.own.later q frame (input_of (player_in accused.is.by.first q) frame)) (sym cut)
      (subst (λ (x : Seen). IsEntered (cut_of q honest.one.later) accused.is.own.later q frame (input_of (player_in x.first q) frame)) (sym by.seen)
      (subst (λ (x : Seen). IsEntered (cut_of q honest.one.later) x.later q frame
      (input_of (player_in (known_of rules p by.readings.first) q) frame)) (sym own.seen) is)))

  -- ---- agreement

  one_leave_is : (q : ℕ) → IsPlayer rules q → is_dropped (seen_in rules e) q ≡ has_leave q honest.one.later
  one_leave_is q plays = dropped_is rules e honest.one q honest.one_given ∙ ap (λ (v : PlayerValue). v.leaving) (said_by_one q plays)

  -- a reading holds no input where another one is past player 1's cut
  never_past : (was : WasRead rules room honest.last 1 honest.one.later)
      (p q r frame word K : ℕ) (a b : Readings) → e p ≡ Some a → e r ≡ Some b → IsPlayer rules q
      → has_leave p honest.one.later ≡ false
      → slice_get (held rules q a.first) frame ≡ Some word → cut_of q b.first ≡ Some K → K ≤ frame
      → (cut_of q honest.one.later ≡ None → ⊥) → ⊥
  never_past was p q r frame word K a b a_is b_is q_plays stays holds cut past some =
      let one_cut = cut_here r q K b b_is cut some in
      let bound = no_more was q K p q_plays (honest.plays p a a_is) one_cut stays in
      let within = slice_get_within (held rules q a.first) frame word holds in
      let long = begins_length (held rules q a.first) (held rules q (journal_of final p))
      (held_grown rules q a.first (journal_of final p) (first_begins p a a_is)) in
      omega (arith, bound, within, long, past)

  core_input : (was : WasRead rules room honest.last 1 honest.one.later)
      (p q r frame x y : ℕ) (a b : Readings) → e p ≡ Some a → e r ≡ Some b → IsPlayer rules q
      → has_leave p honest.one.later ≡ false → has_leave r honest.one.later ≡ false
      → ((K : ℕ) → cut_of q a.first ≡ Some K → cut_of q honest.one.later ≡ None → ⊥)
      → ((K : ℕ) → cut_of q b.first ≡ Some K → cut_of q honest.one.later ≡ None → ⊥)
      → input_of (said_of rules q a.first) frame ≡ Some x → input_of (said_of rules q b.first) frame ≡ Some y → x ≡ y
  core_input was p q r frame x y a b a_is b_is q_plays p_stays r_stays a_decided b_decided at_a at_b =
      ⊎_elim
      (λ a_holds. ⊎_elim
      (λ b_holds.
      some_same x y (sym (entered_there p q frame x a a_is q_plays a_holds) ∙ entered_there r q frame y b b_is q_plays b_holds))
      (λ b_past. absurd (never_past was p q r frame x b_past.cut a b a_is b_is q_plays p_stays a_holds b_past.stands b_past.past
      (b_decided b_past.cut b_past.stands)))
      (input_is (said_of rules q b.first) frame y at_b))
      (λ a_past. ⊎_elim
      (λ b_holds. absurd (never_past was r q p frame y a_past.cut b a b_is a_is q_plays r_stays b_holds a_past.stands a_past.past
      (a_decided a_past.cut a_past.stands)))
      (λ b_past. a_past.empty ∙ sym b_past.empty)
      (input_is (said_of rules q b.first) frame y at_b))
      (input_is (said_of rules q a.first) frame x at_a)

  -- the input of a player in a confirmed frame
  confirmed_input : (p q frame : ℕ) (a : Readings) → IsPlayer rules q → frame < confirmed (known_of rules p a.first)
      → (word : ℕ) × (input_of (said_of rules q a.first) frame ≡ Some word)
  confirmed_input p q frame a plays below =
      let k : KnownValue = known_of rules p a.first in
      let has = some_value (input_of (player_in k q) frame) ((confirmed_is k).settled frame q below (plays_known rules p q a.first plays)) in
      (has.0, sym (ap (λ (v : PlayerValue). input_of v frame) (player_known rules p q a.first plays.from_one plays.in_game)) ∙ has.1)

  set_same : (was : WasRead rules room honest.last 1 honest.one.later) (p r frame q : ℕ) (a b : Readings) → e p ≡ Some a → e r ≡ Some b
      → has_leave p honest.one.later ≡ false → has_leave r honest.one.later ≡ false
      → ((x K : ℕ) → IsPlayer rules x → cut_of x a.first ≡ Some K → cut_of x honest.one.later ≡ None → ⊥)
      → ((x K : ℕ) → IsPlayer rules x → cut_of x b.first ≡ Some K → cut_of x honest.one.later ≡ None → ⊥)
      → frame < confirmed (known_of rules p a.first) → frame < confirmed (known_of rules r b.first) → 1 ≤ q
      → or_empty (input_of (player_in (known_of rules p a.first) q) frame) ≡ or_empty (input_of (player_in (known_of rules r b.first) q) frame)
  set_same was p r frame q a b a_is b_is p_stays r_stays a_decided b_decided a_below b_below from =
      elim (cases_lt rules.players q) [
        | inl past ↦
            let a_none = nobody_past (known_of rules p a.first) q (omega (arith, past, players_known rules p a.first)) in
            let b_none = nobody_past (known_of rules r b.first) q (omega (arith, past, players_known rules r b.first)) in
            ap (λ (v : PlayerValue). or_empty (input_of v frame)) (a_none ∙ sym b_none)
        | inr in_game ↦
            let plays : IsPlayer rules q = record { from_one = from; in_game = in_game } in
            let x = confirmed_input p q frame a plays a_below in
            let y = confirmed_input r q frame b plays b_below in
            let same = core_input was p q r frame x.0 y.0 a b a_is b_is plays p_stays r_stays (λ K. a_decided q K plays) (λ K. b_decided q K plays)
            x.1 y.1 in
            ap (λ (v : PlayerValue). or_empty (input_of v frame)) (player_known rules p q a.first plays.from_one plays.in_game)
            ∙ ap or_empty (x.1 ∙ ap Some same ∙ sym y.1)
            ∙ sym (ap (λ (v : PlayerValue). or_empty (input_of v frame)) (player_known rules r q b.first plays.from_one plays.in_game))
      ]

  core_rows : (was : WasRead rules room honest.last 1 honest.one.later) (p r frame : ℕ) (a b : Readings) → e p ≡ Some a → e r ≡ Some b
      → has_leave p honest.one.later ≡ false → has_leave r honest.one.later ≡ false
      → ((x K : ℕ) → IsPlayer rules x → cut_of x a.first ≡ Some K → cut_of x honest.one.later ≡ None → ⊥)
      → ((x K : ℕ) → IsPlayer rules x → cut_of x b.first ≡ Some K → cut_of x honest.one.later ≡ None → ⊥)
      → frame < confirmed (known_of rules p a.first) → frame < confirmed (known_of rules r b.first)
      → row (known_of rules p a.first) frame ≡ row (known_of rules r b.first) frame
  core_rows was p r frame a b a_is b_is p_stays r_stays a_decided b_decided a_below b_below =
      let set = λ (q : ℕ) (from : 1 ≤ q). set_same was p r frame q a b a_is b_is p_stays r_stays a_decided b_decided a_below b_below from in
      same_row (λ q. or_empty (input_of (player_in (known_of rules p a.first) q) frame))
      (λ q. or_empty (input_of (player_in (known_of rules r b.first) q) frame))
      (set 1 (omega arith)) (set 2 (omega arith)) (set 3 (omega arith)) (set 4 (omega arith))

  -- a journal that is not ahead has no cut that player 1's reading lacks
  not_ahead : (p : ℕ) (a : Readings) (s : Seen) → s ≡ seen_of rules p a → (IsAhead (seen_in rules e) s.first → ⊥)
      → (x K : ℕ) → IsPlayer rules x → cut_of x a.first ≡ Some K → cut_of x honest.one.later ≡ None → ⊥
  not_ahead p a s seen never x K plays cut none =
      never (
        x,
        K,
        plays.from_one,
        ap (λ (t : Seen). (player_in t.first x).cut) seen
            ∙ ap (λ (v : PlayerValue). v.cut) (player_known rules p x a.first plays.from_one plays.in_game) ∙ cut,
        one_cut_is x plays ∙ none,
      )

  pub never_opposed : (was : WasRead rules room honest.last 1 honest.one.later) (frame p r : ℕ) → IsOpposed (seen_in rules e) frame p r → ⊥
  never_opposed was frame p r opposed =
      let d = opposed.is in
      let a = of_reading rules e p d.one d.one_stays.given in
      let b = of_reading rules e r d.other d.other_stays.given in
      let p_plays = honest.plays p a.readings a.is in
      let r_plays = honest.plays r b.readings b.is in
      let same = core_rows was p r frame a.readings b.readings a.is b.is
      (sym (one_leave_is p p_plays) ∙ d.one_stays.undropped) (sym (one_leave_is r r_plays) ∙ d.other_stays.undropped)
      (not_ahead p a.readings d.one a.seen opposed.one_decided) (not_ahead r b.readings d.other b.seen opposed.other_decided)
      (subst (λ (x : Seen). frame < confirmed x.first) a.seen d.one_counts)
      (subst (λ (x : Seen). frame < confirmed x.first) b.seen d.other_counts) in
      d.rows (ap (λ (x : Seen). row x.first frame) a.seen ∙ same ∙ sym (ap (λ (x : Seen). row x.first frame) b.seen))

-- ---- checkpoints, and what is read

module _ (laws : AreWorldsLawful) (rules : Rules) (room : ℕ) (e : Evidence) (range : AreInRange rules) (few : room < 2 ^ 64)
    (honest : IsHonestAtAnyMoments rules room e) where
  pub journals_read : (p : ℕ) (r : Readings) → e p ≡ Some r → IsJournal rules p room r.first × IsJournal rules p room r.later
  journals_read p r is =
      let were = honest.read p r is in (
        subst (λ (j : List Record). IsJournal rules p room j) (sym were.first.is)
            (laws.journals rules room were.first.at p were.first.finds range few were.first.reached were.plays),
        subst (λ (j : List Record). IsJournal rules p room j) (sym were.later.is)
            (laws.journals rules room were.later.at p were.later.finds range few were.later.reached were.plays),
      )

  pub checks_true : AreTrue rules (seen_in rules e)
  checks_true p s given from last =
      let by = of_reading rules e p s given in
      let were = honest.read p by.readings by.is in
      let was = were.first in
      let w : World = settled_at was.at p was.finds in
      let reached : IsReached rules room w = settled_reached rules room was.at p was.finds were.plays was.reached in
      let nodes = (reached_regular rules room p was.at were.plays was.reached).nodes in
      let at : journal_of w p ≡ by.readings.first =
      ap (λ (x : State). x.journal) (settled_here rules was.at p was.finds were.plays nodes) ∙ sym was.is in
      let true_last : HasTrueLast rules p by.readings.first =
      subst (λ (j : List Record). HasTrueLast rules p j) at (laws.checks rules room w p range few reached were.plays).last in
      subst (λ (x : Seen). IsOnTheWay rules x.first from) (sym by.seen) (true_last from (subst (λ (x : Seen). x.last ≡ Some from) by.seen last))

pub never_opposed_at : (peers : ArePeersLawful) (rules : Rules) (room : ℕ) (e : Evidence) → AreInRange rules → room < 2 ^ 64
    → IsHonestAtAnyMoments rules room e → (frame p r : ℕ) → IsOpposed (seen_in rules e) frame p r → ⊥
unfolding beginnings
never_opposed_at peers rules room e range few honest =
    never_opposed peers rules room e range few (beginnings rules room e honest) (honest.read 1 honest.one honest.one_given).later
