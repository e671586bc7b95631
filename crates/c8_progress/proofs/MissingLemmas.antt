-- How many inputs of a player another can lack: no more than one datagram carries; for ExchangeLemmas.
use Rattle.std.proofs.Common.{◌≡◌, ℕ, ◌+◌, ◌-◌, ◌<◌, ◌≤◌, inl, inr, List, [], ◌∷◌, ◌++◌, length, true, false, None, refl, sym, subst, arith}
use Rattle.std.proofs.Common.{append_assoc}
use Rattle.std.proofs.lemmas.Bool.{cases_lt, both_ways}
use Rattle.std.proofs.lemmas.List.{append-nil}
use Rattle.std.proofs.lemmas.Option.{slice_get_past, slice_get-get_or}
use Rattle.c8_game.specs.Rules.{Rules, AreInRange}
use Rattle.c8_known.specs.Journal.{Record, Head, Epoch, Own, Got, Freeze, Leave, Cut, State, Check, ticks}
use Rattle.c8_known.specs.Known.{PlayerValue, KnownValue, player_in, count_in, known_of, with_record, IsKnown, Plays}
use Rattle.c8_known.specs.Confirmed.{input_of, is_settled_of, confirmed}
use Rattle.c8_known.specs.checked.ConfirmedLaws.{confirmed_is, confirmed_rises}
use Rattle.c8_record.specs.Allowed.{Past, past_of, IsAllowedAfter, IsJournal}
use Rattle.c8_record.specs.checked.JournalLaws.{known_more, journal_known, next_allowed, journal_begins, still_with}

-- no more frames are ticked than the window allows
abbrev pub IsWithinWindow : Rules → KnownValue → Type 0
IsWithinWindow rules k = k.ticks ≤ confirmed k + rules.window

-- What two players know in a reached world, if neither has cut the other's list: b holds of a what a has, and a of b.
pub record AreNear (rules : Rules) (a b : KnownValue) : Type 0 where
  pub a_sound : IsKnown a
  pub b_sound : IsKnown b
  pub a_delay : a.delay ≡ rules.delay
  pub b_delay : b.delay ≡ rules.delay
  pub a_plays : Plays b a.me
  pub b_plays : Plays a b.me
  pub a_uncut : (player_in b a.me).cut ≡ None
  pub b_uncut : (player_in a b.me).cut ≡ None
  pub a_window : IsWithinWindow rules a
  pub b_window : IsWithinWindow rules b
  pub known : count_in a b.me ≤ count_in b b.me

-- ---- a journal's ticks stay within the window

window_with : (rules : Rules) (room : ℕ) (past : Past) (r : Record) → IsKnown past.known → IsAllowedAfter rules room past r
    → IsWithinWindow rules past.known → IsWithinWindow rules (with_record past.known r)
window_with rules room past (Own player start word) known may was =
    let rises =
    confirmed_rises past.known (with_record past.known (Own player start word)) (still_with rules room past (Own player start word) known may) in
    let low = may.may.window in
    omega (arith, rises, low)
window_with rules room past (Head player form id named) known may was = was
window_with rules room past (Epoch player number form) known may was = was
window_with rules room past (Got player start words) known may was =
    let rises =
    confirmed_rises past.known (with_record past.known (Got player start words))
    (still_with rules room past (Got player start words) known may) in omega
    (arith, rises, was)
window_with rules room past (Freeze player) known may was =
    let rises =
    confirmed_rises past.known (with_record past.known (Freeze player)) (still_with rules room past (Freeze player) known may) in omega
    (arith, rises, was)
window_with rules room past (Leave player) known may was =
    let rises =
    confirmed_rises past.known (with_record past.known (Leave player)) (still_with rules room past (Leave player) known may) in omega
    (arith, rises, was)
window_with rules room past (Cut player cut start words) known may was =
    let rises =
    confirmed_rises past.known (with_record past.known (Cut player cut start words))
    (still_with rules room past (Cut player cut start words) known may) in omega (arith, rises, was)
window_with rules room past (State player frames piece words) known may was = was
window_with rules room past (Check player frames words) known may was = was

window_from : (rules : Rules) (me room : ℕ) (more journal : List Record) → AreInRange rules → 1 ≤ me → me ≤ rules.players
    → IsJournal rules me room (journal ++ more) → IsWithinWindow rules (known_of rules me journal)
    → IsWithinWindow rules (known_of rules me (journal ++ more))
window_from rules me room [] journal range from to is was =
    subst (λ (late : List Record). IsWithinWindow rules (known_of rules me late)) (sym (append-nil journal)) was
window_from rules me room (r ∷ more) journal range from to is was =
    let split : (journal ++ r ∷ []) ++ more ≡ journal ++ r ∷ more = append_assoc journal (r ∷ []) more in
    let may = next_allowed rules me room journal r more is in
    let known = journal_known rules me room journal range from to (journal_begins rules me room journal (r ∷ more) is) in
    let one : IsWithinWindow rules (known_of rules me (journal ++ r ∷ [])) =
    subst (IsWithinWindow rules) (sym (known_more rules me room journal r may)) (window_with rules room (past_of rules me journal) r known may was) in
    subst (λ (late : List Record). IsWithinWindow rules (known_of rules me late)) split
    (window_from rules me room more (journal ++ r ∷ []) range from to
    (subst (λ (late : List Record). IsJournal rules me room late) (sym split) is) one)

none_ticked : (rules : Rules) (me : ℕ) → (known_of rules me []).ticks ≡ 0
unfolding known_of ticks
none_ticked rules me = refl

pub journal_window : (rules : Rules) (me room : ℕ) (journal : List Record) → AreInRange rules → 1 ≤ me → me ≤ rules.players
    → IsJournal rules me room journal → IsWithinWindow rules (known_of rules me journal)
journal_window rules me room journal range from to is =
    let none = none_ticked rules me in
    window_from rules me room journal [] range from to is (omega (arith, none))

-- ---- confirmed frames need every uncut list

unsettled : (p : PlayerValue) → p.cut ≡ None → is_settled_of p (length p.held) ≡ false
unfolding input_of
unsettled p uncut = rw (slice_get_past p.held (length p.held) (omega arith), uncut) refl

pub confirmed_held : (k : KnownValue) (q : ℕ) → Plays k q → (player_in k q).cut ≡ None → confirmed k ≤ count_in k q
confirmed_held k q plays uncut =
    elim (cases_lt (count_in k q) (confirmed k)) [
      | inl past ↦ absurd
          (both_ways (is_settled_of (player_in k q) (count_in k q)) (unsettled (player_in k q) uncut)
          ((confirmed_is k).settled (count_in k q) q past plays))
      | inr within ↦ within
    ]

-- What p has entered and q lacks: no more than twice the window and the delay.
pub few_missing : (rules : Rules) (a b : KnownValue) → AreNear rules a b
    → count_in a a.me ≤ count_in b a.me + (rules.window + rules.delay) + (rules.window + rules.delay)
few_missing rules a b near =
    let a_held = confirmed_held a b.me near.b_plays near.b_uncut in
    let b_held = confirmed_held b a.me near.a_plays near.a_uncut in
    let a_own = near.a_sound.own in
    let b_own = near.b_sound.own in
    let a_window = near.a_window in
    let b_window = near.b_window in
    let a_delay = near.a_delay in
    let b_delay = near.b_delay in
    let known = near.known in
    omega (arith, a_held, b_held, a_own, b_own, a_window, b_window, a_delay, b_delay, known)

-- ---- who may tick

pub held_settled : (p : PlayerValue) (frame : ℕ) → frame < length p.held → is_settled_of p frame ≡ true
unfolding input_of
held_settled p frame within = rw (slice_get-get_or p.held frame 0 within) refl
