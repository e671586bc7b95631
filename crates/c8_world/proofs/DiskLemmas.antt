-- How the disks were armed in a list of events, one more event at a time.
use Rattle.std.proofs.Common.{◌≡◌, inl, inr, ℕ, ◌<◌, Bool, true, false, nat_eq, List, [], ◌∷◌, ◌++◌, length, take, drop, ◌+◌}
use Rattle.std.proofs.Common.{slice_index_or, refl, sym, ap, ◌∙◌}
use Rattle.std.specs.Prelude.{if◌then◌else◌}
use Rattle.std.proofs.lemmas.List.{append_assoc, append-nil}
use Rattle.c8_disk.specs.declared.disk.Arm.{Arm}
use Rattle.c8_world.specs.declared.event.Event as asked
use Rattle.c8_world.specs.Agreement.{IsPlayer}
use Rattle.c8_world.specs.Table.{TableValue, IsSameMatch}
use Rattle.c8_world.specs.Disks.{Setting, setting_at, armed, KeepSettings, AreArmed, for_player, arms_by, arms_in, arms_taken_back, AreArmedOut}
use Rattle.c8_world.proofs.LifeLemmas.{one_more, here_split}

pub armed_none : (s : Setting) → s ≡ armed [] s
armed_none s = ap (λ (xs : List Arm). record s { arms = xs }) (sym (append-nil s.arms))

pub armed_twice : (a b : List Arm) (s : Setting) → armed b (armed a s) ≡ armed (a ++ b) s
armed_twice a b s = ap (λ (xs : List Arm). record s { arms = xs }) (append_assoc s.arms a b)

pub are_armed_none : (t : TableValue) → AreArmed (arms_in []) t t
are_armed_none t p plays = armed_none (setting_at t p)

pub are_armed_more : (old mid new : TableValue) (a b : ℕ → List Arm) → IsSameMatch old mid → AreArmed a old mid → AreArmed b mid new
    → AreArmed (λ p. a p ++ b p) old new
are_armed_more old mid new a b same first last p plays =
    let still : IsPlayer mid.rules p = rw same.rules plays in
    last p still ∙ ap (λ (s : Setting). armed (b p) s) (first p plays) ∙ armed_twice (a p) (b p) (setting_at old p)

pub arms_more : (events : List asked.Event) (event : asked.Event) (p : ℕ) → arms_in (events ++ event ∷ []) p ≡ arms_in events p ++ arms_by event p
arms_more [] event p = append-nil (arms_by event p)
arms_more (first ∷ events) event p = ap (λ (xs : List Arm). arms_by first p ++ xs) (arms_more events event p)
    ∙ sym (append_assoc (arms_by first p) (arms_in events p) (arms_by event p))

-- one disk is armed, an act arms none, and then that disk is armed again
told_both : (a b : Arm) (x : Bool) → (if x then a ∷ [] else []) ++ (if x then b ∷ [] else []) ≡ (if x then a ∷ b ∷ [] else [])
told_both a b true = refl
told_both a b false = refl

pub are_armed_round : (old armed acted new : TableValue) (player : ℕ) (a b : Arm) → IsSameMatch old armed → IsSameMatch armed acted
    → AreArmed (for_player player (a ∷ [])) old armed → KeepSettings armed acted
    → AreArmed (for_player player (b ∷ [])) acted new → AreArmed (for_player player (a ∷ b ∷ [])) old new
are_armed_round old mid acted new player a b first last begins keeps ends p plays =
    let then_plays : IsPlayer mid.rules p = rw first.rules plays in
    let still_plays : IsPlayer acted.rules p = rw last.rules then_plays in
    ends p still_plays ∙ ap (λ (s : Setting). armed (for_player player (b ∷ []) p) s) (keeps p then_plays ∙ begins p plays)
    ∙ armed_twice (for_player player (a ∷ []) p) (for_player player (b ∷ []) p) (setting_at old p)
    ∙ ap (λ (xs : List Arm). armed xs (setting_at old p)) (told_both a b (nat_eq p player))

-- one more event of those that are run
pub are_armed_next : (old mid new : TableValue) (events : List asked.Event) (i : ℕ) (event : asked.Event) → i < length events
    → event ≡ slice_index_or events i event → IsSameMatch old mid
    → AreArmed (arms_in (take i events)) old mid → AreArmed (arms_by event) mid new → AreArmed (arms_in (take (i + 1) events)) old new
are_armed_next old mid new events i event within is same first last p plays =
    are_armed_more old mid new (arms_in (take i events)) (arms_by event) same first last p plays
    ∙ ap (λ (xs : List Arm). armed xs (setting_at old p))
    (sym (arms_more (take i events) event p) ∙ ap (λ (xs : List asked.Event). arms_in xs p) (sym (one_more events i event within is)))

-- memory was refused at an event
pub are_armed_out : (old mid new : TableValue) (events : List asked.Event) (i : ℕ) (event : asked.Event) → i < length events
    → event ≡ slice_index_or events i event → IsSameMatch old mid
    → AreArmed (arms_in (take i events)) old mid → AreArmed (arms_taken_back event) mid new → AreArmedOut events old new
are_armed_out old mid new events i event within is same first last = record {
  before = take i events;
  after = event ∷ drop (i + 1) events;
  at = here_split events i event within is;
  armed = inr (event, drop (i + 1) events, refl, are_armed_more old mid new (arms_in (take i events)) (arms_taken_back event) same first last);
}

-- memory was refused for the report
pub are_armed_out_first : (t : TableValue) (events : List asked.Event) → AreArmedOut events t t
are_armed_out_first t events = record { before = []; after = events; at = refl; armed = inl (are_armed_none t) }
