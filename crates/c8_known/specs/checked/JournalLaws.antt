-- Checked, not believed: what a journal says with more records after it.
use Rattle.std.proofs.Common.{◌≡◌, ℕ, ◌||◌, ◌⊎◌, inl, inr, List, [], ◌∷◌, ◌++◌, Bool, true, false, Some, refl, sym, ap, ◌∙◌, append_assoc}
use Rattle.std.specs.Prelude.{◌==◌}
use Rattle.std.specs.List.{slice_get, flat_map, list_any}
use Rattle.std.proofs.lemmas.Bool.{or_parts}
use Rattle.std.proofs.lemmas.Grind.{flat_map-append}
use Rattle.std.proofs.lemmas.List.{append-nil}
use Rattle.std.proofs.lemmas.List.Folds.{list_any-append}
use Rattle.c8_game.specs.Rules.{Rules}
use Rattle.c8_known.specs.Journal.{Record, words_of, freezes, lets_go, cuts_of, epochs_of, held, epochs, had_epoch, has_freeze, has_leave, cut_of}
use Rattle.c8_known.specs.Growth.{Begins}

pub held_more : (rules : Rules) (q : ℕ) (journal more : List Record)
    → held rules q (journal ++ more) ≡ held rules q journal ++ flat_map (words_of q) more
unfolding held
held_more rules q journal more = rw (flat_map-append (words_of q) journal more)
    (sym (append_assoc _ (flat_map (words_of q) journal) (flat_map (words_of q) more)))

pub held_next : (rules : Rules) (q : ℕ) (journal : List Record) (r : Record) → held rules q (journal ++ r ∷ []) ≡ held rules q journal ++ words_of q r
held_next rules q journal r = held_more rules q journal (r ∷ []) ∙ ap (λ (words : List ℕ). held rules q journal ++ words) (append-nil (words_of q r))

pub held_begins : (rules : Rules) (q : ℕ) (journal more : List Record) → Begins (held rules q journal) (held rules q (journal ++ more))
held_begins rules q journal more = record { rest = flat_map (words_of q) more; is = held_more rules q journal more }

or_first : (a b : Bool) → a ≡ true → (a || b) ≡ true
or_first true b is = refl
or_first false b is = absurd cc

or_false : (b : Bool) → (b || false) ≡ b
or_false true = refl
or_false false = refl

pub leave_more : (q : ℕ) (journal more : List Record) → has_leave q (journal ++ more) ≡ has_leave q journal || list_any (lets_go q) more
unfolding has_leave
leave_more q journal more = list_any-append (lets_go q) journal more

pub leave_next : (q : ℕ) (journal : List Record) (r : Record) → has_leave q (journal ++ r ∷ []) ≡ has_leave q journal || lets_go q r
leave_next q journal r = leave_more q journal (r ∷ []) ∙ ap (λ (b : Bool). has_leave q journal || b) (or_false (lets_go q r))

pub leave_stays : (q : ℕ) (journal more : List Record) → has_leave q journal ≡ true → has_leave q (journal ++ more) ≡ true
leave_stays q journal more is = leave_more q journal more ∙ or_first (has_leave q journal) (list_any (lets_go q) more) is

-- a player that has not been dropped now had not been dropped before
pub had_stayed : (q : ℕ) (journal more : List Record) → has_leave q (journal ++ more) ≡ false → has_leave q journal ≡ false
had_stayed q journal more none = (or_parts (has_leave q journal) (list_any (lets_go q) more) (sym (leave_more q journal more) ∙ none)).0

pub freeze_more : (q : ℕ) (journal more : List Record) → has_freeze q (journal ++ more) ≡ has_freeze q journal || list_any (freezes q) more
unfolding has_freeze
freeze_more q journal more = list_any-append (freezes q) journal more

pub freeze_next : (q : ℕ) (journal : List Record) (r : Record) → has_freeze q (journal ++ r ∷ []) ≡ has_freeze q journal || freezes q r
freeze_next q journal r = freeze_more q journal (r ∷ []) ∙ ap (λ (b : Bool). has_freeze q journal || b) (or_false (freezes q r))

pub freeze_stays : (q : ℕ) (journal more : List Record) → has_freeze q journal ≡ true → has_freeze q (journal ++ more) ≡ true
freeze_stays q journal more is = freeze_more q journal more ∙ or_first (has_freeze q journal) (list_any (freezes q) more) is

pub epoch_stays : (number : ℕ) (journal more : List Record) → had_epoch number journal ≡ true → had_epoch number (journal ++ more) ≡ true
unfolding had_epoch epochs
epoch_stays number journal more is =
    rw (flat_map-append epochs_of journal more, list_any-append (λ epoch. epoch == number) (flat_map epochs_of journal) (flat_map epochs_of more))
    (or_first (list_any (λ epoch. epoch == number) (flat_map epochs_of journal)) (list_any (λ epoch. epoch == number) (flat_map epochs_of more)) is)

first_of : (xs ys : List ℕ) (K : ℕ) → slice_get xs 0 ≡ Some K → slice_get (xs ++ ys) 0 ≡ Some K
first_of [] ys K is = absurd cc
first_of (x ∷ xs) ys K is = is

pub cut_stays : (q K : ℕ) (journal more : List Record) → cut_of q journal ≡ Some K → cut_of q (journal ++ more) ≡ Some K
unfolding cut_of
cut_stays q K journal more is = rw (flat_map-append (cuts_of q) journal more)
    (first_of (flat_map (cuts_of q) journal) (flat_map (cuts_of q) more) K is)

-- a cut was there before, or the record makes it
old_or_new : (xs ys : List ℕ) (K : ℕ) → slice_get (xs ++ ys) 0 ≡ Some K → (slice_get xs 0 ≡ Some K) ⊎ (slice_get ys 0 ≡ Some K)
old_or_new [] ys K is = inr is
old_or_new (x ∷ xs) ys K is = inl is

pub cut_next : (q K : ℕ) (journal : List Record) (r : Record) → cut_of q (journal ++ r ∷ []) ≡ Some K
    → (cut_of q journal ≡ Some K) ⊎ (slice_get (cuts_of q r) 0 ≡ Some K)
unfolding cut_of
cut_next q K journal r is =
    old_or_new (flat_map (cuts_of q) journal) (cuts_of q r) K
    (sym (ap (λ (cuts : List ℕ). slice_get cuts 0)
    (flat_map-append (cuts_of q) journal (r ∷ [])
    ∙ ap (λ (more : List ℕ). flat_map (cuts_of q) journal ++ more) (append-nil (cuts_of q r)))) ∙ is)
