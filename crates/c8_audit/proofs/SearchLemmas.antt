-- The least fault, with one more player.
use Rattle.std.proofs.Common.{◌≡◌, ℕ, ◌+◌, ◌<◌, ◌≤◌, ◌⊎◌, inl, inr, ⊎_elim, Bool, true, false, Option, Some, None, refl, sym, subst, ◌∙◌, arith}
use Rattle.std.specs.Prelude.{nat_le, if◌then◌else◌}
use Rattle.std.proofs.lemmas.Bool.{cases_lt, leb-true, leb-false}
use Rattle.c8_game.specs.Rules.{Rules}
use Rattle.c8_audit.specs.Journals.{AllSeen, AreOfGame}
use Rattle.c8_audit.specs.Verdicts.{IsUpTo}
use Rattle.c8_audit.specs.Search.{IsFault, IsFirstOf, IsLeastOf, IsLeastBelow, IsLeast, earlier_of}
use Rattle.c8_audit.specs.declared.fault.Fault.{Fault}
use Rattle.c8_audit.specs.declared.fault.Question.{Question}
use Rattle.c8_audit.specs.declared.fault.Question.TheVariants.{Entered, Agreed, Accused, Opposed}

-- below the next number: below this one, or it
below_next : (k n : ℕ) → k < n + 1 → (k < n) ⊎ (k ≡ n)
below_next k n below = elim (cases_lt k n) [ inl less ↦ inl less | inr more ↦ inr (omega (arith, below, more)) ]

-- not after means before, or at the same place
up_to : (f g : ℕ) → f ≤ g → (f < g) ⊎ (f ≡ g)
up_to f g le = elim (cases_lt f g) [ inl less ↦ inl less | inr more ↦ inr (omega (arith, le, more)) ]

-- ---- one player

least_of_both : (question : Question) (all : AllSeen) (one n : ℕ) (least found : Fault) (first : Bool) → nat_le least.frame found.frame ≡ first
    → IsLeastOf question all one n (Some least) → IsFirstOf question all one n (Some found)
    → IsLeastOf question all one (n + 1) (if first then Some least else Some found)
least_of_both question all one n least found true test before now =
    let order = leb-true least.frame found.frame test in
    let inside = before.1 in (
      before.0,
      omega (arith, inside),
      before.2,
      λ frame other below fault. ⊎_elim
          (λ less. before.3 frame other less fault)
          (λ here.
          let after = now.3 frame (subst (λ (x : ℕ). IsFault question all frame one x) here fault) in
          ⊎_elim (λ less. inl less) (λ same. inr (same, omega (arith, inside, here))) (up_to least.frame frame (omega (arith, order, after))))
          (below_next other n below),
    )
least_of_both question all one n least found false test before now =
    let order = leb-false least.frame found.frame test in
    let at = now.1 in (
      now.0,
      omega (arith, at),
      subst (λ (x : ℕ). IsFault question all found.frame one x) (sym at) now.2,
      λ frame other below fault. ⊎_elim
          (λ less. inl (⊎_elim (λ earlier. omega (arith, earlier, order)) (λ same. let frames = same.0 in omega (arith, frames, order))
          (before.3 frame other less fault)))
          (λ here.
          let after = now.3 frame (subst (λ (x : ℕ). IsFault question all frame one x) here fault) in
          ⊎_elim (λ less. inl less) (λ same. inr (same, omega (arith, at, here))) (up_to found.frame frame after))
          (below_next other n below),
    )

pub least_of_next : (question : Question) (all : AllSeen) (one n : ℕ) (least found : Option Fault) → IsLeastOf question all one n least
    → IsFirstOf question all one n found
    → IsLeastOf question all one (n + 1) (earlier_of least found)
least_of_next question all one n None None before now =
    λ frame other below fault. ⊎_elim (λ less. before frame other less fault)
    (λ here. now frame (subst (λ (x : ℕ). IsFault question all frame one x) here fault)) (below_next other n below)
least_of_next question all one n None (Some found) before now =
    let at = now.1 in (
      now.0,
      omega (arith, at),
      subst (λ (x : ℕ). IsFault question all found.frame one x) (sym at) now.2,
      λ frame other below fault. ⊎_elim
          (λ less. absurd (before frame other less fault))
          (λ here.
          let after = now.3 frame (subst (λ (x : ℕ). IsFault question all frame one x) here fault) in
          ⊎_elim (λ less. inl less) (λ same. inr (same, omega (arith, at, here))) (up_to found.frame frame after))
          (below_next other n below),
    )
least_of_next question all one n (Some least) None before now =
    let inside = before.1 in (
      before.0,
      omega (arith, inside),
      before.2,
      λ frame other below fault. ⊎_elim
          (λ less. before.3 frame other less fault)
          (λ here. absurd (now frame (subst (λ (x : ℕ). IsFault question all frame one x) here fault)))
          (below_next other n below),
    )
least_of_next question all one n (Some least) (Some found) before now =
    least_of_both question all one n least found (nat_le least.frame found.frame) refl before now

-- ---- all players

-- a least fault of one player comes up to any other fault of that player
up_to_own : (one other frame' other' : ℕ) (frame : ℕ) → (frame < frame') ⊎ ((frame ≡ frame') × (other ≤ other'))
    → IsUpTo frame one other frame' one other'
up_to_own one other frame' other' frame (inl less) = inl less
up_to_own one other frame' other' frame (inr same) = inr (same.0, inr (refl, same.1))

-- a fault that is not after another one, which is of a lower player
up_to_next : (frame one other frame' one' other' : ℕ) → frame ≤ frame' → one < one' → IsUpTo frame one other frame' one' other'
up_to_next frame one other frame' one' other' order lower = ⊎_elim (λ less. inl less) (λ same. inr (same, inl lower)) (up_to frame frame' order)

frames_up_to : (frame one other frame' one' other' : ℕ) → IsUpTo frame one other frame' one' other' → frame ≤ frame'
frames_up_to frame one other frame' one' other' (inl less) = omega (arith, less)
frames_up_to frame one other frame' one' other' (inr same) = let frames = same.0 in omega (arith, frames)

-- players in faults have numbers below 5
pub record AreBelowFive (question : Question) (all : AllSeen) : Type 0 where
  pub one : (frame one other : ℕ) → IsFault question all frame one other → one < 5
  pub other : (frame one other : ℕ) → IsFault question all frame one other → other < 5

pub below_five : (rules : Rules) (question : Question) (all : AllSeen) → AreOfGame rules all → AreBelowFive question all
below_five rules Entered all of_game =
    let four = of_game.at_most_four in
    record {
      one = λ frame one other fault. omega (arith, four, of_game.players one fault.own fault.own_given);
      other = λ frame one other fault. omega (arith, four, of_game.players other fault.by fault.by_given);
    }
below_five rules Agreed all of_game =
    let four = of_game.at_most_four in
    record {
      one = λ frame one other fault. omega (arith, four, of_game.players one fault.one fault.one_stays.given);
      other = λ frame one other fault. omega (arith, four, of_game.players other fault.other fault.other_stays.given);
    }
below_five rules Accused all of_game =
    let four = of_game.at_most_four in
    record {
      one = λ frame one other fault. omega (arith, four, of_game.players one fault.is.own fault.is.own_given);
      other = λ frame one other fault. omega (arith, four, of_game.players other fault.is.by fault.is.by_given);
    }
below_five rules Opposed all of_game =
    let four = of_game.at_most_four in
    record {
      one = λ frame one other fault. omega (arith, four, of_game.players one fault.is.one fault.is.one_stays.given);
      other = λ frame one other fault. omega (arith, four, of_game.players other fault.is.other fault.is.other_stays.given);
    }

-- the fault found for player n is not after any other fault of player n
own_up_to : (question : Question) (all : AllSeen) (n : ℕ) (found : Fault) → AreBelowFive question all → IsLeastOf question all n 5 (Some found)
    → (frame one other : ℕ) → one ≡ n → IsFault question all frame one other → IsUpTo found.frame found.one.number found.other.number frame one other
own_up_to question all n found five now frame one other here fault =
    subst (λ (x : ℕ). IsUpTo found.frame x found.other.number frame one other) (sym (now.0 ∙ sym here))
    (up_to_own one found.other.number frame other found.frame
    (now.3 frame other (five.other frame one other fault) (subst (λ (x : ℕ). IsFault question all frame x other) here fault)))

found_is : (question : Question) (all : AllSeen) (n : ℕ) (found : Fault) → IsLeastOf question all n 5 (Some found)
    → IsFault question all found.frame found.one.number found.other.number
found_is question all n found now = subst (λ (x : ℕ). IsFault question all found.frame x found.other.number) (sym now.0) now.2

below_both : (question : Question) (all : AllSeen) (n : ℕ) (least found : Fault) (first : Bool) → AreBelowFive question all
    → nat_le least.frame found.frame ≡ first
    → IsLeastBelow question all n (Some least) → IsLeastOf question all n 5 (Some found)
    → IsLeastBelow question all (n + 1) (if first then Some least else Some found)
below_both question all n least found true five test before now =
    let order = leb-true least.frame found.frame test in
    let inside = before.0 in (
      omega (arith, inside),
      before.1,
      λ frame one other below fault. ⊎_elim
          (λ less. before.2 frame one other less fault)
          (λ here.
          let after = frames_up_to found.frame found.one.number found.other.number frame one other
          (own_up_to question all n found five now frame one other here fault) in
          up_to_next least.frame least.one.number least.other.number frame one other (omega (arith, order, after)) (omega (arith, inside, here)))
          (below_next one n below),
    )
below_both question all n least found false five test before now =
    let order = leb-false least.frame found.frame test in
    let at = now.0 in (
      omega (arith, at),
      found_is question all n found now,
      λ frame one other below fault. ⊎_elim
          (λ less. inl (let after = frames_up_to least.frame least.one.number least.other.number frame one other
          (before.2 frame one other less fault) in omega (arith, order, after)))
          (λ here. own_up_to question all n found five now frame one other here fault)
          (below_next one n below),
    )

pub below_more : (question : Question) (all : AllSeen) (n : ℕ) (least found : Option Fault) → AreBelowFive question all
    → IsLeastBelow question all n least → IsLeastOf question all n 5 found
    → IsLeastBelow question all (n + 1) (earlier_of least found)
below_more question all n None None five before now =
    λ frame one other below fault. ⊎_elim
    (λ less. before frame one other less fault)
    (λ here. now frame other (five.other frame one other fault) (subst (λ (x : ℕ). IsFault question all frame x other) here fault))
    (below_next one n below)
below_more question all n None (Some found) five before now =
    let at = now.0 in (
      omega (arith, at),
      found_is question all n found now,
      λ frame one other below fault. ⊎_elim
          (λ less. absurd (before frame one other less fault))
          (λ here. own_up_to question all n found five now frame one other here fault)
          (below_next one n below),
    )
below_more question all n (Some least) None five before now =
    let inside = before.0 in (
      omega (arith, inside),
      before.1,
      λ frame one other below fault. ⊎_elim
          (λ less. before.2 frame one other less fault)
          (λ here. absurd (now frame other (five.other frame one other fault) (subst (λ (x : ℕ). IsFault question all frame x other) here fault)))
          (below_next one n below),
    )
below_more question all n (Some least) (Some found) five before now =
    below_both question all n least found (nat_le least.frame found.frame) five refl before now

-- the least of all players below 5 is the least of all
pub least_at_end : (question : Question) (all : AllSeen) (least : Option Fault) → AreBelowFive question all
    → IsLeastBelow question all 5 least → IsLeast question all least
least_at_end question all None five before = λ frame one other fault. before frame one other (five.one frame one other fault) fault
least_at_end question all (Some least) five before =
    (before.1, λ frame one other fault. before.2 frame one other (five.one frame one other fault) fault)
