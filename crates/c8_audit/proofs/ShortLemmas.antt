-- When an answer is yes, and which journal it names if it is short.
use Rattle.std.proofs.Common.{◌≡◌, ℕ, ◌<◌, ◌≤◌, ◌⊎◌, inl, inr, ⊎_elim, Option, Some, None, sym, ap, subst, ◌∙◌}
use Rattle.std.proofs.lemmas.Bool.{cases_lt}
use Rattle.c8_game.specs.Rules.{Rules}
use Rattle.c8_game.specs.declared.row.Player.{Player}
use Rattle.c8_known.specs.Known.{player_in, count_in}
use Rattle.c8_known.specs.Confirmed.{input_of, confirmed}
use Rattle.c8_audit.specs.Frames.{IsBelied, IsFirstBelied}
use Rattle.c8_audit.specs.Journals.{Seen, AllSeen, IsGiven, AreOfGame, cut_in}
use Rattle.c8_audit.specs.Search.{IsFirstFrame, IsLeast}
use Rattle.c8_audit.specs.Verdicts.{IsEntered, AreEntered, IsFirstUnentered, LacksCut, IsAccused}
use Rattle.c8_audit.specs.Verdicts.{AreAgreed, IsDifference, IsAhead, HasLength, IsShort, IsUndecided}
use Rattle.c8_audit.specs.declared.fault.Fault.{Fault}
use Rattle.c8_audit.specs.declared.fault.Question.TheVariants.{Entered, Agreed, Accused, Opposed}
use Rattle.c8_audit.specs.declared.fault.Short.{Short}
use Rattle.c8_audit.proofs.AgreedLemmas.{agreed_without}
use Rattle.c8_audit.proofs.EnteredLemmas.{entered_without}

some_same : {X : Type 0} (x y : X) → Some x ≡ Some y → x ≡ y
some_same x y same = cc

pub yes_entered : (rules : Rules) (all : AllSeen) (least : Option Fault) → AreOfGame rules all → IsLeast Entered all least → least ≡ None
    → AreEntered all
yes_entered rules all None of_game is none = entered_without rules all of_game is
yes_entered rules all (Some fault) of_game is none = absurd cc

pub yes_agreed : (all : AllSeen) (least : Option Fault) → IsLeast Agreed all least → least ≡ None → (rules : Rules) → AreAgreed rules all
yes_agreed all None is none rules = agreed_without rules all is
yes_agreed all (Some fault) is none rules = absurd cc

pub first_entered : (all : AllSeen) (least : Option Fault) (fault : Fault) → IsLeast Entered all least → least ≡ Some fault
    → IsFirstUnentered all fault.frame fault.one.number fault.other.number
first_entered all None fault is some = absurd cc
first_entered all (Some least) fault is some =
    subst (λ (f : Fault). IsFirstUnentered all f.frame f.one.number f.other.number) (some_same least fault some)
    (record { is = is.0; least = is.1 })

pub a_difference : (all : AllSeen) (least : Option Fault) (fault : Fault) → IsLeast Agreed all least → least ≡ Some fault
    → IsDifference all fault.frame fault.one.number fault.other.number
a_difference all None fault is some = absurd cc
a_difference all (Some least) fault is some =
    subst (λ (f : Fault). IsDifference all f.frame f.one.number f.other.number) (some_same least fault some) is.0

-- the length of the list of a player who is not accused
ends_before : (all : AllSeen) (frame q p length : ℕ) (first : IsFirstUnentered all frame q p) → (IsAccused all frame q p → ⊥)
    → (LacksCut all first.is.by q frame → ⊥) → HasLength all q length → length ≤ frame
ends_before all frame q p length first nobody decided has =
    elim (cases_lt frame length) [
      | inl less ↦
          let same : has.seen ≡ first.is.own = some_same has.seen first.is.own (sym has.given.is ∙ first.is.own_given.is) in
          let more : frame < count_in first.is.own.later q =
          subst (λ (n : ℕ). frame < n) (has.is ∙ ap (λ (s : Seen). count_in s.later q) same) less in
          absurd (nobody (record { is = first.is; has = more; decided = decided }))
      | inr more ↦ more
    ]

pub short_by : (all : AllSeen) (least : Option Fault) (first : Fault) (player : Player) (short : Short) → IsLeast Accused all least → least ≡ None
    → (is : IsFirstUnentered all first.frame first.one.number first.other.number)
    → ((by : Seen) → IsGiven all first.other.number by
    → (LacksCut all by first.one.number first.frame × (player.number ≡ 1))
    ⊎ ((LacksCut all by first.one.number first.frame → ⊥) × (player ≡ first.one)))
    → short.player ≡ player → HasLength all player.number short.length → IsShort all short.player.number short.length
short_by all (Some fault) first player short nobody none is ends same has = absurd cc
short_by all None first player short nobody none is ends same has =
    let number : short.player.number ≡ player.number = ap (λ (p : Player). p.number) same in
    record {
      nobody = nobody;
      frame = first.frame;
      q = first.one.number;
      p = first.other.number;
      first = is;
      end = ⊎_elim
          (λ lacks. inl (lacks.0, number ∙ lacks.1))
          (λ own.
          let here : player.number ≡ first.one.number = ap (λ (p : Player). p.number) own.1 in
          inr (
            own.0,
            number ∙ here,
            ends_before all first.frame first.one.number first.other.number short.length is
                (nobody first.frame first.one.number first.other.number) own.0
                (subst (λ (p : ℕ). HasLength all p short.length) here has),
          ))
          (ends is.is.by is.is.by_given);
      length_is = subst (λ (p : ℕ). HasLength all p short.length) (sym number) has;
    }

pub undecided_by : (all : AllSeen) (least : Option Fault) (first : Fault) (player : Player) (short : Short) → IsLeast Opposed all least
    → least ≡ None → IsDifference all first.frame first.one.number first.other.number → player.number ≡ 1
    → short.player ≡ player → HasLength all player.number short.length → IsUndecided all short.player.number short.length
undecided_by all (Some fault) first player short nobody none is one same has = absurd cc
undecided_by all None first player short nobody none is one same has =
    let number : short.player.number ≡ player.number = ap (λ (p : Player). p.number) same in
    record {
      nobody = nobody;
      frame = first.frame;
      p = first.one.number;
      r = first.other.number;
      difference = is;
      one = number ∙ one;
      length_is = subst (λ (p : ℕ). HasLength all p short.length) (sym number) has;
    }

-- ---- two players

-- what two journals say of a frame, and what is known of them
belied_of : (all : AllSeen) (frame q p : ℕ) (by own : Seen) (cut : Option ℕ) → all p ≡ Some by → all q ≡ Some own → cut ≡ cut_in all q
    → IsAccused all frame q p → (frame < confirmed by.first) × IsBelied by.first cut own.later q frame
belied_of all frame q p by own cut by_is own_is cut_is accused =
    let one : accused.is.by ≡ by = some_same accused.is.by by (sym accused.is.by_given.is ∙ by_is) in
    let two : accused.is.own ≡ own = some_same accused.is.own own (sym accused.is.own_given.is ∙ own_is) in (
      subst (λ (s : Seen). frame < confirmed s.first) one accused.is.below,
      (
        λ entered. accused.is.never
            (subst (λ (s : Seen). IsEntered (cut_in all q) accused.is.own.later q frame (input_of (player_in s.first q) frame)) (sym one)
            (subst (λ (s : Seen). IsEntered (cut_in all q) s.later q frame (input_of (player_in by.first q) frame)) (sym two)
            (subst (λ (o : Option ℕ). IsEntered o own.later q frame (input_of (player_in by.first q) frame)) cut_is entered))),
        subst (λ (s : Seen). frame < count_in s.later q) two accused.has,
        λ lacks. accused.decided (subst (λ (s : Seen). count_in s.first q ≤ frame) (sym one) lacks.0, sym cut_is ∙ lacks.1),
      ),
    )

accused_of : (all : AllSeen) (frame q p : ℕ) (by own : Seen) (cut : Option ℕ) → 1 ≤ p → 1 ≤ q → all p ≡ Some by → all q ≡ Some own
    → cut ≡ cut_in all q → frame < confirmed by.first → IsBelied by.first cut own.later q frame → IsAccused all frame q p
accused_of all frame q p by own cut p_from q_from by_is own_is cut_is below belied = record {
  is = record {
    by = by;
    own = own;
    by_given = record { from_one = p_from; is = by_is };
    own_given = record { from_one = q_from; is = own_is };
    below = below;
    never = λ entered. belied.0
        (subst (λ (o : Option ℕ). IsEntered o own.later q frame (input_of (player_in by.first q) frame)) (sym cut_is) entered);
  };
  has = belied.1;
  decided = λ lacks. belied.2 (lacks.0, cut_is ∙ lacks.1);
}

pub accused_by : (all : AllSeen) (q p : ℕ) (by own : Seen) (cut first : Option ℕ) → 1 ≤ p → 1 ≤ q → all p ≡ Some by → all q ≡ Some own
    → cut ≡ cut_in all q → IsFirstBelied by.first cut own.later q first → IsFirstFrame Accused all q p first
accused_by all q p by own cut None p_from q_from by_is own_is cut_is none =
    λ frame accused. let both = belied_of all frame q p by own cut by_is own_is cut_is accused in none frame both.0 both.1
accused_by all q p by own cut (Some first) p_from q_from by_is own_is cut_is is = (
  accused_of all first q p by own cut p_from q_from by_is own_is cut_is is.0 is.1,
  λ frame accused. elim (cases_lt frame first) [
    | inl less ↦ absurd (is.2 frame less (belied_of all frame q p by own cut by_is own_is cut_is accused).1)
    | inr more ↦ more
  ],
)

-- a difference of two journals that are not ahead of player 1's
pub opposed_by : (all : AllSeen) (p r : ℕ) (first : Option ℕ) → IsFirstFrame Agreed all p r first
    → ((s : Seen) × IsGiven all p s × IsAhead all s.first → ⊥) → ((s : Seen) × IsGiven all r s × IsAhead all s.first → ⊥)
    → IsFirstFrame Opposed all p r first
opposed_by all p r None none one other = λ frame opposed. none frame opposed.is
opposed_by all p r (Some first) is one other = (
  record {
    is = is.0;
    one_decided = λ ahead. one (is.0.one, is.0.one_stays.given, ahead);
    other_decided = λ ahead. other (is.0.other, is.0.other_stays.given, ahead);
  },
  λ frame opposed. is.1 frame opposed.is,
)

-- what is known of a player is known of its journal
pub ahead_of : (all : AllSeen) (p : ℕ) (s : Seen) → all p ≡ Some s → (t : Seen) × IsGiven all p t × IsAhead all t.first → IsAhead all s.first
ahead_of all p s is other =
    subst (λ (t : Seen). IsAhead all t.first) (some_same other.0 s (sym other.1.is ∙ is)) other.2
