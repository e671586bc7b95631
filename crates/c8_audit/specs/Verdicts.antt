-- When each verdict of an audit is yes: the inputs in the journals were entered, the checkpoints are true, the players
-- agree. When it is no, and the least fault. And when it is short: a journal ends before what others hold of its player.
use Rattle.std.specs.Prelude.{◌≡◌, ◌≢◌, ℕ, ◌<◌, ◌≤◌, ◌⊎◌, Option, Some, None}
use Rattle.std.specs.List.{slice_get}
use Rattle.c8_game.specs.Rules.{Rules}
use Rattle.c8_digest.specs.Origin.{Origin}
use Rattle.c8_roll.specs.Roll.{IsOnTheWay}
use Rattle.c8_known.specs.Known.{KnownValue, player_in, count_in}
use Rattle.c8_known.specs.Confirmed.{input_of, confirmed, row}
use Rattle.c8_world.specs.Agreement.{AreSameUpTo}
use Rattle.c8_audit.specs.Journals.{Seen, AllSeen, IsGiven, cut_in, Stays}
use Rattle.c8_audit.specs.declared.fault.Answer.{Answer}
use Rattle.c8_audit.specs.declared.fault.Answer.TheVariants.{Yes, Short, No}

-- ---- entered

-- An input of player q in a frame was entered: it is what q's own journal has there, or empty from q's cut on.
pub record IsEntered (cut : Option ℕ) (own : KnownValue) (q frame : ℕ) (input : Option ℕ) : Type 0 where
  pub word : ℕ
  pub is : input ≡ Some word
  pub entered : (slice_get (player_in own q).held frame ≡ Some word) ⊎ ((word ≡ 0) × (K : ℕ) × (cut ≡ Some K) × (K ≤ frame))

-- Each input that a first reading counts as confirmed was entered, if the journal of its player is given: by the second
-- readings of that journal and of player 1's.
abbrev pub AreEntered : AllSeen → Type 0
AreEntered all = (p q frame : ℕ) (by own : Seen) → IsGiven all p by → IsGiven all q own → frame < confirmed by.first
    → IsEntered (cut_in all q) own.later q frame (input_of (player_in by.first q) frame)

-- player p's journal counts an input in a frame as confirmed that player q did not enter
pub record IsUnentered (all : AllSeen) (frame q p : ℕ) : Type 0 where
  pub by : Seen
  pub own : Seen
  pub by_given : IsGiven all p by
  pub own_given : IsGiven all q own
  pub below : frame < confirmed by.first
  pub never : IsEntered (cut_in all q) own.later q frame (input_of (player_in by.first q) frame) → ⊥

-- Player p's journal counts the input empty, since player q was dropped; but player 1's journal does not have the cut.
abbrev pub LacksCut : AllSeen → Seen → ℕ → ℕ → Type 0
LacksCut all by q frame = (count_in by.first q ≤ frame) × (cut_in all q ≡ None)

-- Player q is accused: it did not enter that input, and its own journal has another one in the frame.
pub record IsAccused (all : AllSeen) (frame q p : ℕ) : Type 0 where
  pub is : IsUnentered all frame q p
  pub has : frame < count_in is.own.later q
  pub decided : LacksCut all is.by q frame → ⊥

-- ---- checkpoints

-- the last checkpoint of each first reading is that of the serial run of its confirmed rows
abbrev pub AreTrue : Rules → AllSeen → Type 0
AreTrue rules all = (p : ℕ) (s : Seen) → IsGiven all p s → (from : Origin) → s.last ≡ Some from → IsOnTheWay rules s.first from

-- the last checkpoint of player p's journal is not
pub record IsUntrue (rules : Rules) (all : AllSeen) (p : ℕ) : Type 0 where
  pub seen : Seen
  pub given : IsGiven all p seen
  pub last : Origin
  pub last_is : seen.last ≡ Some last
  pub never : IsOnTheWay rules seen.first last → ⊥

-- ---- agreement

-- Each two players who were not dropped have the same inputs and the same machine, up to the frames that both count as
-- confirmed, by the first readings.
abbrev pub AreAgreed : Rules → AllSeen → Type 0
AreAgreed rules all = (p r : ℕ) (a b : Seen) → Stays all p a → Stays all r b
    → (n : ℕ) → n ≤ confirmed a.first → n ≤ confirmed b.first → AreSameUpTo rules a.first b.first n

-- players p and r were not dropped, and differ in a frame that both count as confirmed
pub record IsDifference (all : AllSeen) (frame p r : ℕ) : Type 0 where
  pub one : Seen
  pub other : Seen
  pub one_stays : Stays all p one
  pub other_stays : Stays all r other
  pub order : p < r
  pub one_counts : frame < confirmed one.first
  pub other_counts : frame < confirmed other.first
  pub rows : row one.first frame ≢ row other.first frame

-- a journal has a cut of a player, and player 1's journal does not
abbrev pub IsAhead : AllSeen → KnownValue → Type 0
IsAhead all k = (q K : ℕ) × (1 ≤ q) × ((player_in k q).cut ≡ Some K) × (cut_in all q ≡ None)

-- Players p and r are accused of a difference: player 1's journal has each cut that theirs have.
pub record IsOpposed (all : AllSeen) (frame p r : ℕ) : Type 0 where
  pub is : IsDifference all frame p r
  pub one_decided : IsAhead all is.one.first → ⊥
  pub other_decided : IsAhead all is.other.first → ⊥

-- every undropped player has confirmed N frames, and one of them no more
pub record IsLeastCount (all : AllSeen) (N : ℕ) : Type 0 where
  pub player : ℕ
  pub seen : Seen
  pub stays : Stays all player seen
  pub count : confirmed seen.first ≡ N
  pub least : (p : ℕ) (s : Seen) → Stays all p s → N ≤ confirmed s.first

-- ---- the least fault

-- the order of faults, by frame, then by the first player, then by the second one: the first fault is not after the
-- second
abbrev pub IsUpTo : ℕ → ℕ → ℕ → ℕ → ℕ → ℕ → Type 0
IsUpTo frame p r frame' p' r' = (frame < frame') ⊎ ((frame ≡ frame') × ((p < p') ⊎ ((p ≡ p') × (r ≤ r'))))

pub record IsFirstUnentered (all : AllSeen) (frame q p : ℕ) : Type 0 where
  pub is : IsUnentered all frame q p
  pub least : (frame' q' p' : ℕ) → IsUnentered all frame' q' p' → IsUpTo frame q p frame' q' p'

pub record IsFirstUntrue (rules : Rules) (all : AllSeen) (p : ℕ) : Type 0 where
  pub is : IsUntrue rules all p
  pub least : (p' : ℕ) → IsUntrue rules all p' → p ≤ p'

pub record IsFirstAccused (all : AllSeen) (frame q p : ℕ) : Type 0 where
  pub is : IsAccused all frame q p
  pub least : (frame' q' p' : ℕ) → IsAccused all frame' q' p' → IsUpTo frame q p frame' q' p'

pub record IsFirstOpposed (all : AllSeen) (frame p r : ℕ) : Type 0 where
  pub is : IsOpposed all frame p r
  pub least : (frame' p' r' : ℕ) → IsOpposed all frame' p' r' → IsUpTo frame p r frame' p' r'

-- ---- the answers

-- this many inputs of the player are in its own journal, by the second reading
pub record HasLength (all : AllSeen) (player length : ℕ) : Type 0 where
  pub seen : Seen
  pub given : IsGiven all player seen
  pub is : length ≡ count_in seen.later player

-- The journal that ends too early for an input that was not entered: player 1's, if it lacks the cut; otherwise that of
-- the input's player, which ends before the frame.
abbrev pub IsEnd : AllSeen → Seen → ℕ → ℕ → ℕ → ℕ → Type 0
IsEnd all by frame q player length =
    (LacksCut all by q frame × (player ≡ 1)) ⊎ ((LacksCut all by q frame → ⊥) × (player ≡ q) × (length ≤ frame))

-- Nobody is accused, but some inputs were not entered. The first of them names the journal that ends too early.
pub record IsShort (all : AllSeen) (player length : ℕ) : Type 0 where
  pub nobody : (frame q p : ℕ) → IsAccused all frame q p → ⊥
  pub frame : ℕ
  pub q : ℕ
  pub p : ℕ
  pub first : IsFirstUnentered all frame q p
  pub end : IsEnd all first.is.by frame q player length
  pub length_is : HasLength all player length

-- Nobody is accused, but two players differ. So player 1's journal lacks a cut.
pub record IsUndecided (all : AllSeen) (player length : ℕ) : Type 0 where
  pub nobody : (frame p r : ℕ) → IsOpposed all frame p r → ⊥
  pub frame : ℕ
  pub p : ℕ
  pub r : ℕ
  pub difference : IsDifference all frame p r
  pub one : player ≡ 1
  pub length_is : HasLength all player length

-- whether the inputs were entered
abbrev pub AnswersEntered : AllSeen → Answer → Type 0
AnswersEntered all Yes = AreEntered all
AnswersEntered all (Short short) = IsShort all short.player.number short.length
AnswersEntered all (No fault) = IsFirstAccused all fault.frame fault.one.number fault.other.number

-- whether the players agree
abbrev pub AnswersAgreed : Rules → AllSeen → Answer → Type 0
AnswersAgreed rules all Yes = AreAgreed rules all
AnswersAgreed rules all (Short short) = IsUndecided all short.player.number short.length
AnswersAgreed rules all (No fault) = IsFirstOpposed all fault.frame fault.one.number fault.other.number

-- which of the three answers it is
abbrev pub kind_of : Answer → ℕ
kind_of Yes = 0
kind_of (Short short) = 1
kind_of (No fault) = 2

-- Player p's journal counts an input of player q in the frame, and q's own journal has another one there.
pub record HaveTwoInputs (by own : Seen) (q frame : ℕ) : Type 0 where
  pub counted : ℕ
  pub counted_is : input_of (player_in by.first q) frame ≡ Some counted
  pub entered : ℕ
  pub entered_is : slice_get (player_in own.later q).held frame ≡ Some entered
  pub apart : counted ≢ entered
