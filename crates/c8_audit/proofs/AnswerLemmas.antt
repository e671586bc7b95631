-- Yes, short and no exclude one another.
use Rattle.std.proofs.Common.{◌≡◌, ◌≢◌, ℕ, ◌<◌, inl, Some, refl, sym, ap, ◌∙◌, arith, slice_index_or}
use Rattle.std.specs.List.{slice_get}
use Rattle.std.proofs.lemmas.Option.{slice_get-get_or}
use Rattle.c8_game.specs.Rules.{Rules}
use Rattle.c8_known.specs.Known.{player_in, Plays}
use Rattle.c8_known.specs.Confirmed.{input_of}
use Rattle.c8_known.specs.checked.ConfirmedLaws.{confirmed_is, some_value}
use Rattle.c8_audit.specs.Journals.{AllSeen, AreOfGame}
use Rattle.c8_audit.specs.Verdicts.{IsAccused, AnswersEntered, AnswersAgreed, kind_of, HaveTwoInputs}
use Rattle.c8_audit.specs.declared.fault.Answer.{Answer}
use Rattle.c8_audit.specs.declared.fault.Answer.TheVariants.{Yes, Short, No}
use Rattle.c8_audit.proofs.GivenLemmas.{plays_first}
use Rattle.c8_audit.proofs.HonestFileLemmas.{never_unentered, never_different}

pub one_entered : (all : AllSeen) (a b : Answer) → AnswersEntered all a → AnswersEntered all b → kind_of a ≡ kind_of b
one_entered all Yes Yes is also = refl
one_entered all Yes (Short short) is also = absurd (never_unentered all is also.frame also.q also.p also.first.is)
one_entered all Yes (No fault) is also = absurd (never_unentered all is fault.frame fault.one.number fault.other.number also.is.is)
one_entered all (Short short) Yes is also = absurd (never_unentered all also is.frame is.q is.p is.first.is)
one_entered all (Short short) (Short other) is also = refl
one_entered all (Short short) (No fault) is also = absurd (is.nobody fault.frame fault.one.number fault.other.number also.is)
one_entered all (No fault) Yes is also = absurd (never_unentered all also fault.frame fault.one.number fault.other.number is.is.is)
one_entered all (No fault) (Short short) is also = absurd (also.nobody fault.frame fault.one.number fault.other.number is.is)
one_entered all (No fault) (No other) is also = refl

pub one_agreed : (rules : Rules) (all : AllSeen) (a b : Answer) → AnswersAgreed rules all a → AnswersAgreed rules all b → kind_of a ≡ kind_of b
one_agreed rules all Yes Yes is also = refl
one_agreed rules all Yes (Short short) is also = absurd (never_different rules all is also.frame also.p also.r also.difference)
one_agreed rules all Yes (No fault) is also =
    absurd (never_different rules all is fault.frame fault.one.number fault.other.number also.is.is)
one_agreed rules all (Short short) Yes is also = absurd (never_different rules all also is.frame is.p is.r is.difference)
one_agreed rules all (Short short) (Short other) is also = refl
one_agreed rules all (Short short) (No fault) is also = absurd (is.nobody fault.frame fault.one.number fault.other.number also.is)
one_agreed rules all (No fault) Yes is also =
    absurd (never_different rules all also fault.frame fault.one.number fault.other.number is.is.is)
one_agreed rules all (No fault) (Short short) is also = absurd (also.nobody fault.frame fault.one.number fault.other.number is.is)
one_agreed rules all (No fault) (No other) is also = refl

pub two_inputs : (rules : Rules) (all : AllSeen) (frame q p : ℕ) → AreOfGame rules all → (accused : IsAccused all frame q p)
    → HaveTwoInputs accused.is.by accused.is.own q frame
two_inputs rules all frame q p of_game accused =
    let u = accused.is in
    let plays : Plays u.by.first q =
    plays_first rules all p q u.by u.own of_game u.by_given.from_one u.own_given.from_one u.by_given.is u.own_given.is in
    let has = some_value (input_of (player_in u.by.first q) frame) ((confirmed_is u.by.first).settled frame q u.below plays) in
    let entry : ℕ = slice_index_or (player_in u.own.later q).held frame 0 in
    let own : slice_get (player_in u.own.later q).held frame ≡ Some entry = slice_get-get_or (player_in u.own.later q).held frame 0 accused.has in
    record {
      counted = has.0;
      counted_is = has.1;
      entered = entry;
      entered_is = own;
      apart = λ same. u.never (record { word = entry; is = has.1 ∙ ap Some same; entered = inl own });
    }
