-- Runs of one peer join, and so do calls of one kind. The parts are seen, so that what a caller says of each joins too.
use Rattle.std.proofs.Common.{◌≡◌, ℕ, List, [], ◌∷◌, ◌++◌, Option, Some, refl, subst, sym, ◌∙◌, map, arith}
use Rattle.std.proofs.lemmas.List.{map-append}
use Rattle.std.proofs.lemmas.List.Elements.{All-nil, All-cons, All-append}
use Rattle.c8_game.specs.Rules.{Rules}
use Rattle.c8_disk.specs.declared.disk.Disk.{Ghosts}
use Rattle.c8_disk.specs.declared.error.DiskError.{DiskError}
use Rattle.c8_disk.specs.checked.RunLaws.{same_then}
use Rattle.c8_peer.specs.State.{State, Call, Reply}
use Rattle.c8_peer.specs.Steps.{DiskOutcome, Works}
use Rattle.c8_peer.specs.Peer.{PeerValue, IsAnswered, disk_outcome_of}
use Rattle.c8_peer.specs.Runs.{Deed, Does, IsDone, IsRun}
use Rattle.c8_session.specs.Runs.{does, HasRunOn, IsStopped}
use Rattle.c8_session.specs.Turns.{Doing, Drops, Cuts, Saves, doing, AreAnswered, HasDone, HasCalled, HasCalledOnce, HasTurned}

abbrev pub still : {D : Type 0} (disk : Ghosts D) (p : PeerValue D) → HasRunOn disk p p
still disk p = record {
  rules = refl;
  room = refl;
  me = refl;
  calls = [];
  answers = [];
  run = refl;
  disk_is = record { capacity = refl; arms = refl; no_fewer = omega arith };
}

-- a run under other names of the same game, match and player
pub run_of : (rules rules2 : Rules) (room room2 me me2 : ℕ) (s t : State) (deeds : List Deed) (answers : List (Option Reply))
    → rules2 ≡ rules → room2 ≡ room → me2 ≡ me
    → IsRun rules2 room2 me2 s deeds answers t → IsRun rules room me s deeds answers t
run_of rules rules2 room room2 me me2 s t deeds answers same_rules same_room same_me run =
    subst (λ (x : Rules). IsRun x room me s deeds answers t) same_rules
    (subst (λ (x : ℕ). IsRun rules2 x me s deeds answers t) same_room (subst (λ (x : ℕ). IsRun rules2 room2 x s deeds answers t) same_me run))

-- runs join, as c8_peer states it
abbrev pub RunsJoin : Type 0
RunsJoin = (rules : Rules) (room me : ℕ) (s t u : State) (deeds more : List Deed) (answers others : List (Option Reply))
    → IsRun rules room me s deeds answers t → IsRun rules room me t more others u
    → IsRun rules room me s (deeds ++ more) (answers ++ others) u

abbrev pub joined : {D : Type 0} (disk : Ghosts D) → RunsJoin → (first middle last : PeerValue D) → HasRunOn disk first middle
    → HasRunOn disk middle last → HasRunOn disk first last
joined disk join first middle last one two =
    let answers = one.answers ++ two.answers in
    let more = run_of first.rules middle.rules first.room middle.room first.me middle.me middle.state last.state (map does two.calls)
    two.answers one.rules one.room one.me two.run in
    record {
      rules = two.rules ∙ one.rules;
      room = two.room ∙ one.room;
      me = two.me ∙ one.me;
      calls = one.calls ++ two.calls;
      answers = answers;
      run =
          subst (λ (deeds : List Deed). IsRun first.rules first.room first.me first.state deeds answers last.state)
          (sym (map-append does one.calls two.calls))
          (join first.rules first.room first.me first.state middle.state last.state (map does one.calls) (map does two.calls) one.answers
          two.answers one.run more);
      disk_is = same_then disk first.disk middle.disk last.disk one.disk_is two.disk_is;
    }

-- one call
abbrev pub once : {D : Type 0} (disk : Ghosts D) (old new : PeerValue D) (call : Call) (reply : Reply) → IsAnswered disk old call reply new
    → IsDone old.rules old.room old.me old.state (Does call (disk_outcome_of reply)) (Some reply) new.state → HasRunOn disk old new
once disk old new call reply is deed = record {
  rules = is.same.rules;
  room = is.same.room;
  me = is.same.me;
  calls = (call, disk_outcome_of reply) ∷ [];
  answers = Some reply ∷ [];
  run = (new.state, deed, refl);
  disk_is = is.same.disk_is;
}

-- a saying, which does not change the peer
abbrev pub says : {D : Type 0} (disk : Ghosts D) (p : PeerValue D) (call : Call) (reply : Reply)
    → IsDone p.rules p.room p.me p.state (Does call Works) (Some reply) p.state → HasRunOn disk p p
says disk p call reply deed = record {
  rules = refl;
  room = refl;
  me = refl;
  calls = (call, Works) ∷ [];
  answers = Some reply ∷ [];
  run = (p.state, deed, refl);
  disk_is = record { capacity = refl; arms = refl; no_fewer = omega arith };
}

-- what stops the second part of a run stops both
pub stopped_after : {D : Type 0} (disk : Ghosts D) → RunsJoin → (first middle last : PeerValue D) (why : DiskError)
    → HasRunOn disk first middle → IsStopped disk middle last why → IsStopped disk first last why
stopped_after disk join first middle last why ran end = record {
  before = end.before;
  ran = joined disk join first middle end.before ran end.ran;
  call = end.call;
  reply = end.reply;
  answered = end.answered;
  refused = end.refused;
}

-- ---- calls of one kind

pub answered_then : {D : Type 0} (disk : Ghosts D) (one two : List (Call × DiskOutcome)) (old middle new : PeerValue D)
    → AreAnswered disk one old middle → AreAnswered disk two middle new → AreAnswered disk (one ++ two) old new
answered_then {D = D} disk [] two old middle new first then = subst (λ (p : PeerValue D). AreAnswered disk two p new) first then
answered_then disk (call ∷ one) two old middle new first then =
    (first.0, first.1, first.2, first.3, answered_then disk one two first.0 middle new first.4 then)

module _ {D : Type 0} (disk : Ghosts D) where
  abbrev pub done_still : (what : Doing) (p : PeerValue D) → HasDone disk what p p
  done_still what p = record { ran = still disk p; alike = All-nil (λ (call : Call × DiskOutcome). doing call.0 ≡ what) }

  abbrev pub done_joined : RunsJoin → (what : Doing) (first middle last : PeerValue D) → HasDone disk what first middle
      → HasDone disk what middle last → HasDone disk what first last
  done_joined join what first middle last one two = record {
    ran = joined disk join first middle last one.ran two.ran;
    alike = All-append (λ (call : Call × DiskOutcome). doing call.0 ≡ what) one.ran.calls two.ran.calls one.alike two.alike;
  }

  abbrev pub done_once : (old new : PeerValue D) (call : Call) (reply : Reply) → IsAnswered disk old call reply new
      → IsDone old.rules old.room old.me old.state (Does call (disk_outcome_of reply)) (Some reply) new.state → HasDone disk (doing call) old new
  done_once old new call reply is deed = record {
    ran = once disk old new call reply is deed;
    alike = All-cons (λ (c : Call × DiskOutcome). doing c.0 ≡ doing call) (call, disk_outcome_of reply) [] refl
        (All-nil (λ (c : Call × DiskOutcome). doing c.0 ≡ doing call));
  }

  -- ---- the same, each answered

  abbrev pub called_still : (what : Doing) (p : PeerValue D) → HasCalled disk what p p
  called_still what p = record { done = done_still what p; answered = refl }

  abbrev pub called_joined : RunsJoin → (what : Doing) (first middle last : PeerValue D) → HasCalled disk what first middle
      → HasCalled disk what middle last → HasCalled disk what first last
  called_joined join what first middle last one two = record {
    done = done_joined join what first middle last one.done two.done;
    answered = answered_then disk one.done.ran.calls two.done.ran.calls first middle last one.answered two.answered;
  }

  abbrev pub called_once : (old new : PeerValue D) (call : Call) (reply : Reply) → IsAnswered disk old call reply new
      → IsDone old.rules old.room old.me old.state (Does call (disk_outcome_of reply)) (Some reply) new.state → HasCalled disk (doing call) old new
  called_once old new call reply is deed =
      record { done = done_once old new call reply is deed; answered = (new, reply, is, refl, refl) }

  abbrev pub none_called : (what : Doing) (p : PeerValue D) → HasCalledOnce disk what p p
  none_called what p = (called_still what p, omega arith)

  -- ---- turns

  abbrev pub turned_still : (p : PeerValue D) → HasTurned disk p p
  turned_still p =
      record { dropped = p; cut = p; drops = called_still Drops p; cuts = called_still Cuts p; saves = none_called Saves p }

  pub turned_ran : RunsJoin → (old new : PeerValue D) → HasTurned disk old new → HasRunOn disk old new
  turned_ran join old new turned =
      joined disk join old turned.dropped new turned.drops.done.ran
      (joined disk join turned.dropped turned.cut new turned.cuts.done.ran turned.saves.0.done.ran)
