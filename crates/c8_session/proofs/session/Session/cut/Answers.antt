-- Each cut lengthens the run of cuts, also one that is refused; a refusal of the disk stops it.
use Rattle.std.proofs.Common.{◌≡◌, ℕ, Result, Err, refl, ap, ◌∙◌}
use Rattle.c8_refusals.specs.declared.error.DecideError.{DecideError}
use Rattle.c8_refusals.specs.declared.error.DecideError.TheVariants as decides
use Rattle.c8_peer.specs.Peer.{disk_outcome_of}
use Rattle.c8_peer.specs.State.{Decide, Decided}
use Rattle.c8_session.specs.Turns.{Cuts}
use Rattle.c8_session.proofs.session.Session.cut.Goals as goal
use Rattle.c8_session.proofs.session.Session.cut.Goals.{
  in_default-via-in-None-1,
  in_default-via-in-Some+in-Err+in-NotLeaving-1,
  in_default-via-in-Some+in-Ok-1,
}

pub loop-number-init : goal.loop-number-init
loop-number-init g c = record { ran = c.doings_join.ensures.still Cuts c.args.self.now.peer; notes = refl }

pub loop-number-preserved : goal.loop-number-preserved
loop-number-preserved g c =
    let first = c.args.self.now.peer in
    let here = c.loop-number.self.peer in
    elim c.in_default.branch [
      | in_default-via-in-None-1 w ↦ record { ran = rw w.self-is c.loop-number.invariant.ran; notes = rw w.self-is c.loop-number.invariant.notes }
      | in_default-via-in-Some+in-Err+in-NotLeaving-1 w ↦ record {
        ran = rw w.self-is (c.doings_join.ensures.joined Cuts first here w.decide.new.self.peer c.loop-number.invariant.ran
            (c.doings_join.ensures.once here w.decide.new.self.peer (Decide w.in-Some.player.number) (Decided w.decide.result) tt
            w.decide.ensures.answered).0);
        notes = rw w.self-is (w.decide.ensures.notes ∙ c.loop-number.invariant.notes);
      }
      | in_default-via-in-Some+in-Ok-1 w ↦ record {
        ran = rw w.self-is (c.doings_join.ensures.joined Cuts first here w.decide.new.self.peer c.loop-number.invariant.ran
            (c.doings_join.ensures.once here w.decide.new.self.peer (Decide w.in-Some.player.number) (Decided w.decide.result) tt
            w.decide.ensures.answered).0);
        notes = rw w.self-is (w.decide.ensures.notes ∙ c.loop-number.invariant.notes);
      }
    ]

pub returns-in-loop-number-clause-ran : goal.returns-in-loop-number-clause-ran
returns-in-loop-number-clause-ran g c =
    c.doings_join.ensures.joined Cuts c.args.self.now.peer c.loop-number.self.peer c.decide.new.self.peer c.loop-number.invariant.ran
    (c.doings_join.ensures.once c.loop-number.self.peer c.decide.new.self.peer (Decide c.in-Some.player.number) (Decided c.decide.result) tt
    c.decide.ensures.answered).0

pub returns-in-loop-number-clause-stopped : goal.returns-in-loop-number-clause-stopped
returns-in-loop-number-clause-stopped g c =
    let is : c.decide.result ≡ Err (decides.Disk c.in-Err-Disk.error) = search in
    c.peers_run_on.ensures.stopped c.args.self.now.peer c.loop-number.self.peer c.decide.new.self.peer c.in-Err-Disk.error
    c.loop-number.invariant.ran.done.ran (record {
      before = c.loop-number.self.peer;
      ran = c.peers_run_on.ensures.still c.loop-number.self.peer;
      call = Decide c.in-Some.player.number;
      reply = Decided c.decide.result;
      answered = c.decide.ensures.answered;
      refused = ap (λ (r : Result ℕ DecideError). disk_outcome_of (Decided r)) is;
    })
