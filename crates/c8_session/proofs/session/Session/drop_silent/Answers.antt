-- Each drop lengthens the run of drops, also one that is refused; a refusal of the disk stops it.
use Rattle.std.proofs.Common.{◌≡◌, Result, Err, refl, ap, ◌∙◌}
use Rattle.c8_refusals.specs.declared.error.LeaveError.{LeaveError}
use Rattle.c8_refusals.specs.declared.error.LeaveError.TheVariants as leaves
use Rattle.c8_peer.specs.Peer.{disk_outcome_of}
use Rattle.c8_peer.specs.State.{Leave, Left}
use Rattle.c8_session.specs.Turns.{Drops}
use Rattle.c8_session.proofs.session.Session.drop_silent.Goals as goal
use Rattle.c8_session.proofs.session.Session.drop_silent.Goals.{
  in_default-via-in-None-1,
  in_default-via-in-Some+else-drops,
  in_default-via-in-Some+then-drops+in-Err+in-NotChair-1,
  in_default-via-in-Some+then-drops+in-Ok-1,
}

pub loop-number-init : goal.loop-number-init
loop-number-init g c = record { ran = c.doings_join.ensures.still Drops c.args.self.now.peer; notes = refl }

pub loop-number-preserved : goal.loop-number-preserved
loop-number-preserved g c =
    let first = c.args.self.now.peer in
    let here = c.loop-number.self.peer in
    elim c.in_default.branch [
      | in_default-via-in-None-1 w ↦ record { ran = rw w.self-is c.loop-number.invariant.ran; notes = rw w.self-is c.loop-number.invariant.notes }
      | in_default-via-in-Some+else-drops w ↦ record {
        ran = rw w.self-is c.loop-number.invariant.ran;
        notes = rw w.self-is c.loop-number.invariant.notes;
      }
      | in_default-via-in-Some+then-drops+in-Err+in-NotChair-1 w ↦ record {
        ran = rw w.self-is (c.doings_join.ensures.joined Drops first here w.leave.new.self.peer c.loop-number.invariant.ran
            (c.doings_join.ensures.once here w.leave.new.self.peer (Leave w.in-Some.player.number) (Left w.leave.result) tt
            w.leave.ensures.answered).0);
        notes = rw w.self-is (w.leave.ensures.notes ∙ c.loop-number.invariant.notes);
      }
      | in_default-via-in-Some+then-drops+in-Ok-1 w ↦ record {
        ran = rw w.self-is (c.doings_join.ensures.joined Drops first here w.leave.new.self.peer c.loop-number.invariant.ran
            (c.doings_join.ensures.once here w.leave.new.self.peer (Leave w.in-Some.player.number) (Left w.leave.result) tt
            w.leave.ensures.answered).0);
        notes = rw w.self-is (w.leave.ensures.notes ∙ c.loop-number.invariant.notes);
      }
    ]

pub returns-in-loop-number-clause-ran : goal.returns-in-loop-number-clause-ran
returns-in-loop-number-clause-ran g c =
    c.doings_join.ensures.joined Drops c.args.self.now.peer c.loop-number.self.peer c.leave.new.self.peer c.loop-number.invariant.ran
    (c.doings_join.ensures.once c.loop-number.self.peer c.leave.new.self.peer (Leave c.in-Some.player.number) (Left c.leave.result) tt
    c.leave.ensures.answered).0

pub returns-in-loop-number-clause-stopped : goal.returns-in-loop-number-clause-stopped
returns-in-loop-number-clause-stopped g c =
    let is : c.leave.result ≡ Err (leaves.Disk c.in-Err-Disk.error) = search in
    c.peers_run_on.ensures.stopped c.args.self.now.peer c.loop-number.self.peer c.leave.new.self.peer c.in-Err-Disk.error
    c.loop-number.invariant.ran.done.ran (record {
      before = c.loop-number.self.peer;
      ran = c.peers_run_on.ensures.still c.loop-number.self.peer;
      call = Leave c.in-Some.player.number;
      reply = Left c.leave.result;
      answered = c.leave.ensures.answered;
      refused = ap (λ (r : Result (Unit {0}) LeaveError). disk_outcome_of (Left r)) is;
    })
