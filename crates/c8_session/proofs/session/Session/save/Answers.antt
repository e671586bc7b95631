-- A part of a checkpoint is one call, or none if none is due; a refusal of the disk stops the session.
use Rattle.std.proofs.Common.{◌≡◌, Result, Err, ap, arith}
use Rattle.c8_peer.specs.declared.check.Check.{Check}
use Rattle.c8_refusals.specs.declared.error.CheckError.{CheckError}
use Rattle.c8_refusals.specs.declared.error.CheckError.TheVariants as checks
use Rattle.c8_peer.specs.Peer.{disk_outcome_of}
use Rattle.c8_peer.specs.State.{Checkpoint, Checked}
use Rattle.c8_session.specs.Turns.{Saves}
use Rattle.c8_session.specs.checked.Joins.{none_called}
use Rattle.c8_session.proofs.session.Session.save.Goals as goal

pub returns-then-not-saves-clause-ran : goal.returns-then-not-saves-clause-ran
returns-then-not-saves-clause-ran g c = none_called g.D.Disk Saves c.args.self.now.peer

pub returns-in-Err-Disk-clause-stopped : goal.returns-in-Err-Disk-clause-stopped
returns-in-Err-Disk-clause-stopped g c =
    let is : c.checkpoint.result ≡ Err (checks.Disk c.in-Err-Disk.error) = search in
    let peer = c.args.self.now.peer in
    record {
      before = peer;
      ran = c.peers_run_on.ensures.still peer;
      call = Checkpoint;
      reply = Checked c.checkpoint.result;
      answered = c.checkpoint.ensures.answered;
      refused = ap (λ (r : Result Check CheckError). disk_outcome_of (Checked r)) is;
    }

pub returns-in-Ok-clause-ran : goal.returns-in-Ok-clause-ran
returns-in-Ok-clause-ran g c =
    let peer = c.args.self.now.peer in
    let one = c.doings_join.ensures.once peer c.checkpoint.new.self.peer Checkpoint (Checked c.checkpoint.result) tt c.checkpoint.ensures.answered in
    (one.0, omega (arith, one.1))

pub returns-in-Err-Disk-clause-ran : goal.returns-in-Err-Disk-clause-ran
returns-in-Err-Disk-clause-ran g c =
    let peer = c.args.self.now.peer in
    let one = c.doings_join.ensures.once peer c.checkpoint.new.self.peer Checkpoint (Checked c.checkpoint.result) tt c.checkpoint.ensures.answered in
    (one.0, omega (arith, one.1))

pub returns-in-Err : goal.returns-in-Err
returns-in-Err g c =
    let peer = c.args.self.now.peer in
    let one = c.doings_join.ensures.once peer c.checkpoint.new.self.peer Checkpoint (Checked c.checkpoint.result) tt c.checkpoint.ensures.answered in
    record { ran = (one.0, omega (arith, one.1)); stopped = tt; notes = c.checkpoint.ensures.notes }
