-- The first checkpoint has the first machine and its mark alone, with zeros behind it.
use Rattle.std.proofs.Common.{List, ℕ, ◌≡◌, ◌++◌, length, take, ap, sym, ◌∙◌}
use Rattle.std.specs.Prelude.{replicate}
use Rattle.c8_machine.specs.State.{first_state}
use Rattle.c8_digest.specs.StateBytes.{mark_of}
use Rattle.c8_digest.specs.checked.OriginLaws.{mark_is_one}
use Rattle.c8_digest.proofs.MarkBytesLemmas.{front_of, one_mark, one_mark_bytes}
use Rattle.c8_digest.proofs.checkpoint.Checkpoint.start.Goals as goal

pub returns-clause-origin : goal.returns-clause-origin
returns-clause-origin c =
    let is = c.mark.ensures ∙ ap mark_of c.start-machine.ensures in
    let long : length c.mark.result ≡ 8 = ap length is ∙ (mark_is_one 0 (first_state c.args.game.now)).long in
    let front = ap (take 8) c.alone.ensures ∙ front_of 8 c.mark.result (replicate 120 0) long ∙ is in
    λ i. record {
      frames = 0;
      machine = c.start-machine.ensures i;
      marks = one_mark c.alone.result _ front i;
    }

pub returns-clause-marks : goal.returns-clause-marks
returns-clause-marks c =
    let is = c.mark.ensures ∙ ap mark_of c.start-machine.ensures in
    c.alone.ensures ∙ ap (λ (mark : List ℕ). mark ++ replicate 120 0) is ∙ sym (one_mark_bytes (mark_of (first_state c.args.game.now)))
