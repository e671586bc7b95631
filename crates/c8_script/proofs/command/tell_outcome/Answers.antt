-- A match played to its end prints all answers and the ends; one cut short prints the answers so far.
use Rattle.std.proofs.Common.{◌≡◌, ◌++◌, ℕ, List, Option, Result, Ok, Err, IfOk, refl, subst}
use Rattle.std.specs.Io.KnownBytes.{Appends}
use Rattle.c8_command.specs.Status.{status_of}
use Rattle.c8_command.specs.declared.status.Status.{Status}
use Rattle.c8_command.specs.declared.status.Status.TheVariants.{Done}
use Rattle.c8_world.specs.declared.answer.Answer.{Answer}
use Rattle.c8_script.specs.Errors.{sim_part}
use Rattle.c8_script.specs.Printed.{AreLines, ends_text}
use Rattle.c8_script.specs.Sim.{IsOutcomeOfSim, IsUnfinished, HasEnded}
use Rattle.c8_script.specs.declared.transcript.Transcript.{Transcript}
use Rattle.c8_script.specs.declared.transcript.Unfinished.{Unfinished}
use Rattle.c8_script.proofs.PrintLemmas.{appends_then}
use Rattle.c8_script.proofs.command.tell_outcome.Goals as goal

-- the lines of these answers were written
Wrote : List Answer → Option (List ℕ) → Option (List ℕ) → Type 0
Wrote told u v = (text : List ℕ) × AreLines 1 told text × Appends u v text

-- the match was played to its end, and everything was written
finished : (game script : List ℕ) (u v w : Option (List ℕ)) (transcript : Transcript) (told : List Answer)
    → IsOutcomeOfSim game script (Ok transcript) → told ≡ transcript.answers.items → Wrote told u v
    → Appends v w (ends_text transcript.ends.players.items transcript.watched transcript.ends.agree) → HasEnded game script Done u w
unfolding Wrote
finished game script u v w transcript told is same wrote ends =
    let text = ends_text transcript.ends.players.items transcript.watched transcript.ends.agree in
    record {
      outcome = Ok transcript;
      is_outcome = is;
      status_is = refl;
      text = wrote.0 ++ text;
      printed = (wrote.0, subst (λ (answers : List Answer). AreLines 1 answers wrote.0) same wrote.1, refl);
      appended = appends_then u v w wrote.0 text wrote.2 ends;
    }

-- the match was not played to its end, and the answers so far were written
cut_short : {E : Type 0} → (game script : List ℕ) (u v : Option (List ℕ)) (unfinished : Unfinished) (told : List Answer)
    (result : Result Status E) → IsUnfinished game script unfinished
    → told ≡ unfinished.answers.items → Wrote told u v → IfOk result (λ status. status ≡ status_of (sim_part unfinished.error))
    → IfOk result (λ status. HasEnded game script status u v)
unfolding Wrote
cut_short game script u v unfinished told (Ok status) is same wrote ended = record {
  outcome = Err unfinished;
  is_outcome = is;
  status_is = ended;
  text = wrote.0;
  printed = subst (λ (answers : List Answer). AreLines 1 answers wrote.0) same wrote.1;
  appended = wrote.2;
}
cut_short game script u v unfinished told (Err error) is same wrote ended = tt

pub returns-in_ok-write_ends-in-Ok : goal.returns-in_ok-write_ends-in-Ok
unfolding Wrote
returns-in_ok-write_ends-in-Ok g c =
    finished c.args.game.bytes.now c.args.script.bytes.now (g.W.Write.contents c.args.out.now) (g.W.Write.contents c.write_answers.new.out)
    (g.W.Write.contents c.write_ends.new.out) c.in-Ok.transcript
    c.deref.result.now (subst (λ (outcome : Result Transcript Unfinished). IsOutcomeOfSim c.args.game.bytes.now c.args.script.bytes.now
    outcome) c.in-Ok.is c.requires) c.deref.ensures.value c.in_ok-write_answers-in-Ok.ensures c.in_ok-write_ends-in-Ok.ensures

pub returns-in_ok-write_answers-in-Err : goal.returns-in_ok-write_answers-in-Err
unfolding Wrote
returns-in_ok-write_answers-in-Err g c =
    cut_short c.args.game.bytes.now c.args.script.bytes.now (g.W.Write.contents c.args.out.now)
    (g.W.Write.contents c.write_answers-in-Err.new.out) c.in-Err.unfinished c.deref-in-Err.result.now c.tell_at.result
    (subst (λ (outcome : Result Transcript Unfinished). IsOutcomeOfSim c.args.game.bytes.now c.args.script.bytes.now outcome) c.in-Err.is
    c.requires) c.deref-in-Err.ensures.value c.in_ok-write_answers-in-Err.ensures (rw (← c.from.ensures.0) c.tell_at.ensures)
