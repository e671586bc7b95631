-- A report that nobody reads.
use Rattle.std.proofs.Common.{ℕ, List, Option, Result, Ok, Err, IfOk, refl}
use Rattle.c8_command.specs.declared.status.Status.{Status}
use Rattle.c8_play.specs.Answers.{IsSilent}

-- a command that writes its report elsewhere writes nothing here
pub silent_from : {E : Type 0} (Ends : Option (List ℕ) → Option (List ℕ) → Status → Type 0) (before after old : Option (List ℕ))
    (told : Result Status E) → IfOk told (Ends before after) → IfOk told (IsSilent Ends old old)
silent_from Ends before after old (Ok status) ends = (refl, λ done. (before, after, ends))
silent_from Ends before after old (Err e) ends = tt
