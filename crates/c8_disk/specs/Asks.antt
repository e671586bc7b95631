-- Which calls a run makes of a disk, and how it ends. A run is a relation between the list of its calls and its answer:
-- Ok, or why it stops.
use Rattle.std.specs.Prelude.{◌≡◌, ◌⊎◌, ℕ, zero, suc, List, [], ◌∷◌, ◌++◌, Result, Ok, Err}
use Rattle.c8_disk.specs.declared.disk.Disk.{Ghosts}
use Rattle.c8_disk.specs.declared.error.DiskError.{DiskError}
use Rattle.c8_disk.specs.Disk.{DiskCall, Reading, Writing, Syncing}
use Rattle.c8_disk.specs.Runs.{Leads}

-- the answer of a call or of a run of calls
abbrev pub Answer : Type 0
Answer = Result (Unit {0}) DiskError

-- the answer of a result that has a value
abbrev pub answer_of : {T : Type 0} → Result T DiskError → Answer
answer_of (Ok found) = Ok tt
answer_of (Err why) = Err why

abbrev pub Run : Type 1
Run = List DiskCall → Answer → Type 0

-- no call
abbrev pub Nothing : Run
Nothing calls answer = (calls ≡ []) × (answer ≡ Ok tt)

-- one write, and one sync
abbrev pub Write : ℕ → List ℕ → Run
Write at bytes calls answer = calls ≡ Writing at bytes answer ∷ []

abbrev pub Sync : Run
Sync calls answer = calls ≡ Syncing answer ∷ []

-- this many reads, or fewer if one of them is refused
abbrev pub Reads : ℕ → Run
Reads zero calls answer = Nothing calls answer
Reads (suc more) [] answer = ⊥
Reads (suc more) (Reading at count result ∷ calls) answer =
    ((result ≡ Ok tt) × Reads more calls answer) ⊎ ((why : DiskError) × (result ≡ Err why) × (answer ≡ Err why) × (calls ≡ []))
Reads (suc more) (Writing at bytes result ∷ calls) answer = ⊥
Reads (suc more) (Syncing result ∷ calls) answer = ⊥

-- a run that answers Ok, and another one after it
abbrev pub After : Run → Run → Run
After P Q calls answer = (first : List DiskCall) × (rest : List DiskCall) × (calls ≡ first ++ rest) × P first (Ok tt) × Q rest answer

-- a run, and if it answers Ok another one
abbrev pub Then : Run → Run → Run
Then P Q calls answer = After P Q calls answer ⊎ ((why : DiskError) × (answer ≡ Err why) × P calls (Err why))

-- Such a run, with this answer, leads from one disk to the other.
pub record Asks {D : Type 0} (disk : Ghosts D) (P : Run) (answer : Answer) (old new : D) : Type 0 where
  pub calls : List DiskCall
  pub led : Leads disk calls old new
  pub is : P calls answer
