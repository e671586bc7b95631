-- Which disk calls a log makes.
use Rattle.std.specs.Prelude.{◌≡◌, ◌⊎◌, ◌<◌, ◌≤◌, ℕ, min, ◌+◌, ◌*◌, ◌/◌, if◌then◌else◌, Bool, true, false, List, [], ◌∷◌, ◌++◌, length}
use Rattle.std.specs.Prelude.{Result, Ok, Err}
use Rattle.c8_disk.specs.declared.error.DiskError.TheVariants.{Failed as DiskFailed, Full as DiskFull}
use Rattle.c8_disk.specs.Asks.{Answer, Run, Nothing, Write, Sync, Reads, Then}
use Rattle.c8_log.specs.declared.error.LogError.{LogError}
use Rattle.c8_log.specs.declared.error.LogError.TheVariants.{Failed, Full, Down}
use Rattle.c8_log.specs.Slots.{slot_length, block_length, open_gate, closed_gate, kept_count}
use Rattle.c8_log.specs.Log.{has_closed_gate}

-- a write, then a sync
abbrev pub WriteAndSync : ℕ → List ℕ → Run
WriteAndSync at bytes = Then (Write at bytes) Sync

-- An append to slot n: write the body after its closed gate, with a closed gate after it; then open the
-- slot's own gate.
abbrev pub Append : ℕ → List ℕ → Run
Append n body = Then (WriteAndSync (slot_length * n + 1) (body ++ closed_gate ∷ [])) (WriteAndSync (slot_length * n) (open_gate ∷ []))

-- the same on a disk with this capacity: if the slot and the gate after it do not fit, there is no call
abbrev pub AppendWithin : ℕ → ℕ → List ℕ → Run
AppendWithin capacity n body calls answer =
    ((slot_length * (n + 1) + 1 ≤ capacity) × Append n body calls answer)
    ⊎ ((capacity < slot_length * (n + 1) + 1) × (calls ≡ []) × (answer ≡ Err DiskFull))

-- the repair of the gate after the kept slots, unless that gate is closed
abbrev pub Repair : List ℕ → Run
Repair image calls answer =
    ((has_closed_gate image ≡ true) × Nothing calls answer)
    ⊎ ((has_closed_gate image ≡ false) × WriteAndSync (slot_length * kept_count image) (closed_gate ∷ []) calls answer)

-- how many blocks there are up to the gate after the kept slots, or up to the end if that gate is
-- missing
abbrev pub blocks_to_gate : List ℕ → ℕ
blocks_to_gate image = (min (slot_length * kept_count image + 1) (length image) + 4607) / block_length

-- how many reads find the end: none if the disk lends its bytes, else one for each of these blocks
abbrev pub end_reads : Bool → List ℕ → ℕ
end_reads lends image = if lends then 0 else blocks_to_gate image

-- an opening: a sync, these reads, and the repair
abbrev pub Opening : Bool → List ℕ → Run
Opening lends image = Then Sync (Then (Reads (end_reads lends image)) (Repair image))

-- the answer of the disk, read from the log's answer
abbrev pub told_by : {T : Type 0} → Result T LogError → Answer
told_by (Ok found) = Ok tt
told_by (Err Failed) = Err DiskFailed
told_by (Err Full) = Err DiskFull
told_by (Err Down) = Ok tt

abbrev pub told_by_opening : {L D : Type 0} → Result L (LogError × D) → Answer
told_by_opening (Ok log) = Ok tt
told_by_opening (Err refusal) = told_by {T = Unit {0}} (Err refusal.0)
