-- A record that was appended had room.
use Rattle.std.proofs.Common.{◌≡◌, ◌≤◌, ◌+◌, ◌*◌, ℕ, List, Ok, Err, ⊎_elim}
use Rattle.c8_disk.specs.declared.error.DiskError.TheVariants.{Full}
use Rattle.c8_disk.specs.Disk.{DiskCall}
use Rattle.c8_disk.specs.Asks.{Run, After}
use Rattle.c8_log.specs.Slots.{slot_length}
use Rattle.c8_log.specs.Asked.{AppendWithin}

pub had_room : (capacity n : ℕ) (body : List ℕ) (calls : List DiskCall) → AppendWithin capacity n body calls (Ok tt)
    → slot_length * (n + 1) + 1 ≤ capacity
had_room capacity n body calls = ⊎_elim (λ fits. fits.0) (λ lacks. let never : Ok tt ≡ Err Full = lacks.2 in absurd cc)

-- also after other calls
pub had_room_after : (before : Run) (capacity n : ℕ) (body : List ℕ) (calls : List DiskCall)
    → After before (AppendWithin capacity n body) calls (Ok tt) → slot_length * (n + 1) + 1 ≤ capacity
had_room_after before capacity n body calls both = had_room capacity n body both.1 both.4
