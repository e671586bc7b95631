-- What a disk gives, and what a crash may leave of it, from what it held at first and the calls that changed it since,
-- oldest first.
use Rattle.std.specs.Prelude.{◌≡◌, ◌≤◌, ℕ, suc, ◌+◌, nat_le, nat_lt, ◌&&◌, if◌then◌else◌, Bool, true, List, [], ◌∷◌, ◌++◌, length, take}
use Rattle.c8_disk.specs.Disk.{longest_write, overwritten, Torn}
use Rattle.c8_disk.specs.declared.call.Call.{Call}
use Rattle.c8_disk.specs.declared.call.Call.TheVariants.{Write, Sync}

-- what a read gives after the calls, if a read gave these bytes before them
abbrev pub content : List ℕ → List Call → List ℕ
content bytes [] = bytes
content bytes (Write at count written ∷ calls) = content (overwritten bytes at (take count written)) calls
content bytes (Sync ∷ calls) = content bytes calls

-- What a crash may leave after the calls, if a read gave these bytes and a crash could leave these images before them.
-- A write tears each image; after a sync the only image is what a read gives.
abbrev pub Leaves : (List ℕ → Type 0) → List ℕ → List Call → List ℕ → Type 0
Leaves images bytes [] = images
Leaves images bytes (Write at count written ∷ calls) =
    Leaves (λ image. (earlier : List ℕ) × images earlier × Torn at count earlier image) (overwritten bytes at (take count written)) calls
Leaves images bytes (Sync ∷ calls) = Leaves (λ image. image ≡ bytes) bytes calls

-- an image that a crash after the calls may leave of a disk that held `first`
abbrev pub IsImage : List ℕ → List Call → List ℕ → Type 0
IsImage first calls = Leaves (λ image. image ≡ first) first calls

-- an image that a crash may have left after at least t of the calls
abbrev pub LeftSince : List ℕ → List Call → ℕ → List ℕ → Type 0
LeftSince first calls t image = (count : ℕ) × (t ≤ count) × (count ≤ length calls) × IsImage first (take count calls) image

-- how many calls there are up to the last sync
abbrev pub synced_count : List Call → ℕ
synced_count [] = 0
synced_count (Write at count written ∷ calls) = if nat_lt 0 (synced_count calls) then suc (synced_count calls) else 0
synced_count (Sync ∷ calls) = suc (synced_count calls)

-- what was last synced, or what it held at first
abbrev pub synced : List ℕ → List Call → List ℕ
synced first calls = content first (take (synced_count calls) calls)

-- each write begins within the bytes, and has as many bytes as it says
abbrev pub are_lawful : List ℕ → List Call → Bool
are_lawful bytes [] = true
are_lawful bytes (Write at count written ∷ calls) =
    nat_le at (length bytes) && nat_le count (length written) && are_lawful (overwritten bytes at (take count written)) calls
are_lawful bytes (Sync ∷ calls) = are_lawful bytes calls

-- each write has at most `longest_write` bytes, and ends within the capacity
abbrev pub fit : ℕ → List Call → Bool
fit capacity [] = true
fit capacity (Write at count written ∷ calls) = nat_le count longest_write && nat_le (at + count) capacity && fit capacity calls
fit capacity (Sync ∷ calls) = fit capacity calls

-- the call writes these bytes at this place
abbrev pub IsWriteOf : ℕ → List ℕ → Call → Type 0
IsWriteOf at bytes (Write place count written) = (place ≡ at) × (count ≡ length bytes) × (take count written ≡ bytes)
IsWriteOf at bytes Sync = ⊥

-- one more call, which writes these bytes at this place
abbrev pub AddsWrite : ℕ → List ℕ → List Call → List Call → Type 0
AddsWrite at bytes old new = (call : Call) × IsWriteOf at bytes call × (new ≡ old ++ call ∷ [])

-- the new bytes are the old ones after the torn writes
abbrev pub TornBy : List Call → List ℕ → List ℕ → Type 0
TornBy [] old new = new ≡ old
TornBy (Write at count written ∷ calls) old new = (next : List ℕ) × Torn at count old next × TornBy calls next new
TornBy (Sync ∷ calls) old new = TornBy calls old new
