-- What a crash may leave between two syncs, without going call by call. `Past.antt` goes call by call; the law
-- `images_at_once` shows that both say the same.
use Rattle.std.specs.Prelude.{◌≡◌, ◌≤◌, ◌<◌, ℕ, ◌+◌, nat_le, nat_lt, ◌&&◌, ◌||◌, Bool, false, List, [], ◌∷◌, length, drop, slice_index}
use Rattle.c8_disk.specs.declared.call.Call.{Call}
use Rattle.c8_disk.specs.declared.call.Call.TheVariants.{Write, Sync}
use Rattle.c8_disk.specs.Past.{content, synced, synced_count}

-- the place is in the range of a write of `count` bytes
abbrev pub is_in_range : ℕ → ℕ → ℕ → Bool
is_in_range at count i = nat_le at i && nat_lt i (at + count)

-- one of the writes has the place in its range
abbrev pub is_touched : List Call → ℕ → Bool
is_touched [] i = false
is_touched (Write at count written ∷ calls) i = is_in_range at count i || is_touched calls i
is_touched (Sync ∷ calls) i = is_touched calls i

-- the calls since the last sync
abbrev pub unsynced : List Call → List Call
unsynced calls = drop (synced_count calls) calls

-- The length is any from that at the last sync to the greatest written, which is the length that a read sees. Each byte
-- outside the written ranges is as it was at the last sync.
pub record IsBetweenSyncs (first : List ℕ) (calls : List Call) (image : List ℕ) : Type 0 where
  pub no_shorter : length (synced first calls) ≤ length image
  pub no_longer : length image ≤ length (content first calls)
  pub same : (i : ℕ) → i < length (synced first calls) → is_touched (unsynced calls) i ≡ false
      → slice_index image i ≡ slice_index (synced first calls) i
