-- A journal over a log, and what a crash may leave of it.
use Rattle.std.specs.Prelude.{◌≡◌, ℕ, Bool, false, List, length, take, slice_get, Option, None, Some}
use Rattle.c8_disk.specs.declared.disk.Disk.{Ghosts}
use Rattle.c8_log.specs.Slots.{kept}
use Rattle.c8_log.specs.Log.{LogValue, KeepsWithOrWithout}

-- A journal: its disk, the bodies that it keeps, the pending body (refused; the next opening decides
-- whether it counts), and whether it is down.
pub record JournalValue (D : Type 0) : Type 0 where
  pub disk : D
  pub bodies : List (List ℕ)
  pub pending : Option (List ℕ)
  pub is_down : Bool

-- the image keeps these bodies, with the pending one after them or without
abbrev pub KeepsBodies : List (List ℕ) → Option (List ℕ) → List ℕ → Type 0
KeepsBodies bodies None image = kept image ≡ bodies
KeepsBodies bodies (Some body) image = KeepsWithOrWithout bodies body image

-- so does each image
abbrev pub AllKeepBodies : List (List ℕ) → Option (List ℕ) → (List ℕ → Type 0) → Type 0
AllKeepBodies bodies pending images =
    (image : List ℕ) → images image → KeepsBodies bodies pending image

module _ {D : Type 0} (g : Ghosts D) where
  -- The journal over a log, with this pending body. It keeps the first `count` bodies that a read gives.
  abbrev pub journal_over : LogValue D → List (List ℕ) → JournalValue D
  journal_over log refused = record {
    disk = log.disk;
    bodies = take log.count (kept (g.seen log.disk));
    pending = slice_get refused 0;
    is_down = log.down;
  }

  -- What holds for every journal whose log counts this many bodies.
  pub record IsJournal (journal : JournalValue D) (count : ℕ) : Type 0 where
    pub count_is : count ≡ length journal.bodies
    pub keeps : AllKeepBodies journal.bodies journal.pending (g.may_leave journal.disk)
    pub up : journal.is_down ≡ false → journal.pending ≡ None
