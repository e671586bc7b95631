-- What a disk's write makes of the bytes.
use Rattle.std.proofs.Common.{◌≡◌, ◌≤◌, ℕ, List, length, Result, Ok, Err, OnOk, IsErrOf, subst}
use Rattle.c8_disk.specs.Disk.{overwritten, IsOverwritten, Torn, Writes}
use Rattle.c8_disk.specs.declared.error.DiskError.{DiskError}
use Rattle.c8_disk.specs.declared.error.DiskError.TheVariants.{Failed}

-- the law of c8_disk's `writes_keep_the_rest`
abbrev pub WritesLaw : Type 0
WritesLaw = (old : List ℕ) (at : ℕ) (bytes : List ℕ) → at ≤ length old → IsOverwritten at bytes old (overwritten old at bytes)

-- a write that answered is whole
pub ok_written : (at : ℕ) (bytes old new : List ℕ) (r : Result (Unit {0}) DiskError) → Writes at bytes old new r
    → OnOk r (new ≡ overwritten old at bytes)
ok_written at bytes old new (Ok _) written = written
ok_written at bytes old new (Err e) written = tt

-- and one that failed is torn
pub failed_torn : (at : ℕ) (bytes old new : List ℕ) (r : Result (Unit {0}) DiskError) → Writes at bytes old new r → IsErrOf r Failed
    → Torn at (length bytes) old new
failed_torn at bytes old new r written is = subst (Writes at bytes old new) is written

pub on_ok_both : {T E P Q R : Type 0} (r : Result T E) → OnOk r P → OnOk r Q → (P → Q → R) → OnOk r R
on_ok_both (Ok x) p q so = so p q
on_ok_both (Err e) p q so = tt
