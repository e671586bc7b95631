-- What a crash may leave of one write. Only contracts of private functions cite this file: readers need
-- not believe it.
use Rattle.std.specs.Prelude.{◌⊎◌, ℕ, List}
use Rattle.c8_disk.specs.Disk.{Torn}

-- one of the images, or one of them with a torn write
abbrev pub IsBeforeOrTorn : ℕ → ℕ → (List ℕ → Type 0) → List ℕ → Type 0
IsBeforeOrTorn at count images image = images image ⊎ ((old : List ℕ) × images old × Torn at count old image)
