-- What a board shows: how many frames are confirmed, and a few bits of the machine after them.
use Rattle.std.specs.Prelude.{ℕ, ◌+◌, ◌*◌, ◌^◌, List, length, fold, take}
use Rattle.sha2.specs.Sha256.{sha256}
use Rattle.c8_game.specs.Rules.{Rules}
use Rattle.c8_game.specs.declared.row.Row.{Row}
use Rattle.c8_machine.specs.State.{State}
use Rattle.c8_digest.specs.StateBytes.{state_bytes}
use Rattle.c8_digest.specs.Origin.{Origin, run_since}

-- the number that bytes spell, the most significant first
abbrev pub number_spelled : List ℕ → ℕ
number_spelled bytes = fold (λ n byte. n * 2 ^ 8 + byte) 0 bytes

-- the first 40 bits of the digest of a state's bytes
unfoldable pub bits_of : State → ℕ
bits_of s = number_spelled (take 5 (sha256 (state_bytes s)))

-- the rows as one word: their number times 2 ^ 40, plus the bits of the machine that they lead to from an origin
abbrev pub word : Rules → Origin → List Row → ℕ
word game from rows = length rows * 2 ^ 40 + bits_of (run_since game from rows)

-- what a look finds
pub record LookValue : Type 0 where
  pub count : ℕ
  pub bits : ℕ

-- the look at the word of these rows
abbrev pub look_of : Rules → Origin → List Row → LookValue
look_of game from rows = record { count = length rows; bits = bits_of (run_since game from rows) }
