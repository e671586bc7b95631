-- The versions of the datagrams; a game names one.
use Rattle.std.specs.Prelude.{ℕ, List, [], ◌∷◌}
use Rattle.c8_game.specs.declared.wire.WireVersion.{WireVersion}
use Rattle.c8_game.specs.declared.wire.WireVersion.TheVariants.{One, Two}

abbrev pub version_number : WireVersion → ℕ
version_number One = 1
version_number Two = 2

-- what a version adds to the bytes that a game's id is the digest of: version 1 nothing, version 2 its number
abbrev pub version_bytes : WireVersion → List ℕ
version_bytes One = []
version_bytes Two = 2 ∷ []
