-- How many of some inputs one datagram carries.
use Rattle.std.specs.Prelude.{ℕ, nat_le, ◌&&◌, Bool, List, length, take}
use Rattle.c8_game.specs.declared.wire.WireVersion.{WireVersion}
use Rattle.c8_wire.specs.Sizes.{longest_run}
use Rattle.c8_wire.specs.Greatest.{greatest}
use Rattle.c8_wire.specs.Packet.{has_few_stretches}

-- whether these inputs fit into one datagram: at most 64, and in version 2 at most 42 stretches of equal
-- key sets
abbrev pub are_carried : WireVersion → List ℕ → Bool
are_carried version words = nat_le (length words) longest_run && has_few_stretches version words

-- the length of the longest prefix that fits into one datagram
unfoldable pub fits_in : WireVersion → List ℕ → ℕ
fits_in version words = greatest (λ n. are_carried version (take n words)) (length words)

abbrev pub carried : WireVersion → List ℕ → List ℕ
carried version words = take (fits_in version words) words
