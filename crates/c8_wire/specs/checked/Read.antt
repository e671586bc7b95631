-- Bytes read as one answer: the packet that they spell, or the first refusal. The laws
-- `what_is_spelled_is_read`, `what_is_read_is_spelled` and `what_is_not_read_is_refused` say that it is
-- exact.
use Rattle.std.specs.Prelude.{ℕ, List, Option, Some, None, Result, Ok, Err}
use Rattle.c8_wire.specs.declared.error.WireError.{WireError}
use Rattle.c8_wire.specs.declared.error.WireError.TheVariants as errors
use Rattle.c8_wire.specs.declared.kinds.DatagramKind.{DatagramKind}
use Rattle.c8_wire.specs.Packet.{Packet}
use Rattle.c8_wire.specs.Reading.{kind_at, packet_at}
use Rattle.c8_wire.specs.Refusal.{refusal}

-- bytes without a kind are refused, so the third line never applies
abbrev pub answer : Option WireError → Option DatagramKind → List ℕ → Result Packet WireError
answer (Some error) kind bytes = Err error
answer None (Some kind) bytes = Ok (packet_at kind bytes)
answer None None bytes = Err errors.Kind

unfoldable pub read : List ℕ → Result Packet WireError
read bytes = answer (refusal bytes) (kind_at bytes) bytes
