-- Bytes are read as a well-formed packet or as none, and the definitions cover both; for c8_rig and c8_embed.
use Rattle.std.proofs.Common.{◌≡◌, refl}
use Rattle.std.specs.Prelude.{Result, Ok, Err}
use Rattle.c8_wire.specs.declared.error.WireError.{WireError}
use Rattle.c8_wire.specs.Packet.{Packet, IsPacket}
use Rattle.c8_wire.specs.checked.Read.{read}
use Rattle.c8_peer.specs.State.{Deliver}
use Rattle.c8_peer.specs.Lawful.{IsCall}
use Rattle.c8_peer.proofs.laws.deliveries_are_calls.Goals as goal

is_call : (told : Result Packet WireError) → ((p : Packet) → told ≡ Ok p → IsPacket p) → IsCall (Deliver told)
is_call (Ok p) is = is p refl
is_call (Err error) is = tt

pub returns : goal.returns
returns c = λ bytes are. is_call (read bytes) (λ p reads. (c.what_is_read_is_spelled.ensures.read bytes p are reads).packet)
