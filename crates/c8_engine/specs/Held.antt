-- What a `Handle` owns: nothing where it is closed, and else what a `Box<AnyEndpoint>` of the C library's heap owns.
pub mod Lent
use Rattle.std.specs.Prelude.{Option, None, Some}
use base.Fml.{Fml, feq}
use base.Stored.{Coded}
use denote.RattleType.{RattleType}
use denote.RawPtr.{Ptr, null_ptr}
use Rattle.std.specs.Box.Ownership.{box_owns}
use Rattle.std.specs.Coded.{coded_option}
use Rattle.std.specs.Global.{Global}
use Rattle.std.specs.contracts.impls.GlobalAllocator.TheImpl.{ghosts}
use Rattle.c8_embed.specs.contracts.any.Side as Side
use Rattle.c8_embed.specs.contracts.endpoint.Endpoint as Endpoint
use Rattle.c8_embed.specs.contracts.watch.WatchEndpoint as WatchEndpoint

abbrev pub session_row : RattleType
session_row = Side.the_row Endpoint.the_row WatchEndpoint.the_row

abbrev pub held_owns : Global → Ptr → Option session_row.Denot → Fml
held_owns alloc p None = feq Ptr p null_ptr
held_owns alloc p (Some s) = box_owns (ghosts.dealloc_token alloc) session_row p s

abbrev pub session_coded : Coded (Option session_row.Denot)
session_coded = coded_option session_row.coded
