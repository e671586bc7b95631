-- What a clause says of a handle that was written through a `&mut AnyEndpoint`.
use Rattle.std.specs.Prelude.{Some}
use Rattle.std.specs.Borrow.{Lends, MutBor, Fml}
use Rattle.c8_embed.specs.Any.{AnyEndpoint}
use Rattle.c8_engine.specs.Held.{session_row}
use Rattle.c8_engine.specs.declared.handle.Handle.{Handle}
use Rattle.c8_engine.specs.contracts.handle.Handle.{the_row}

-- h with the session s
abbrev pub with_session : Handle → AnyEndpoint → Handle
with_session h s = record { at = h.at; alloc = h.alloc; value = Some s }

-- once the borrow r ends, the handle behind h has the session that was last written through r
abbrev pub LendsSession : MutBor Handle → MutBor AnyEndpoint → Fml
LendsSession h r = Lends the_row session_row h r (with_session h.now)
