-- The session that was lent has not changed, so the handle is as it was.
use Rattle.std.proofs.Common.{◌∙◌, Option, ap, sym}
use Rattle.c8_embed.specs.Any.{AnyEndpoint}
use Rattle.c8_engine.specs.declared.handle.Handle.{Handle}
use Rattle.c8_engine.proofs.handle.Handle.role.Goals as goal

pub returns-clause-same : goal.returns-clause-same
returns-clause-same c =
    let h : Handle = c.is_open.new.self in
    let put : Option AnyEndpoint → Handle = λ (value : Option AnyEndpoint). record { at = h.at; alloc = h.alloc; value = value } in
    ap put (sym c.session.ensures.value) ∙ c.is_open.ensures.1
