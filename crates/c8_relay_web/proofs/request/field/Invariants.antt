-- The first field with the name is among those that are still to be looked at.
use Rattle.std.proofs.Common.{◌≡◌, drop}
use Rattle.websocket.specs.Headers.{fields_of, header_value}
use Rattle.c8_relay_web.proofs.request.field.Given as goal

abbrev pub invariant-loop-one : goal.invariant-loop-one
invariant-loop-one l = header_value (fields_of l.input l.fields) l.name ≡ header_value (fields_of l.input (drop l.one-index l.fields)) l.name
