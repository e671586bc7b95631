-- Bytes that are not read get the first refusal that applies, and only those get one.
use Rattle.c8_wire.proofs.ReadLemmas.{refused_unread, read_refused}
use Rattle.c8_wire.proofs.laws.what_is_not_read_is_refused.Goals as goal

pub returns-clause-found : goal.returns-clause-found
returns-clause-found c = refused_unread

pub returns-clause-only : goal.returns-clause-only
returns-clause-only c = read_refused
