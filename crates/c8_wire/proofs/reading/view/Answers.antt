-- What spells a packet is not refused, and what is not refused is read as the packet of its kind.
use Rattle.std.proofs.Common.{Ok, rules, ap, sym, ◌∙◌}
use Rattle.c8_wire.proofs.TableLemmas.{refused_or_not}
use Rattle.c8_wire.proofs.PacketLemmas.{again, same_kind}
use Rattle.c8_wire.proofs.ReadLemmas.{read_accepted, read_refused}
use Rattle.c8_wire.proofs.reading.view.Goals as goal

pub returns-in_err-kind-clause-only : goal.returns-in_err-kind-clause-only
returns-in_err-kind-clause-only c = λ p spells. absurd (refused_or_not _ _ (again c.args.bytes.now p spells).none c.in_err-kind.ensures)

pub returns-in_err-kind-clause-answer : goal.returns-in_err-kind-clause-answer
returns-in_err-kind-clause-answer c = let refused = read_refused c.args.bytes.now _ c.in_err-kind.ensures in search rules

pub returns-clause-answer : goal.returns-clause-answer
returns-clause-answer c =
    read_accepted c.args.bytes.now c.in_ok-kind.kind c.in_ok-kind.ensures.0 c.in_ok-kind.ensures.1 ∙ ap Ok (sym c.datagram_of.ensures.packet)

pub returns-clause-only : goal.returns-clause-only
returns-clause-only c = λ p spells. c.datagram_of.ensures.packet ∙ same_kind c.in_ok-kind.kind c.args.bytes.now p c.in_ok-kind.ensures.0 spells
