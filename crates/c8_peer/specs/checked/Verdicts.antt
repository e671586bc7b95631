-- Checked, not believed: a delivery in two parts, its verdict and what the memory notes if nothing refuses it. Only the
-- contracts of private functions cite it.
use Rattle.std.specs.Prelude.{◌≡◌, ◌≤◌, true, false, Result, Ok, Err}
use Rattle.c8_wire.specs.Packet.{HeadValue, Message, Packet}
use Rattle.c8_wire.specs.Packet as packets
use Rattle.c8_hand.specs.Links.{heard}
use Rattle.c8_known.specs.Known.{KnownValue, count_in}
use Rattle.c8_window.specs.Window.{acked_more}
use Rattle.c8_round.specs.Round.{with_report, with_have}
use Rattle.c8_record.specs.Lent.{value_of}
use Rattle.c8_refusals.specs.declared.error.Refused.{Refused}
use Rattle.c8_refusals.specs.declared.error.Refused.TheVariants as refusals
use Rattle.c8_peer.specs.declared.heard.Heard.TheVariants as heards
use Rattle.c8_peer.specs.declared.verdict.Verdict.{Verdict}
use Rattle.c8_peer.specs.declared.verdict.Verdict.TheVariants as verdicts
use Rattle.c8_peer.specs.State.{Memory, Delivered, Outcome, answered, recorded}
use Rattle.c8_peer.specs.Hearing.{refused, taken}
use Rattle.c8_peer.specs.Steps.{Works}
use Rattle.c8_peer.specs.Peer.{disk_outcome_of_refusal}
use Rattle.c8_peer.specs.checked.Held.{is_play, is_entry}

-- the memory after a message that nothing refused
abbrev pub memory_after_message : Memory → HeadValue → Message → Memory
memory_after_message m head packets.Hello = record m { links = heard m.links head }
memory_after_message m head (packets.Welcome ack) = record m { links = heard m.links head; acks = acked_more m.acks head.from ack }
memory_after_message m head (packets.Data d) = record m { acks = acked_more m.acks head.from d.ack }
memory_after_message m head (packets.Freeze f) = record m { stayer = with_have m.stayer f.leaver f.have }
memory_after_message m head (packets.Frozen f) = record m { chair = with_report m.chair f.leaver head.from f.length }
memory_after_message m head (packets.Cut c) = m
memory_after_message m head (packets.Show shown) = m
memory_after_message m head (packets.Seen ack) = m

abbrev pub memory_after : Memory → Packet → Memory
memory_after m p = memory_after_message m p.head p.message

-- the message acknowledges no more inputs than there are
abbrev pub AcksWithin : KnownValue → Message → Type 0
AcksWithin k packets.Hello = Unit {0}
AcksWithin k (packets.Welcome ack) = ack ≤ count_in k k.me
AcksWithin k (packets.Data d) = d.ack ≤ count_in k k.me
AcksWithin k (packets.Freeze f) = Unit {0}
AcksWithin k (packets.Frozen f) = Unit {0}
AcksWithin k (packets.Cut c) = Unit {0}
AcksWithin k (packets.Show shown) = Unit {0}
AcksWithin k (packets.Seen ack) = Unit {0}

-- What a delivery does, by its verdict. `m` is the memory before it, and `noted` the memory once the datagram is noted.
-- A machine that differs raises the alarm.
abbrev pub by_verdict : Verdict → Memory → Memory → Outcome
by_verdict verdicts.Nothing m noted = taken noted heards.Nothing
by_verdict verdicts.Alarm m noted = answered (record m { alarm = true }) (Delivered (Err refusals.Desync))
by_verdict (verdicts.Keep lent what) m noted = recorded noted (Delivered (Ok what)) (value_of lent)

-- a verdict records only what players do, and no input that the own player entered
abbrev pub IsLater : Verdict → Type 0
IsLater verdicts.Nothing = Unit {0}
IsLater verdicts.Alarm = Unit {0}
IsLater (verdicts.Keep lent what) = (is_play (value_of lent) ≡ true) × (is_entry (value_of lent) ≡ false)

-- The result of judging a delivery: the verdict, or a refusal that does not blame the disk.
abbrev pub Judges : Outcome → Memory → Memory → Result Verdict Refused → Type 0
Judges outcome m noted (Ok verdict) = (outcome ≡ by_verdict verdict m noted) × IsLater verdict
Judges outcome m noted (Err error) = (outcome ≡ refused m error) × (disk_outcome_of_refusal error ≡ Works)
