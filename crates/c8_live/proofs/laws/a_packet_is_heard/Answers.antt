-- A packet is heard by no call, or by one delivery of what its bytes spell.
use Rattle.std.proofs.Common.{inl, Ok, refl}
use Rattle.c8_peer.specs.State.{Deliver}
use Rattle.c8_session.specs.Turns.{Hears}
use Rattle.c8_session.specs.checked.Joins.{done_still, done_once}
use Rattle.c8_live.proofs.OwedLemmas.{unnoted, noted_one}
use Rattle.c8_live.proofs.laws.a_packet_is_heard.Goals as goal

pub returns-clause-none : goal.returns-clause-none
returns-clause-none g c p bytes = (done_still g.D.Disk Hears p, tt)

pub returns-clause-once : goal.returns-clause-once
returns-clause-once g c old new bytes packet reply spells answered =
    let call = Deliver (Ok packet) in (
      done_once g.D.Disk old new call reply answered (c.calls_are_deeds.ensures.answered old new call reply spells.packet answered),
      inl ((packet, refl, spells), tt),
    )

pub returns-clause-unnoted : goal.returns-clause-unnoted
returns-clause-unnoted g c p notes bytes = unnoted g.D.Disk p notes bytes

pub returns-clause-noted : goal.returns-clause-noted
returns-clause-noted g c old new notes bytes packet reply spells answered =
    noted_one g.D.Disk old new notes bytes packet reply spells answered
    (c.calls_are_deeds.ensures.answered old new (Deliver (Ok packet)) reply spells.packet answered)
