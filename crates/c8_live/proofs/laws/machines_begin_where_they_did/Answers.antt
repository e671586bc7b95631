-- Only an opening of the journal sets where a machine begins: calls leave it there.
use Rattle.c8_live.proofs.RunLemmas.{begun_still}
use Rattle.c8_live.proofs.laws.machines_begin_where_they_did.Goals as goal

pub returns : goal.returns
returns g c old new sound ran =
    begun_still g.D.Disk old new ran
    (c.a_machine_begins_at_an_opening.ensures old.rules old.room old.me old.state new.state ran.calls ran.answers sound.range sound.plays.0
    sound.plays.1 sound.low
    (c.a_word_stands_from_any_journal.ensures.sound old sound) ran.run)
