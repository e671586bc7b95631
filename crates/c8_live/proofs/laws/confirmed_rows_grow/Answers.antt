-- Calls only lengthen a sound peer's journal, and a longer journal still confirms the old rows.
use Rattle.std.proofs.Common.{List, map, false, subst}
use Rattle.c8_known.specs.Journal.{Record}
use Rattle.c8_record.specs.Allowed.{IsJournal}
use Rattle.c8_session.specs.Runs.{does}
use Rattle.c8_live.proofs.RunLemmas.{grown_rows}
use Rattle.c8_live.proofs.laws.confirmed_rows_grow.Goals as goal

pub returns : goal.returns
returns g c old new sound ran =
    let deeds = map does ran.calls in
    let grows = c.a_peers_word_stands.ensures.grows old.rules old.room old.me old.state new.state deeds ran.answers ran.run in
    let lawful = c.a_word_stands_from_any_journal.ensures.stays old.rules old.room old.me old.state new.state deeds ran.answers sound.range
    sound.plays.0 sound.plays.1 sound.low
    (c.a_word_stands_from_any_journal.ensures.sound old sound) ran.run in
    grown_rows g.D.Disk old new ran grows.0 grows.1
    (c.what_a_journal_says_stays.ensures.rows old.rules old.me old.room old.state.journal grows.0 sound.range sound.plays.0 sound.plays.1
    (subst (λ (journal : List Record). IsJournal old.rules old.me old.room journal) grows.1 (lawful.journal false)))
