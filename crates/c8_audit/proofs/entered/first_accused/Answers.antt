-- Both journals are of a game in which the player plays, and what they say of a frame is known.
use Rattle.std.proofs.Common.{sym}
use Rattle.c8_audit.specs.Read.{seen, all_seen}
use Rattle.c8_audit.proofs.GivenLemmas.{plays_first, plays_later}
use Rattle.c8_audit.proofs.ShortLemmas.{accused_by}
use Rattle.c8_audit.proofs.entered.first_accused.Goals as goal

pub first_belied-requires-clause-by : goal.first_belied-requires-clause-by
first_belied-requires-clause-by c =
    plays_first c.requires.0 (all_seen c.args.journals.now) c.args.by.number c.args.player.number (seen c.in-Some-Some.by.now)
    (seen c.in-Some-Some.own.now) c.requires.1
    c.args.by.from_one c.args.player.from_one (sym c.in-Some-Some.ensures) (sym c.in-Some-Some.ensures')

pub first_belied-requires-clause-own : goal.first_belied-requires-clause-own
first_belied-requires-clause-own c =
    rw c.later.ensures (plays_later c.requires.0 (all_seen c.args.journals.now) c.args.player.number (seen c.in-Some-Some.own.now)
    c.requires.1 c.args.player.from_one (sym c.in-Some-Some.ensures'))

pub returns-in-Some-Some : goal.returns-in-Some-Some
returns-in-Some-Some c =
    accused_by (all_seen c.args.journals.now) c.args.player.number c.args.by.number (seen c.in-Some-Some.by.now) (seen c.in-Some-Some.own.now)
    c.cut_of-cut.result c.first_belied.result c.args.by.from_one c.args.player.from_one (sym c.in-Some-Some.ensures)
    (sym c.in-Some-Some.ensures') c.cut_of-cut.ensures (rw c.later.ensures at c.first_belied.ensures)
