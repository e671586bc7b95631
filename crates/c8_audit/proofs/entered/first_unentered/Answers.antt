-- Both journals are of a game in which the player plays, so each has a list of that player's inputs.
use Rattle.std.proofs.Common.{sym}
use Rattle.c8_audit.specs.Read.{seen, all_seen}
use Rattle.c8_audit.proofs.GivenLemmas.{plays_first, plays_later}
use Rattle.c8_audit.proofs.entered.first_unentered.Goals as goal

pub first_never-requires-clause-by : goal.first_never-requires-clause-by
first_never-requires-clause-by c =
    plays_first c.requires.0 (all_seen c.args.journals.now) c.args.by.number c.args.player.number (seen c.in-Some-Some.by.now)
    (seen c.in-Some-Some.own.now) c.requires.1
    c.args.by.from_one c.args.player.from_one (sym c.in-Some-Some.ensures) (sym c.in-Some-Some.ensures')

pub first_never-requires-clause-own : goal.first_never-requires-clause-own
first_never-requires-clause-own c =
    rw c.later.ensures (plays_later c.requires.0 (all_seen c.args.journals.now) c.args.player.number (seen c.in-Some-Some.own.now)
    c.requires.1 c.args.player.from_one (sym c.in-Some-Some.ensures'))
