-- Both journals are of a game in which the player plays.
use Rattle.std.proofs.Common.{sym}
use Rattle.c8_audit.specs.Read.{seen, all_seen}
use Rattle.c8_audit.proofs.GivenLemmas.{plays_first}
use Rattle.c8_audit.proofs.verdict.end_of.Goals as goal

pub count-requires : goal.count-requires
count-requires c =
    plays_first c.requires.of_game.0 (all_seen c.args.journals.now) c.args.first.other.number c.args.first.one.number (seen c.in-Some.by.now)
    c.requires.own.0 c.requires.of_game.1 c.args.first.other.from_one c.args.first.one.from_one (sym c.in-Some.ensures) c.requires.own.1.is
