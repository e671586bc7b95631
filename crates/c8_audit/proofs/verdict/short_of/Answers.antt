-- The player plays in the game of its own journal.
use Rattle.std.proofs.Common.{sym}
use Rattle.c8_audit.specs.Read.{seen, all_seen}
use Rattle.c8_audit.proofs.GivenLemmas.{plays_later}
use Rattle.c8_audit.proofs.verdict.short_of.Goals as goal

pub count-requires : goal.count-requires
count-requires c =
    rw c.later.ensures (plays_later c.requires.of_game.0 (all_seen c.args.journals.now) c.args.player.number (seen c.in-Some.own.now)
    c.requires.of_game.1 c.args.player.from_one (sym c.in-Some.ensures))
