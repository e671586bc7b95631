-- The journal is the player's.
use Rattle.std.proofs.Common.{sym}
use Rattle.c8_audit.specs.Read.{seen, all_seen}
use Rattle.c8_audit.proofs.ShortLemmas.{ahead_of}
use Rattle.c8_audit.proofs.agreed.is_ahead.Goals as goal

pub returns-in-Some : goal.returns-in-Some
returns-in-Some c = (
  λ yes. (seen c.in-Some.journal.now, record { from_one = c.args.player.from_one; is = sym c.in-Some.ensures }, c.has_more_cuts.ensures.0 yes),
  λ some. c.has_more_cuts.ensures.1
      (ahead_of (all_seen c.args.journals.now) c.args.player.number (seen c.in-Some.journal.now) (sym c.in-Some.ensures) some),
)
