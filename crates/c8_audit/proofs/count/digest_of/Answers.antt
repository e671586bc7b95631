-- Player 1 stays, so it has confirmed at least the least count, and the rows to run are its confirmed ones.
use Rattle.std.proofs.Common.{◌≡◌, ◌≤◌, ◌∙◌, sym, subst}
use Rattle.c8_known.specs.Confirmed.{confirmed}
use Rattle.c8_audit.specs.Journals.{Seen}
use Rattle.c8_audit.specs.Read.{seen}
use Rattle.c8_audit.proofs.ReadingLemmas.{some_same}
use Rattle.c8_audit.proofs.count.digest_of.Goals as goal

pub machine_after-requires : goal.machine_after-requires
machine_after-requires c =
    let one = c.requires.one in
    let same : one.0 ≡ seen c.in-Some.one.now = some_same one.0 (seen c.in-Some.one.now) (sym one.1.given.is ∙ sym c.in-Some.ensures) in
    subst (λ (s : Seen). c.args.frames ≤ confirmed s.first) same (c.requires.count.least 1 one.0 one.1)
