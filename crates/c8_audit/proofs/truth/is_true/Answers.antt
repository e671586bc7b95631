-- A journal's last checkpoint is true exactly if its confirmed rows lead there.
use Rattle.c8_digest.specs.Origin.{origin_of}
use Rattle.c8_audit.specs.Read.{seen}
use Rattle.c8_audit.proofs.TruthLemmas.{true_at}
use Rattle.c8_audit.proofs.truth.is_true.Goals as goal

pub returns-in-Some-last : goal.returns-in-Some-last
returns-in-Some-last c =
    rw c.in-Some.is (true_at c.args.game.now (seen c.in-Some.journal.now) (origin_of c.in-Some-last.last.now) c.is_on_the_way.result
    c.in-Some-last.ensures c.is_on_the_way.ensures)
