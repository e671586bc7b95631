-- If nobody is accused, the first input names the journal that ends too early.
use Rattle.c8_audit.specs.Read.{all_seen}
use Rattle.c8_audit.proofs.ShortLemmas.{short_by}
use Rattle.c8_audit.proofs.verdict.accused.Goals as goal

pub returns-in-None : goal.returns-in-None
returns-in-None c =
    short_by (all_seen c.args.journals.now) c.least_fault.result c.args.first c.end_of.result c.short_of.result c.least_fault.ensures
    c.in-None.is c.requires.first c.end_of.ensures c.short_of.ensures.player c.short_of.ensures.length
