-- Before the first counter nothing was taken and no mark is set.
use Rattle.std.proofs.Common.{ap, ◌∙◌, Bool, List}
use Rattle.c8_transport.specs.SeenBits.{mark_of}
use Rattle.c8_transport.proofs.SeenLemmas.{no_mark}
use Rattle.c8_transport.proofs.seen.Seen.new.Goals as goal

pub invariant_of-result : goal.invariant_of-result
invariant_of-result c = (c.new.ensures, λ n. ap (λ (marks : List Bool). mark_of marks n) c.no_marks.ensures ∙ no_mark n)
