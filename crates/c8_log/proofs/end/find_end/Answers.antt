-- A disk that lends its bytes needs no read for the end; any other needs those of `read_end`.
use Rattle.std.proofs.Common.{◌≡◌, Bool, true, false, Ok, sym, ap, ◌∙◌, subst}
use Rattle.std.specs.Prelude.{is_some}
use Rattle.c8_disk.specs.Asks.{Asks, Reads, answer_of}
use Rattle.c8_disk.specs.checked.AsksLaws.{asks_no_read}
use Rattle.c8_log.specs.Asked.{end_reads}
use Rattle.c8_log.proofs.end.find_end.Goals as goal

pub returns-in-Some-clause-asks : goal.returns-in-Some-clause-asks
returns-in-Some-clause-asks g c =
    let disk = c.args.disk.now in
    let lent : true ≡ g.D.Disk.lends = sym (ap is_some c.in-Some.is) ∙ c.end_held.ensures.lent in
    subst (λ (lends : Bool). Asks g.D.Disk (Reads (end_reads lends (g.D.Disk.seen disk))) (Ok tt) disk disk) lent (asks_no_read g.D.Disk disk)

pub returns-in-None-clause-asks : goal.returns-in-None-clause-asks
returns-in-None-clause-asks g c =
    let disk = c.args.disk.now in
    let lent : false ≡ g.D.Disk.lends = sym (ap is_some c.in-None.is) ∙ c.end_held.ensures.lent in
    subst (λ (lends : Bool). Asks g.D.Disk (Reads (end_reads lends (g.D.Disk.seen disk))) (answer_of c.read_end.result) disk
    c.read_end.new.disk) lent c.read_end.ensures.asks
