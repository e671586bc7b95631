-- All images keep the journal's bodies, so these are one of the lists, and an append adds one more.
use Rattle.std.proofs.Common.{Contains, subst}
use Rattle.c8_log.proofs.Lists.{one_list_more}
use Rattle.c8_log.proofs.laws.journals_add_one_list.Goals as goal

pub returns : goal.returns
returns g c old new t lists bodies body le keep so_far =
    let image = g.D.Disk.seen old in
    let left = g.met.D.Disk.reads_now old in
    one_list_more g.D.Disk old new t lists bodies body le
    (subst (Contains lists) (keep image left) (so_far image (g.met.D.Disk.counts_now old t image le left))) so_far
