-- An append's images keep the bodies before it, which are one of the lists, or these with the new one.
use Rattle.c8_log.specs.Slots.{kept}
use Rattle.c8_log.proofs.Lists.{one_list_more}
use Rattle.c8_log.proofs.laws.appends_add_one_list.Goals as goal

pub returns : goal.returns
returns g c old new t lists body le so_far run =
    let image = g.D.Disk.seen old in
    one_list_more g.D.Disk old new t lists (kept image) body le
    (so_far image (g.met.D.Disk.counts_now old t image le (g.met.D.Disk.reads_now old))) so_far run
