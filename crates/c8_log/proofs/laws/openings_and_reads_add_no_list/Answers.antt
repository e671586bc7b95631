-- An opening or a read leaves only bodies that an image before it kept.
use Rattle.std.proofs.Common.{⊎_elim, Contains, sym, subst}
use Rattle.c8_log.proofs.laws.openings_and_reads_add_no_list.Goals as goal

pub returns-clause-opening : goal.returns-clause-opening
returns-clause-opening g c old new t lists le so_far run image left =
    ⊎_elim (so_far image) (λ kept_one. subst (Contains lists) (sym kept_one.2)
    (so_far kept_one.0 (g.met.D.Disk.counts_now old t kept_one.0 le kept_one.1))) (run.before t image le left)

pub returns-clause-read : goal.returns-clause-read
returns-clause-read g c old new t lists le so_far run image left =
    ⊎_elim (so_far image) (λ now. so_far image (g.met.D.Disk.counts_now old t image le now)) (run.before t image le left)
