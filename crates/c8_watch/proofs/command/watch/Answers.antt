-- The status is done for a machine that is the serial run of the rows seen, else that of the refusal's part.
use Rattle.std.proofs.Common.{Ok, refl}
use Rattle.c8_watch.proofs.WatchedLemmas.{watched_refused}
use Rattle.c8_watch.proofs.command.watch.Goals as goal

pub returns-in_ok-write_report-in-Ok : goal.returns-in_ok-write_report-in-Ok
returns-in_ok-write_report-in-Ok g c = (Ok c.in-Ok.played, c.in-Ok.ensures, refl)

pub returns-in-Err : goal.returns-in-Err
returns-in-Err g c = watched_refused c.refuse_among.result c.in-Err.fault.error c.refuse_among.ensures.status_is
