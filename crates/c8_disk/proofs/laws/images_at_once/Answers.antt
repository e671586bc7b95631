-- Call by call or at once, the images are the same: any bytes where a write since the last sync was.
use Rattle.c8_disk.specs.checked.AtOnceLaws.{between, each_between}
use Rattle.c8_disk.proofs.laws.images_at_once.Goals as goal

pub returns-clause-only : goal.returns-clause-only
returns-clause-only c = between

pub returns-clause-each : goal.returns-clause-each
returns-clause-each c = each_between
