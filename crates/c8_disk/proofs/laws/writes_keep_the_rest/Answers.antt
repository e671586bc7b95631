-- A whole write changes nothing outside its range and counts as torn; so does no write at all.
use Rattle.c8_disk.specs.checked.TornLaws.{overwritten_is, untouched}
use Rattle.c8_disk.proofs.laws.writes_keep_the_rest.Goals as goal

pub returns-clause-whole : goal.returns-clause-whole
returns-clause-whole c = overwritten_is

pub returns-clause-none : goal.returns-clause-none
returns-clause-none c old at count = untouched at count old
