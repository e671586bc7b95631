-- A FROZEN goes beyond if its length is above what a list can have, or its run ends after that length.
use Rattle.std.proofs.Common.{rules}
use Rattle.c8_wire.proofs.reading.goes_beyond.Goals as goal

pub returns-in-Frozen : goal.returns-in-Frozen
returns-in-Frozen c = search rules
