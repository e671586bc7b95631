-- The least so far is that of the ticks and of the reaches of the players before `place`.
use Rattle.std.proofs.Common.{◌≡◌, map, take}
use Rattle.c8_known.specs.Tables.{table_value, least_of}
use Rattle.c8_known.proofs.table.least_reach.Given as goal

abbrev pub invariant-loop-place : goal.invariant-loop-place
invariant-loop-place l = l.least ≡ least_of (take l.place (map table_value l.tables)) l.ticks
