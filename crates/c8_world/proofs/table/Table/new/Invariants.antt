-- The nodes so far have empty disks, with this capacity and this many calls, of peers that were never opened.
use Rattle.std.proofs.Common.{◌≡◌, ◌≤◌}
use Rattle.std.specs.Prelude.{All, vec_len, vec_capacity}
use Rattle.c8_world.specs.Table.{IsUntouched, IsNodeed}
use Rattle.c8_world.specs.Disks.{IsNewDisk}
use Rattle.c8_world.proofs.table.Table.new.Given as goal

abbrev pub invariant-loop : goal.invariant-loop
invariant-loop l = record {
  few : vec_len l.nodes ≡ l.counter;
  room : l.players ≤ vec_capacity l.nodes;
  nodeed : All IsNodeed l.nodes.items;
  untouched : All IsUntouched l.nodes.items;
  disks : All (IsNewDisk l.capacity l.calls) l.nodes.items;
}
