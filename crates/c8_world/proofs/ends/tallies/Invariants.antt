-- The tallies so far are those of the first standings, and there is room for the others.
use Rattle.std.proofs.Common.{◌≡◌, ◌≤◌, map, take, length}
use Rattle.std.specs.Prelude.{vec_len, vec_capacity}
use Rattle.c8_world.specs.Ends.{tally_at}
use Rattle.c8_world.proofs.ends.tallies.Given as goal

abbrev pub invariant-loop-standing : goal.invariant-loop-standing
invariant-loop-standing l = record {
  so_far : l.players.items ≡ map tally_at (take l.standing-index l.standings);
  count : vec_len l.players ≡ l.standing-index;
  room : length l.standings ≤ vec_capacity l.players;
}
