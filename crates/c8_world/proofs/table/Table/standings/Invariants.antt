-- Each player below `number` has its standing, by its journal in whatever world the table holds.
use Rattle.std.proofs.Common.{◌≡◌, ◌≤◌, ℕ, ◌+◌, ◌-◌, ◌<◌, slice_index_or}
use Rattle.std.specs.Prelude.{vec_len, vec_capacity}
use Rattle.c8_world.specs.World.{World, peer_of}
use Rattle.c8_world.specs.declared.ends.Standing.{Standing}
use Rattle.c8_world.specs.Table.{Holds, node_of}
use Rattle.c8_world.specs.Ends.{IsStanding}
use Rattle.c8_world.proofs.table.Table.standings.Given as goal

abbrev pub invariant-loop-number : goal.invariant-loop-number
invariant-loop-number l = record {
  from_one : 1 ≤ l.number;
  count : vec_len l.standings + 1 ≡ l.number;
  room : l.players ≤ vec_capacity l.standings;
  known : (w : World) → Holds l.self w → (p : ℕ) (other : Standing) → 1 ≤ p → p < l.number
      → IsStanding l.self.rules p (peer_of w p) (node_of l.self p) (slice_index_or l.standings.items (p - 1) other);
}
