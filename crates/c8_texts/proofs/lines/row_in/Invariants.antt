-- The places so far spell the key sets of their players, and the other sets are still empty.
use Rattle.std.proofs.Common.{◌≡◌, ◌-◌, ◌++◌, map, replicate, true}
use Rattle.std.specs.List.{list_all, range_with_len}
use Rattle.c8_texts.specs.KeyLines.{are_keys_at, keys_at}
use Rattle.c8_texts.proofs.lines.row_in.Given as goal

-- each place so far has a set, and these are the sets
abbrev pub invariant-loop-place : goal.invariant-loop-place
invariant-loop-place l = record {
  found : list_all (are_keys_at l.line) (range_with_len 0 l.place) ≡ true;
  sets : l.sets ≡ map (keys_at l.line) (range_with_len 0 l.place) ++ replicate (4 - l.place) (record { 0 = 0 });
}
