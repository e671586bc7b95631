-- All places of the network that were looked at are counted.
use Rattle.std.proofs.Common.{◌≡◌, ◌≤◌, take}
use Rattle.std.specs.Prelude.{count_by}
use Rattle.c8_relay_web.specs.Connections.{is_of}
use Rattle.c8_relay_web.proofs.crowd.Crowd.is_full.Given as goal

abbrev pub invariant-loop-one : goal.invariant-loop-one
invariant-loop-one l = record {
  counted : l.count ≡ count_by (is_of l.network) (take l.one-index l.self.networks.items);
  fits : l.count ≤ l.one-index;
}
