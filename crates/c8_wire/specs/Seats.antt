-- The seats of senders and addressees: players 1 to 4, watchers 5 and 6.
use Rattle.std.specs.Prelude.{ℕ, ◌==◌, ◌&&◌, Bool, not, nat_le}
use Rattle.c8_wire.specs.declared.kinds.DatagramKind.{DatagramKind}
use Rattle.c8_wire.specs.declared.kinds.Parties.{Parties}
use Rattle.c8_wire.specs.declared.kinds.Parties.TheVariants as parties
use Rattle.c8_wire.specs.Kinds.{shape_of}

abbrev pub is_within : ℕ → ℕ → ℕ → Bool
is_within least greatest number = nat_le least number && nat_le number greatest

abbrev pub is_player : ℕ → Bool
is_player seat = is_within 1 4 seat

abbrev pub is_watcher : ℕ → Bool
is_watcher seat = is_within 5 6 seat

abbrev pub are_two_players : ℕ → ℕ → Bool
are_two_players from to = (is_player from && is_player to) && not (from == to)

-- a player to another player, player one to a watcher, or a watcher to player one
abbrev pub are_parties : Parties → ℕ → ℕ → Bool
are_parties parties.Players from to = are_two_players from to
are_parties parties.ToWatcher from to = from == 1 && is_watcher to
are_parties parties.FromWatcher from to = is_watcher from && to == 1

-- who may send a kind to whom
abbrev pub are_seats : DatagramKind → ℕ → ℕ → Bool
are_seats kind from to = are_parties (shape_of kind).parties from to
