-- The state that given parts make, and which parts a machine can have.
use Rattle.std.specs.Prelude.{ℕ, ◌&&◌, Bool, true, Option, Some, None, List, take, slice_index, nat_lt, nat_le}
use Rattle.std.specs.List.{list_all}
use Rattle.c8_screen.specs.Points.{points_of}
use Rattle.c8_machine.specs.declared.machine.parts.Parts.{Parts}
use Rattle.c8_machine.specs.State.{State, memory_size, register_count, stack_size}

-- the state of a machine with these parts; return addresses that are not in use do not count
abbrev pub state_of : Parts → State
state_of p = record {
  memory = slice_index p.memory;
  registers = p.registers;
  address = p.address;
  counter = p.counter;
  stack = take p.depth p.places;
  screen = points_of p.screen;
  timer = p.timer;
  tone = p.tone;
  keys = p.keys.0;
  waits = p.waits;
  draws = p.draws;
  stop = p.stop;
}

-- all of these are addresses
abbrev pub are_addresses : List ℕ → Bool
are_addresses places = list_all (λ place. nat_lt place memory_size) places

-- no register waits, or one below 16 does
abbrev pub is_register : Option ℕ → Bool
is_register None = true
is_register (Some x) = nat_lt x register_count

-- Whether a machine can have these parts: each address is below 4096, the stack has at most 16 places, and the register
-- that waits exists. All other values of these types are possible.
abbrev pub are_of_a_machine : Parts → Bool
are_of_a_machine p =
    nat_lt p.address memory_size && nat_lt p.counter memory_size && nat_le p.depth stack_size && are_addresses (take p.depth p.places)
    && is_register p.waits
