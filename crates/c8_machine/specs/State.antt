-- The state of a machine, apart from how the code stores it.
use Rattle.std.specs.Prelude.{◌≡◌, ℕ, ◌-◌, ◌^◌, ◌<◌, ◌≤◌, Option, None, IfSome, List, [], ◌∷◌, length, nat_le, replicate, slice_index, take}
use Rattle.std.specs.Prelude.{if◌then◌else◌}
use Rattle.c8_screen.specs.Points.{Points, no_points, points_of, AreOnScreen}
use Rattle.c8_game.specs.Rules.{Rules}
use Rattle.c8_machine.specs.declared.machine.Machine.{Machine}
use Rattle.c8_machine.specs.declared.machine.Stop.{Stop}
use Rattle.c8_machine.specs.declared.machine.Stop.TheVariants.{UnknownInstruction, StackFull, StackEmpty}

-- the size of the memory in bytes; addresses are below it
abbrev pub memory_size : ℕ
memory_size = 0x1000

abbrev pub register_count : ℕ
register_count = 16

-- the most return addresses
abbrev pub stack_size : ℕ
stack_size = 16

-- the address of the program, and of the digit patterns
abbrev pub program_at : ℕ
program_at = 0x200

abbrev pub patterns_at : ℕ
patterns_at = 0x50

-- the byte at each address
abbrev pub Memory : Type 0
Memory = ℕ → ℕ

pub record State : Type 0 where
  pub memory : Memory
  -- V0 to VF
  pub registers : List ℕ
  -- I
  pub address : ℕ
  -- the address of the next instruction
  pub counter : ℕ
  -- the return addresses, at most 16, oldest first
  pub stack : List ℕ
  pub screen : Points
  pub timer : ℕ
  pub tone : ℕ
  -- the remembered keys: those of the last frame at whose start the machine had not stopped
  pub keys : ℕ
  -- the register that waits for a key
  pub waits : Option ℕ
  -- how many random bytes were drawn, modulo 2 ^ 64
  pub draws : ℕ
  pub stop : Option Stop

-- the states that a machine can have, by the size and range of each part
pub record IsState (s : State) : Type 0 where
  pub bytes : (at : ℕ) → s.memory at < 2 ^ 8
  pub no_more_bytes : (at : ℕ) → memory_size ≤ at → s.memory at ≡ 0
  pub registers : length s.registers ≡ register_count
  pub values : (x : ℕ) → slice_index s.registers x < 2 ^ 8
  pub address : s.address < memory_size
  pub counter : s.counter < memory_size
  pub depth : length s.stack ≤ stack_size
  pub places : (k : ℕ) → slice_index s.stack k < memory_size
  pub points : AreOnScreen s.screen
  pub timer : s.timer < 2 ^ 8
  pub tone : s.tone < 2 ^ 8
  pub keys : s.keys < 2 ^ 16
  pub waits : IfSome s.waits (λ x. x < register_count)
  pub draws : s.draws < 2 ^ 64

-- the state of a machine of the code
abbrev pub state : Machine → State
state machine = record {
  memory = slice_index machine.memory;
  registers = machine.registers;
  address = machine.address;
  counter = machine.counter;
  stack = take machine.depth machine.places;
  screen = points_of machine.screen;
  timer = machine.timer;
  tone = machine.tone;
  keys = machine.keys.0;
  waits = machine.waits;
  draws = machine.draws;
  stop = machine.stop;
}

-- the number of a stop
abbrev pub number_of : Stop → ℕ
number_of UnknownInstruction = 1
number_of StackFull = 2
number_of StackEmpty = 3

-- the patterns of the digits 0 to F, five bytes each
abbrev pub digit_patterns : List ℕ
digit_patterns =
    0xF0 ∷ 0x90 ∷ 0x90 ∷ 0x90 ∷ 0xF0 ∷
    0x20 ∷ 0x60 ∷ 0x20 ∷ 0x20 ∷ 0x70 ∷
    0xF0 ∷ 0x10 ∷ 0xF0 ∷ 0x80 ∷ 0xF0 ∷
    0xF0 ∷ 0x10 ∷ 0xF0 ∷ 0x10 ∷ 0xF0 ∷
    0x90 ∷ 0x90 ∷ 0xF0 ∷ 0x10 ∷ 0x10 ∷
    0xF0 ∷ 0x80 ∷ 0xF0 ∷ 0x10 ∷ 0xF0 ∷
    0xF0 ∷ 0x80 ∷ 0xF0 ∷ 0x90 ∷ 0xF0 ∷
    0xF0 ∷ 0x10 ∷ 0x20 ∷ 0x40 ∷ 0x40 ∷
    0xF0 ∷ 0x90 ∷ 0xF0 ∷ 0x90 ∷ 0xF0 ∷
    0xF0 ∷ 0x90 ∷ 0xF0 ∷ 0x10 ∷ 0xF0 ∷
    0xF0 ∷ 0x90 ∷ 0xF0 ∷ 0x90 ∷ 0x90 ∷
    0xE0 ∷ 0x90 ∷ 0xE0 ∷ 0x90 ∷ 0xE0 ∷
    0xF0 ∷ 0x80 ∷ 0x80 ∷ 0x80 ∷ 0xF0 ∷
    0xE0 ∷ 0x90 ∷ 0x90 ∷ 0x90 ∷ 0xE0 ∷
    0xF0 ∷ 0x80 ∷ 0xF0 ∷ 0x80 ∷ 0xF0 ∷
    0xF0 ∷ 0x80 ∷ 0xF0 ∷ 0x80 ∷ 0x80 ∷ []

-- the memory before the first frame: the digit patterns from address 50 (hexadecimal) on, the program from 200 on, and
-- 0 elsewhere; `slice_index` is 0 beyond the end of either
abbrev pub first_memory : List ℕ → Memory
first_memory program at =
    if nat_le program_at at then slice_index program (at - program_at) else if nat_le patterns_at at then slice_index digit_patterns
    (at - patterns_at) else 0

-- the machine before the first frame
abbrev pub first_state : Rules → State
first_state rules = record {
  memory = first_memory rules.program;
  registers = replicate register_count 0;
  address = 0;
  counter = program_at;
  stack = [];
  screen = no_points;
  timer = 0;
  tone = 0;
  keys = 0;
  waits = None;
  draws = 0;
  stop = None;
}
