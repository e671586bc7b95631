-- What one instruction does: a relation between the machine before and after it. It has one case for each row of the
-- instruction table of docs/MACHINE.md, under its code.
use Rattle.std.specs.Prelude.{◌≡◌, ℕ, ◌+◌, ◌-◌, ◌*◌, ◌/◌, ◌%◌, ◌^◌, ◌==◌, ◌&&◌, Bool, not, MatchBool, Option, Some, None, List, [], ◌∷◌}
use Rattle.std.specs.Prelude.{◌++◌, length, take, drop, map, nat_le, nat_lt, bit_and, bit_or, bit_xor, slice_index, slice_set}
use Rattle.std.specs.Prelude.{if◌then◌else◌}
use Rattle.std.specs.Int.{bit_at, to_be_bytes, w64}
use Rattle.std.specs.List.{range_with_len}
use Rattle.sha2.specs.Sha256.{sha256}
use Rattle.c8_screen.specs.Points.{Points, no_points, sprite, clipped, exclusive_or, meets}
use Rattle.c8_game.specs.Rules.{Rules}
use Rattle.c8_machine.specs.declared.machine.Step.{Step}
use Rattle.c8_machine.specs.declared.machine.Step.TheVariants.{Went, Drew, Waits, Stopped}
use Rattle.c8_machine.specs.declared.machine.Stop.{Stop}
use Rattle.c8_machine.specs.declared.machine.Stop.TheVariants.{UnknownInstruction, StackFull, StackEmpty}
use Rattle.c8_machine.specs.Instructions.{Instruction, IsInstructionOf, Clear, Return, Jump, Call, SkipIfValue, SkipUnlessValue, SkipIfSame}
use Rattle.c8_machine.specs.Instructions.{SetValue, AddValue, Set, Or, And, ExclusiveOr, Add, Subtract, ShiftRight, SubtractFrom, ShiftLeft}
use Rattle.c8_machine.specs.Instructions.{SkipUnlessSame, SetAddress, JumpFrom, Random, Draw, SkipIfDown, SkipIfUp, ReadTimer, AwaitKey}
use Rattle.c8_machine.specs.Instructions.{SetTimer, SetTone, AddAddress, PointAtDigit, StoreDigits, StoreRegisters, LoadRegisters}
use Rattle.c8_machine.specs.State.{State, Memory, memory_size, stack_size, patterns_at}

-- ---- parts of a machine

-- the two bytes at the counter
abbrev pub code_at : State → ℕ
code_at s = s.memory s.counter * 0x100 + s.memory ((s.counter + 1) % memory_size)

-- the byte k places after I
abbrev pub byte_at : State → ℕ → ℕ
byte_at s k = s.memory ((s.address + k) % memory_size)

abbrev pub register : State → ℕ → ℕ
register s x = slice_index s.registers x

abbrev pub with_register : State → ℕ → ℕ → State
with_register s x value = record s { registers = slice_set s.registers x value }

-- VF, the flag
abbrev pub with_flag : State → ℕ → State
with_flag s flag = with_register s 0xF flag

abbrev pub flag_if : Bool → ℕ
flag_if test = if test then 1 else 0

abbrev pub is_down : ℕ → ℕ → Bool
is_down keys key = bit_at keys key == 1

-- the address after the instruction
abbrev pub next : State → ℕ
next s = (s.counter + 2) % memory_size

-- the counter moved to the next instruction
abbrev pub passed : State → State
passed s = record s { counter = next s }

-- the counter moved to the next instruction, or to the one after it
abbrev pub skipped_if : Bool → State → State
skipped_if test s = record s { counter = if test then (s.counter + 4) % memory_size else next s }

-- the machine stopped at the instruction, and nothing else changed
abbrev pub stopped : Stop → State → State
stopped why s = record s { stop = Some why }

-- the memory with bytes stored from an address on; address 0 follows the last address
abbrev pub stored : List ℕ → ℕ → Memory → Memory
stored bytes from memory at =
    let place = (at + memory_size - from) % memory_size in
    if nat_lt at memory_size && nat_lt place (length bytes) then slice_index bytes place else memory at

-- random byte number n of a game with this seed
unfoldable pub random_byte : ℕ → ℕ → ℕ
random_byte seed n = slice_index (sha256 (to_be_bytes w64 seed ++ to_be_bytes w64 n)) 0

-- the points of `rows` bytes from I on, with the origin modulo 64 and 32, clipped to the screen
abbrev pub drawing : State → ℕ → ℕ → ℕ → Points
drawing s left top rows = clipped (sprite rows (byte_at s) (left % 64) (top % 32))

-- ---- the table

-- an instruction takes machine s to machine t with this answer, under the game's rules and the keys of the frame
abbrev pub Does : Rules → ℕ → Instruction → State → State → Step → Type 0
-- 00E0
Does rules keys Clear s t step = (step ≡ Went) × (t ≡ record (passed s) { screen = no_points })
-- 00EE
Does rules keys Return s t step =
    MatchBool (nat_lt 0 (length s.stack))
    ((step ≡ Went) × (t ≡ record s { counter = slice_index s.stack (length s.stack - 1); stack = take (length s.stack - 1) s.stack }))
    ((step ≡ Stopped) × (t ≡ stopped StackEmpty s))
-- 1MMM
Does rules keys (Jump to) s t step = (step ≡ Went) × (t ≡ record s { counter = to })
-- 2MMM
Does rules keys (Call to) s t step =
    MatchBool (nat_lt (length s.stack) stack_size)
    ((step ≡ Went) × (t ≡ record s { counter = to; stack = s.stack ++ next s ∷ [] }))
    ((step ≡ Stopped) × (t ≡ stopped StackFull s))
-- 3XKK
Does rules keys (SkipIfValue x value) s t step = (step ≡ Went) × (t ≡ skipped_if (register s x == value) s)
-- 4XKK
Does rules keys (SkipUnlessValue x value) s t step = (step ≡ Went) × (t ≡ skipped_if (not (register s x == value)) s)
-- 5XY0
Does rules keys (SkipIfSame x y) s t step = (step ≡ Went) × (t ≡ skipped_if (register s x == register s y) s)
-- 9XY0
Does rules keys (SkipUnlessSame x y) s t step = (step ≡ Went) × (t ≡ skipped_if (not (register s x == register s y)) s)
-- 6XKK
Does rules keys (SetValue x value) s t step = (step ≡ Went) × (t ≡ with_register (passed s) x value)
-- 7XKK
Does rules keys (AddValue x value) s t step = (step ≡ Went) × (t ≡ with_register (passed s) x ((register s x + value) % 0x100))
-- 8XY0
Does rules keys (Set x y) s t step = (step ≡ Went) × (t ≡ with_register (passed s) x (register s y))
-- 8XY1
Does rules keys (Or x y) s t step = (step ≡ Went) × (t ≡ with_flag (with_register (passed s) x (bit_or (register s x) (register s y))) 0)
-- 8XY2
Does rules keys (And x y) s t step = (step ≡ Went) × (t ≡ with_flag (with_register (passed s) x (bit_and (register s x) (register s y))) 0)
-- 8XY3
Does rules keys (ExclusiveOr x y) s t step = (step ≡ Went) × (t ≡ with_flag (with_register (passed s) x (bit_xor (register s x) (register s y))) 0)
-- 8XY4
Does rules keys (Add x y) s t step =
    let sum = register s x + register s y in
    (step ≡ Went) × (t ≡ with_flag (with_register (passed s) x (sum % 0x100)) (flag_if (nat_lt 0xFF sum)))
-- 8XY5
Does rules keys (Subtract x y) s t step =
    (step ≡ Went) × (t ≡ with_flag (with_register (passed s) x ((register s x + 0x100 - register s y) % 0x100))
    (flag_if (nat_le (register s y) (register s x))))
-- 8XY6
Does rules keys (ShiftRight x y) s t step = (step ≡ Went) × (t ≡ with_flag (with_register (passed s) x (register s y / 2)) (register s y % 2))
-- 8XY7
Does rules keys (SubtractFrom x y) s t step =
    (step ≡ Went) × (t ≡ with_flag (with_register (passed s) x ((register s y + 0x100 - register s x) % 0x100))
    (flag_if (nat_le (register s x) (register s y))))
-- 8XYE
Does rules keys (ShiftLeft x y) s t step =
    (step ≡ Went) × (t ≡ with_flag (with_register (passed s) x (register s y * 2 % 0x100)) (register s y / 0x80))
-- AMMM
Does rules keys (SetAddress to) s t step = (step ≡ Went) × (t ≡ record (passed s) { address = to })
-- BMMM
Does rules keys (JumpFrom to) s t step = (step ≡ Went) × (t ≡ record s { counter = (to + register s 0) % memory_size })
-- CXKK
Does rules keys (Random x value) s t step =
    (step ≡ Went) × (t ≡ with_register (record (passed s) { draws = (s.draws + 1) % 2 ^ 64 }) x (bit_and (random_byte rules.seed s.draws) value))
-- DXYN
Does rules keys (Draw x y rows) s t step =
    let points = drawing s (register s x) (register s y) rows in
    (step ≡ Drew) × (t ≡ with_flag (record (passed s) { screen = exclusive_or s.screen points }) (flag_if (meets s.screen points)))
-- EX9E
Does rules keys (SkipIfDown x) s t step = (step ≡ Went) × (t ≡ skipped_if (is_down keys (register s x % 0x10)) s)
-- EXA1
Does rules keys (SkipIfUp x) s t step = (step ≡ Went) × (t ≡ skipped_if (not (is_down keys (register s x % 0x10))) s)
-- FX07
Does rules keys (ReadTimer x) s t step = (step ≡ Went) × (t ≡ with_register (passed s) x s.timer)
-- FX0A
Does rules keys (AwaitKey x) s t step = (step ≡ Waits) × (t ≡ record (passed s) { waits = Some x })
-- FX15
Does rules keys (SetTimer x) s t step = (step ≡ Went) × (t ≡ record (passed s) { timer = register s x })
-- FX18
Does rules keys (SetTone x) s t step = (step ≡ Went) × (t ≡ record (passed s) { tone = register s x })
-- FX1E
Does rules keys (AddAddress x) s t step = (step ≡ Went) × (t ≡ record (passed s) { address = (s.address + register s x) % memory_size })
-- FX29
Does rules keys (PointAtDigit x) s t step = (step ≡ Went) × (t ≡ record (passed s) { address = patterns_at + 5 * (register s x % 0x10) })
-- FX33
Does rules keys (StoreDigits x) s t step =
    let decimals = register s x / 100 ∷ register s x / 10 % 10 ∷ register s x % 10 ∷ [] in
    (step ≡ Went) × (t ≡ record (passed s) { memory = stored decimals s.address s.memory })
-- FX55
Does rules keys (StoreRegisters x) s t step =
    (step ≡ Went) × (t ≡ record (passed s) {
      memory = stored (take (x + 1) s.registers) s.address s.memory;
      address = (s.address + x + 1) % memory_size;
    })
-- FX65
Does rules keys (LoadRegisters x) s t step =
    (step ≡ Went) × (t ≡ record (passed s) {
      registers = map (byte_at s) (range_with_len 0 (x + 1)) ++ drop (x + 1) s.registers;
      address = (s.address + x + 1) % memory_size;
    })

-- an instruction that depends on no rule of the game and on no key
abbrev pub Performs : Instruction → State → State → Step → Type 0
Performs instruction s t step = (rules : Rules) (keys : ℕ) → Does rules keys instruction s t step

-- what a machine does at a code: its instruction; without one it stops as at an unknown instruction
abbrev pub Executes : Rules → ℕ → Option Instruction → State → State → Step → Type 0
Executes rules keys (Some i) s t step = Does rules keys i s t step
Executes rules keys None s t step = (step ≡ Stopped) × (t ≡ stopped UnknownInstruction s)

-- One step of a machine: the instruction with the code at its counter. Waits and stops do not matter here:
-- `Machine::step` answers `Held` to a machine that waits or has stopped, and a frame takes no step then.
pub record IsStep (rules : Rules) (keys : ℕ) (s t : State) (step : Step) : Type 0 where
  pub instruction : Option Instruction
  pub is : IsInstructionOf (code_at s) instruction
  pub does : Executes rules keys instruction s t step
