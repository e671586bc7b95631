-- Checked, not believed: a function that finds the instruction of a code, test by test.
use Rattle.std.specs.Prelude.{◌≡◌, ℕ, ◌/◌, ◌%◌, ◌==◌, ◌&&◌, Option, Some, None, if◌then◌else◌}
use Rattle.c8_machine.specs.declared.operation.Operation.{Operation}
use Rattle.c8_machine.specs.declared.operation.Operation.TheVariants as operation
use Rattle.c8_machine.specs.Instructions.{Instruction, Clear, Return, Jump, Call, SkipIfValue, SkipUnlessValue, SkipIfSame, SetValue}
use Rattle.c8_machine.specs.Instructions.{AddValue, Set, Or, And, ExclusiveOr, Add, Subtract, ShiftRight, SubtractFrom, ShiftLeft}
use Rattle.c8_machine.specs.Instructions.{SkipUnlessSame, SetAddress, JumpFrom, Random, Draw, SkipIfDown, SkipIfUp, ReadTimer, AwaitKey}
use Rattle.c8_machine.specs.Instructions.{SetTimer, SetTone, AddAddress, PointAtDigit, StoreDigits, StoreRegisters, LoadRegisters}
use Rattle.c8_machine.specs.Instructions.{IsInstructionOf}

-- of a code whose first digit is 0
unfoldable pub system_instruction : ℕ → Option Instruction
system_instruction code =
    if code == 0x00E0 then Some Clear
    else if code == 0x00EE then Some Return
    else None

-- of a code 8XYN
unfoldable pub arithmetic_instruction : (x y n : ℕ) → Option Instruction
arithmetic_instruction x y n =
    if n == 0x0 then Some (Set x y)
    else if n == 0x1 then Some (Or x y)
    else if n == 0x2 then Some (And x y)
    else if n == 0x3 then Some (ExclusiveOr x y)
    else if n == 0x4 then Some (Add x y)
    else if n == 0x5 then Some (Subtract x y)
    else if n == 0x6 then Some (ShiftRight x y)
    else if n == 0x7 then Some (SubtractFrom x y)
    else if n == 0xE then Some (ShiftLeft x y)
    else None

-- of a code EXKK
unfoldable pub key_instruction : (x value : ℕ) → Option Instruction
key_instruction x value =
    if value == 0x9E then Some (SkipIfDown x)
    else if value == 0xA1 then Some (SkipIfUp x)
    else None

-- of a code FXKK
unfoldable pub register_instruction : (x value : ℕ) → Option Instruction
register_instruction x value =
    if value == 0x07 then Some (ReadTimer x)
    else if value == 0x0A then Some (AwaitKey x)
    else if value == 0x15 then Some (SetTimer x)
    else if value == 0x18 then Some (SetTone x)
    else if value == 0x1E then Some (AddAddress x)
    else if value == 0x29 then Some (PointAtDigit x)
    else if value == 0x33 then Some (StoreDigits x)
    else if value == 0x55 then Some (StoreRegisters x)
    else if value == 0x65 then Some (LoadRegisters x)
    else None

-- from the parts of a code: its four digits, its last two and its last three
unfoldable pub instruction_by : (code a x y n value to : ℕ) → Option Instruction
instruction_by code a x y n value to =
    if a == 0x0 then system_instruction code
    else if a == 0x1 then Some (Jump to)
    else if a == 0x2 then Some (Call to)
    else if a == 0x3 then Some (SkipIfValue x value)
    else if a == 0x4 then Some (SkipUnlessValue x value)
    else if a == 0x5 && n == 0x0 then Some (SkipIfSame x y)
    else if a == 0x6 then Some (SetValue x value)
    else if a == 0x7 then Some (AddValue x value)
    else if a == 0x8 then arithmetic_instruction x y n
    else if a == 0x9 && n == 0x0 then Some (SkipUnlessSame x y)
    else if a == 0xA then Some (SetAddress to)
    else if a == 0xB then Some (JumpFrom to)
    else if a == 0xC then Some (Random x value)
    else if a == 0xD then Some (Draw x y n)
    else if a == 0xE then key_instruction x value
    else if a == 0xF then register_instruction x value
    else None

abbrev pub instruction_of : ℕ → Option Instruction
instruction_of code = instruction_by code (code / 0x1000) (code / 0x100 % 0x10) (code / 0x10 % 0x10) (code % 0x10) (code % 0x100) (code % 0x1000)

-- the instruction that an operation of the code means
abbrev pub meaning : Operation → Option Instruction
meaning operation.Clear = Some Clear
meaning operation.Return = Some Return
meaning (operation.Jump to) = Some (Jump to)
meaning (operation.Call to) = Some (Call to)
meaning (operation.SkipIfValue x value) = Some (SkipIfValue x value)
meaning (operation.SkipUnlessValue x value) = Some (SkipUnlessValue x value)
meaning (operation.SkipIfSame x y) = Some (SkipIfSame x y)
meaning (operation.SetValue x value) = Some (SetValue x value)
meaning (operation.AddValue x value) = Some (AddValue x value)
meaning (operation.Set x y) = Some (Set x y)
meaning (operation.Or x y) = Some (Or x y)
meaning (operation.And x y) = Some (And x y)
meaning (operation.ExclusiveOr x y) = Some (ExclusiveOr x y)
meaning (operation.Add x y) = Some (Add x y)
meaning (operation.Subtract x y) = Some (Subtract x y)
meaning (operation.ShiftRight x y) = Some (ShiftRight x y)
meaning (operation.SubtractFrom x y) = Some (SubtractFrom x y)
meaning (operation.ShiftLeft x y) = Some (ShiftLeft x y)
meaning (operation.SkipUnlessSame x y) = Some (SkipUnlessSame x y)
meaning (operation.SetAddress to) = Some (SetAddress to)
meaning (operation.JumpFrom to) = Some (JumpFrom to)
meaning (operation.Random x value) = Some (Random x value)
meaning (operation.Draw x y rows) = Some (Draw x y rows)
meaning (operation.SkipIfDown x) = Some (SkipIfDown x)
meaning (operation.SkipIfUp x) = Some (SkipIfUp x)
meaning (operation.ReadTimer x) = Some (ReadTimer x)
meaning (operation.AwaitKey x) = Some (AwaitKey x)
meaning (operation.SetTimer x) = Some (SetTimer x)
meaning (operation.SetTone x) = Some (SetTone x)
meaning (operation.AddAddress x) = Some (AddAddress x)
meaning (operation.PointAtDigit x) = Some (PointAtDigit x)
meaning (operation.StoreDigits x) = Some (StoreDigits x)
meaning (operation.StoreRegisters x) = Some (StoreRegisters x)
meaning (operation.LoadRegisters x) = Some (LoadRegisters x)
meaning operation.Unknown = None

-- a code has one instruction or none, and `instruction_of` says which
pub record HasOneInstruction (code : ℕ) : Type 0 where
  pub is_one : IsInstructionOf code (instruction_of code)
  pub is_only : (i : Option Instruction) → IsInstructionOf code i → i ≡ instruction_of code
