-- The instructions, each with its code of two bytes, from Weisbecker's table. X is the second digit of a code, Y the
-- third, N the last; KK are the last two digits, MMM the last three.
use Rattle.std.specs.Prelude.{◌≡◌, ◌≢◌, ℕ, ◌+◌, ◌*◌, ◌<◌, Option, Some, None}

pub data Instruction : Type 0 where
  -- 00E0
  Clear : Instruction
  -- 00EE
  Return : Instruction
  -- 1MMM
  Jump : (to : ℕ) → Instruction
  -- 2MMM
  Call : (to : ℕ) → Instruction
  -- 3XKK
  SkipIfValue : (x value : ℕ) → Instruction
  -- 4XKK
  SkipUnlessValue : (x value : ℕ) → Instruction
  -- 5XY0
  SkipIfSame : (x y : ℕ) → Instruction
  -- 6XKK
  SetValue : (x value : ℕ) → Instruction
  -- 7XKK
  AddValue : (x value : ℕ) → Instruction
  -- 8XY0
  Set : (x y : ℕ) → Instruction
  -- 8XY1
  Or : (x y : ℕ) → Instruction
  -- 8XY2
  And : (x y : ℕ) → Instruction
  -- 8XY3
  ExclusiveOr : (x y : ℕ) → Instruction
  -- 8XY4
  Add : (x y : ℕ) → Instruction
  -- 8XY5
  Subtract : (x y : ℕ) → Instruction
  -- 8XY6
  ShiftRight : (x y : ℕ) → Instruction
  -- 8XY7
  SubtractFrom : (x y : ℕ) → Instruction
  -- 8XYE
  ShiftLeft : (x y : ℕ) → Instruction
  -- 9XY0
  SkipUnlessSame : (x y : ℕ) → Instruction
  -- AMMM
  SetAddress : (to : ℕ) → Instruction
  -- BMMM
  JumpFrom : (to : ℕ) → Instruction
  -- CXKK
  Random : (x value : ℕ) → Instruction
  -- DXYN
  Draw : (x y rows : ℕ) → Instruction
  -- EX9E
  SkipIfDown : (x : ℕ) → Instruction
  -- EXA1
  SkipIfUp : (x : ℕ) → Instruction
  -- FX07
  ReadTimer : (x : ℕ) → Instruction
  -- FX0A
  AwaitKey : (x : ℕ) → Instruction
  -- FX15
  SetTimer : (x : ℕ) → Instruction
  -- FX18
  SetTone : (x : ℕ) → Instruction
  -- FX1E
  AddAddress : (x : ℕ) → Instruction
  -- FX29
  PointAtDigit : (x : ℕ) → Instruction
  -- FX33
  StoreDigits : (x : ℕ) → Instruction
  -- FX55
  StoreRegisters : (x : ℕ) → Instruction
  -- FX65
  LoadRegisters : (x : ℕ) → Instruction

-- a code by its four digits
abbrev pub digits : ℕ → ℕ → ℕ → ℕ → ℕ
digits a x y n = a * 0x1000 + x * 0x100 + y * 0x10 + n

-- a code by its first two digits and its second byte
abbrev pub with_byte : ℕ → ℕ → ℕ → ℕ
with_byte a x value = a * 0x1000 + x * 0x100 + value

-- a code by its first digit and an address
abbrev pub with_address : ℕ → ℕ → ℕ
with_address a to = a * 0x1000 + to

-- the code of an instruction
abbrev pub code_of : Instruction → ℕ
code_of Clear = 0x00E0
code_of Return = 0x00EE
code_of (Jump to) = with_address 0x1 to
code_of (Call to) = with_address 0x2 to
code_of (SkipIfValue x value) = with_byte 0x3 x value
code_of (SkipUnlessValue x value) = with_byte 0x4 x value
code_of (SkipIfSame x y) = digits 0x5 x y 0x0
code_of (SetValue x value) = with_byte 0x6 x value
code_of (AddValue x value) = with_byte 0x7 x value
code_of (Set x y) = digits 0x8 x y 0x0
code_of (Or x y) = digits 0x8 x y 0x1
code_of (And x y) = digits 0x8 x y 0x2
code_of (ExclusiveOr x y) = digits 0x8 x y 0x3
code_of (Add x y) = digits 0x8 x y 0x4
code_of (Subtract x y) = digits 0x8 x y 0x5
code_of (ShiftRight x y) = digits 0x8 x y 0x6
code_of (SubtractFrom x y) = digits 0x8 x y 0x7
code_of (ShiftLeft x y) = digits 0x8 x y 0xE
code_of (SkipUnlessSame x y) = digits 0x9 x y 0x0
code_of (SetAddress to) = with_address 0xA to
code_of (JumpFrom to) = with_address 0xB to
code_of (Random x value) = with_byte 0xC x value
code_of (Draw x y rows) = digits 0xD x y rows
code_of (SkipIfDown x) = digits 0xE x 0x9 0xE
code_of (SkipIfUp x) = digits 0xE x 0xA 0x1
code_of (ReadTimer x) = digits 0xF x 0x0 0x7
code_of (AwaitKey x) = digits 0xF x 0x0 0xA
code_of (SetTimer x) = digits 0xF x 0x1 0x5
code_of (SetTone x) = digits 0xF x 0x1 0x8
code_of (AddAddress x) = digits 0xF x 0x1 0xE
code_of (PointAtDigit x) = digits 0xF x 0x2 0x9
code_of (StoreDigits x) = digits 0xF x 0x3 0x3
code_of (StoreRegisters x) = digits 0xF x 0x5 0x5
code_of (LoadRegisters x) = digits 0xF x 0x6 0x5

abbrev pub IsDigit : ℕ → Type 0
IsDigit x = x < 0x10

abbrev pub IsByte : ℕ → Type 0
IsByte value = value < 0x100

abbrev pub IsAddress : ℕ → Type 0
IsAddress to = to < 0x1000

-- the parts of an instruction are digits, bytes and addresses
abbrev pub IsInRange : Instruction → Type 0
IsInRange Clear = Unit {0}
IsInRange Return = Unit {0}
IsInRange (Jump to) = IsAddress to
IsInRange (Call to) = IsAddress to
IsInRange (SkipIfValue x value) = IsDigit x × IsByte value
IsInRange (SkipUnlessValue x value) = IsDigit x × IsByte value
IsInRange (SkipIfSame x y) = IsDigit x × IsDigit y
IsInRange (SetValue x value) = IsDigit x × IsByte value
IsInRange (AddValue x value) = IsDigit x × IsByte value
IsInRange (Set x y) = IsDigit x × IsDigit y
IsInRange (Or x y) = IsDigit x × IsDigit y
IsInRange (And x y) = IsDigit x × IsDigit y
IsInRange (ExclusiveOr x y) = IsDigit x × IsDigit y
IsInRange (Add x y) = IsDigit x × IsDigit y
IsInRange (Subtract x y) = IsDigit x × IsDigit y
IsInRange (ShiftRight x y) = IsDigit x × IsDigit y
IsInRange (SubtractFrom x y) = IsDigit x × IsDigit y
IsInRange (ShiftLeft x y) = IsDigit x × IsDigit y
IsInRange (SkipUnlessSame x y) = IsDigit x × IsDigit y
IsInRange (SetAddress to) = IsAddress to
IsInRange (JumpFrom to) = IsAddress to
IsInRange (Random x value) = IsDigit x × IsByte value
IsInRange (Draw x y rows) = IsDigit x × IsDigit y × IsDigit rows
IsInRange (SkipIfDown x) = IsDigit x
IsInRange (SkipIfUp x) = IsDigit x
IsInRange (ReadTimer x) = IsDigit x
IsInRange (AwaitKey x) = IsDigit x
IsInRange (SetTimer x) = IsDigit x
IsInRange (SetTone x) = IsDigit x
IsInRange (AddAddress x) = IsDigit x
IsInRange (PointAtDigit x) = IsDigit x
IsInRange (StoreDigits x) = IsDigit x
IsInRange (StoreRegisters x) = IsDigit x
IsInRange (LoadRegisters x) = IsDigit x

-- the instruction with this code; None if no instruction has it
abbrev pub IsInstructionOf : ℕ → Option Instruction → Type 0
IsInstructionOf code (Some i) = IsInRange i × (code_of i ≡ code)
IsInstructionOf code None = (i : Instruction) → IsInRange i → code_of i ≢ code
