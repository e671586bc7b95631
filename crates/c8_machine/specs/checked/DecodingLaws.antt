-- Checked, not believed: each code has one instruction, and `instruction_of` finds it.
use Rattle.std.proofs.Common.{◌≡◌, ℕ, ◌+◌, ◌*◌, ◌/◌, ◌%◌, ◌&&◌, cond, nat_eq, Option, Some, None, refl, sym, inl, inr, arith}
use Rattle.std.proofs.lemmas.Bool.{cases_Bool, and_parts, cond-true, cond-false, eqb-true}
use Rattle.c8_machine.specs.Instructions.{Instruction, Clear, Return, Jump, Call, SkipIfValue, SkipUnlessValue, SkipIfSame, SetValue}
use Rattle.c8_machine.specs.Instructions.{AddValue, Set, Or, And, ExclusiveOr, Add, Subtract, ShiftRight, SubtractFrom, ShiftLeft}
use Rattle.c8_machine.specs.Instructions.{SkipUnlessSame, SetAddress, JumpFrom, Random, Draw, SkipIfDown, SkipIfUp, ReadTimer, AwaitKey}
use Rattle.c8_machine.specs.Instructions.{SetTimer, SetTone, AddAddress, PointAtDigit, StoreDigits, StoreRegisters, LoadRegisters, code_of}
use Rattle.c8_machine.specs.Instructions.{digits, with_byte, with_address, IsInRange, IsDigit, IsByte, IsAddress, IsInstructionOf}
use Rattle.c8_machine.specs.checked.Decoding.{instruction_of, instruction_by, system_instruction, arithmetic_instruction, key_instruction}
use Rattle.c8_machine.specs.checked.Decoding.{register_instruction}

-- ---- the instruction of a code is found

parts_are : (code a x y n value to : ℕ) → code / 0x1000 ≡ a → code / 0x100 % 0x10 ≡ x → code / 0x10 % 0x10 ≡ y → code % 0x10 ≡ n
    → code % 0x100 ≡ value → code % 0x1000 ≡ to
    → instruction_of code ≡ instruction_by code a x y n value to
parts_are code a x y n value to at_a at_x at_y at_n at_value at_to =
    λ i. instruction_by code (at_a i) (at_x i) (at_y i) (at_n i) (at_value i) (at_to i)

of_digits : (a x y n : ℕ) → IsDigit x → IsDigit y → IsDigit n
    → instruction_of (digits a x y n) ≡ instruction_by (digits a x y n) a x y n (y * 0x10 + n) (x * 0x100 + y * 0x10 + n)
of_digits a x y n x_in y_in n_in = parts_are (digits a x y n) a x y n (y * 0x10 + n) (x * 0x100 + y * 0x10 + n) (omega arith) (omega arith)
    (omega arith) (omega arith) (omega arith) (omega arith)

of_byte : (a x value : ℕ) → IsDigit x → IsByte value
    → instruction_of (with_byte a x value) ≡ instruction_by (with_byte a x value) a x (value / 0x10) (value % 0x10) value (x * 0x100 + value)
of_byte a x value x_in value_in = parts_are (with_byte a x value) a x (value / 0x10) (value % 0x10) value (x * 0x100 + value) (omega arith)
    (omega arith) (omega arith) (omega arith) (omega arith) (omega arith)

of_address : (a to : ℕ) → IsAddress to → instruction_of (with_address a to)
    ≡ instruction_by (with_address a to) a (to / 0x100) (to / 0x10 % 0x10) (to % 0x10) (to % 0x100) to
of_address a to to_in = parts_are (with_address a to) a (to / 0x100) (to / 0x10 % 0x10) (to % 0x10) (to % 0x100) to (omega arith)
    (omega arith) (omega arith) (omega arith) (omega arith) (omega arith)

finds : (i : Instruction) → IsInRange i → instruction_of (code_of i) ≡ Some i
unfolding instruction_by system_instruction arithmetic_instruction key_instruction register_instruction
finds Clear is_in = refl
finds Return is_in = refl
finds (Jump to) to_in = of_address 0x1 to to_in
finds (Call to) to_in = of_address 0x2 to to_in
finds (SetAddress to) to_in = of_address 0xA to to_in
finds (JumpFrom to) to_in = of_address 0xB to to_in
finds (SkipIfValue x value) (x_in, value_in) = of_byte 0x3 x value x_in value_in
finds (SkipUnlessValue x value) (x_in, value_in) = of_byte 0x4 x value x_in value_in
finds (SetValue x value) (x_in, value_in) = of_byte 0x6 x value x_in value_in
finds (AddValue x value) (x_in, value_in) = of_byte 0x7 x value x_in value_in
finds (Random x value) (x_in, value_in) = of_byte 0xC x value x_in value_in
finds (SkipIfSame x y) (x_in, y_in) = of_digits 0x5 x y 0x0 x_in y_in (omega arith)
finds (Set x y) (x_in, y_in) = of_digits 0x8 x y 0x0 x_in y_in (omega arith)
finds (Or x y) (x_in, y_in) = of_digits 0x8 x y 0x1 x_in y_in (omega arith)
finds (And x y) (x_in, y_in) = of_digits 0x8 x y 0x2 x_in y_in (omega arith)
finds (ExclusiveOr x y) (x_in, y_in) = of_digits 0x8 x y 0x3 x_in y_in (omega arith)
finds (Add x y) (x_in, y_in) = of_digits 0x8 x y 0x4 x_in y_in (omega arith)
finds (Subtract x y) (x_in, y_in) = of_digits 0x8 x y 0x5 x_in y_in (omega arith)
finds (ShiftRight x y) (x_in, y_in) = of_digits 0x8 x y 0x6 x_in y_in (omega arith)
finds (SubtractFrom x y) (x_in, y_in) = of_digits 0x8 x y 0x7 x_in y_in (omega arith)
finds (ShiftLeft x y) (x_in, y_in) = of_digits 0x8 x y 0xE x_in y_in (omega arith)
finds (SkipUnlessSame x y) (x_in, y_in) = of_digits 0x9 x y 0x0 x_in y_in (omega arith)
finds (Draw x y rows) (x_in, y_in, rows_in) = of_digits 0xD x y rows x_in y_in rows_in
finds (SkipIfDown x) x_in = of_digits 0xE x 0x9 0xE x_in (omega arith) (omega arith)
finds (SkipIfUp x) x_in = of_digits 0xE x 0xA 0x1 x_in (omega arith) (omega arith)
finds (ReadTimer x) x_in = of_digits 0xF x 0x0 0x7 x_in (omega arith) (omega arith)
finds (AwaitKey x) x_in = of_digits 0xF x 0x0 0xA x_in (omega arith) (omega arith)
finds (SetTimer x) x_in = of_digits 0xF x 0x1 0x5 x_in (omega arith) (omega arith)
finds (SetTone x) x_in = of_digits 0xF x 0x1 0x8 x_in (omega arith) (omega arith)
finds (AddAddress x) x_in = of_digits 0xF x 0x1 0xE x_in (omega arith) (omega arith)
finds (PointAtDigit x) x_in = of_digits 0xF x 0x2 0x9 x_in (omega arith) (omega arith)
finds (StoreDigits x) x_in = of_digits 0xF x 0x3 0x3 x_in (omega arith) (omega arith)
finds (StoreRegisters x) x_in = of_digits 0xF x 0x5 0x5 x_in (omega arith) (omega arith)
finds (LoadRegisters x) x_in = of_digits 0xF x 0x6 0x5 x_in (omega arith) (omega arith)

-- ---- the instruction that is found has this code

-- the instruction that is found, if any, has this code
abbrev IsSound : ℕ → Option Instruction → Type 0
IsSound code (Some i) = IsInRange i × (code_of i ≡ code)
IsSound code None = Unit {0}

-- by a test: what is found if it holds, and if not
by_test : (code a b : ℕ) (p q : Option Instruction) → (a ≡ b → IsSound code p) → IsSound code q → IsSound code (cond (nat_eq a b) p q)
by_test code a b p q on off = elim (cases_Bool (nat_eq a b)) [
  | inl holds ↦ rw (cond-true _ _ _ holds) (on (eqb-true a b holds))
  | inr fails ↦ rw (cond-false _ _ _ fails) off
]

by_tests : (code a b c d : ℕ) (p q : Option Instruction) → (a ≡ b → c ≡ d → IsSound code p) → IsSound code q
    → IsSound code (cond (nat_eq a b && nat_eq c d) p q)
by_tests code a b c d p q on off = elim (cases_Bool (nat_eq a b && nat_eq c d)) [
  | inl holds ↦ let both = and_parts _ _ holds in rw (cond-true _ _ _ holds) (on (eqb-true a b both.0) (eqb-true c d both.1))
  | inr fails ↦ rw (cond-false _ _ _ fails) off
]

module _ (code a x y n value to : ℕ) (x_in : IsDigit x) (y_in : IsDigit y) (n_in : IsDigit n) (value_in : IsByte value) (to_in : IsAddress to)
    (by_digits : digits a x y n ≡ code) (by_byte : with_byte a x value ≡ code) (by_address : with_address a to ≡ code) where
  system : IsSound code (system_instruction code)
  unfolding system_instruction
  system = by_test code code 0x00E0 _ _ (λ e. (tt, sym e)) (by_test code code 0x00EE _ _ (λ e. (tt, sym e)) tt)

  arithmetic : a ≡ 0x8 → IsSound code (arithmetic_instruction x y n)
  unfolding arithmetic_instruction
  arithmetic is =
      by_test code n 0x0 _ _ (λ e. ((x_in, y_in), omega arith)) (
      by_test code n 0x1 _ _ (λ e. ((x_in, y_in), omega arith)) (
      by_test code n 0x2 _ _ (λ e. ((x_in, y_in), omega arith)) (
      by_test code n 0x3 _ _ (λ e. ((x_in, y_in), omega arith)) (
      by_test code n 0x4 _ _ (λ e. ((x_in, y_in), omega arith)) (
      by_test code n 0x5 _ _ (λ e. ((x_in, y_in), omega arith)) (
      by_test code n 0x6 _ _ (λ e. ((x_in, y_in), omega arith)) (
      by_test code n 0x7 _ _ (λ e. ((x_in, y_in), omega arith)) (
      by_test code n 0xE _ _ (λ e. ((x_in, y_in), omega arith)) tt))))))))

  keyed : a ≡ 0xE → IsSound code (key_instruction x value)
  unfolding key_instruction
  keyed is =
      by_test code value 0x9E _ _ (λ e. (x_in, omega arith)) (
      by_test code value 0xA1 _ _ (λ e. (x_in, omega arith)) tt)

  registered : a ≡ 0xF → IsSound code (register_instruction x value)
  unfolding register_instruction
  registered is =
      by_test code value 0x07 _ _ (λ e. (x_in, omega arith)) (
      by_test code value 0x0A _ _ (λ e. (x_in, omega arith)) (
      by_test code value 0x15 _ _ (λ e. (x_in, omega arith)) (
      by_test code value 0x18 _ _ (λ e. (x_in, omega arith)) (
      by_test code value 0x1E _ _ (λ e. (x_in, omega arith)) (
      by_test code value 0x29 _ _ (λ e. (x_in, omega arith)) (
      by_test code value 0x33 _ _ (λ e. (x_in, omega arith)) (
      by_test code value 0x55 _ _ (λ e. (x_in, omega arith)) (
      by_test code value 0x65 _ _ (λ e. (x_in, omega arith)) tt))))))))

  pub sound : IsSound code (instruction_by code a x y n value to)
  unfolding instruction_by
  sound =
      by_test code a 0x0 _ _ (λ _. system) (
      by_test code a 0x1 _ _ (λ e. (to_in, omega arith)) (
      by_test code a 0x2 _ _ (λ e. (to_in, omega arith)) (
      by_test code a 0x3 _ _ (λ e. ((x_in, value_in), omega arith)) (
      by_test code a 0x4 _ _ (λ e. ((x_in, value_in), omega arith)) (
      by_tests code a 0x5 n 0x0 _ _ (λ e f. ((x_in, y_in), omega arith)) (
      by_test code a 0x6 _ _ (λ e. ((x_in, value_in), omega arith)) (
      by_test code a 0x7 _ _ (λ e. ((x_in, value_in), omega arith)) (
      by_test code a 0x8 _ _ arithmetic (
      by_tests code a 0x9 n 0x0 _ _ (λ e f. ((x_in, y_in), omega arith)) (
      by_test code a 0xA _ _ (λ e. (to_in, omega arith)) (
      by_test code a 0xB _ _ (λ e. (to_in, omega arith)) (
      by_test code a 0xC _ _ (λ e. ((x_in, value_in), omega arith)) (
      by_test code a 0xD _ _ (λ e. ((x_in, y_in, n_in), omega arith)) (
      by_test code a 0xE _ _ keyed (
      by_test code a 0xF _ _ registered tt)))))))))))))))

found_is : (code : ℕ) → IsSound code (instruction_of code)
found_is code = sound code (code / 0x1000) (code / 0x100 % 0x10) (code / 0x10 % 0x10) (code % 0x10) (code % 0x100) (code % 0x1000)
    (omega arith) (omega arith) (omega arith) (omega arith) (omega arith) (omega arith) (omega arith) (omega arith)

-- ---- both together

none_else : (code : ℕ) (i : Instruction) → instruction_of code ≡ None → IsInRange i → code_of i ≡ code → ⊥
none_else code i none in_range written =
    let found : instruction_of code ≡ Some i = rw written at (finds i in_range) in
    cc

by_found : (code : ℕ) (found : Option Instruction) → instruction_of code ≡ found → IsSound code found → IsInstructionOf code found
by_found code (Some i) same is = is
by_found code None same is = λ i in_range written. none_else code i same in_range written

pub is_instruction_of : (code : ℕ) → IsInstructionOf code (instruction_of code)
is_instruction_of code = by_found code (instruction_of code) refl (found_is code)

no_instruction : (code : ℕ) (found : Option Instruction) → IsInstructionOf code None → IsSound code found → None ≡ found
no_instruction code None none is = refl
no_instruction code (Some i) none (in_range, written) = absurd (none i in_range written)

pub only_instruction : (code : ℕ) (i : Option Instruction) → IsInstructionOf code i → i ≡ instruction_of code
only_instruction code (Some i) (in_range, written) = rw written at (sym (finds i in_range))
only_instruction code None none = no_instruction code (instruction_of code) none (found_is code)
