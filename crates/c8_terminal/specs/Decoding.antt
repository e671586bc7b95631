-- The state of a decoder, and what one more byte does to it.
use Rattle.std.specs.Prelude.{ℕ, ◌+◌, ◌-◌, ◌*◌, ◌/◌, ◌%◌, ◌==◌, ◌&&◌, ◌||◌, Bool, false, min, nat_lt, nat_le, Option, Some, None, if◌then◌else◌}
use Rattle.c8_terminal.specs.declared.signal.Signal.{Signal}
use Rattle.c8_terminal.specs.declared.signal.Signal.TheVariants.{Struck, Down, Up, LetGo, Quit, Repaint, GiveUp, Help}
use Rattle.c8_terminal.specs.Keyboard.{key_of, arrow_key, small}

-- The numbers of a control sequence so far. `;` separates its fields, `:` the parts of a field; both are counted from
-- 0. A number that has not come is 0.
pub record Numbers : Type 0 where
  -- where the next digit belongs
  pub field : ℕ
  pub part : ℕ
  -- field 0: the character of a key, and in part 2 the one at its place on an English keyboard
  pub code : ℕ
  pub base : ℕ
  -- field 1: one more than the sum of the modifiers (control is 4), and in part 1 the event
  pub modifiers : ℕ
  pub event : ℕ

-- the part of a sequence that has been read
pub data Reading : Type 0 where
  -- nothing: the last sequence is complete
  Nothing : Reading
  -- ESC
  Escape : Reading
  -- ESC O
  Single : Reading
  -- ESC [ and numbers
  Control : Numbers → Reading
  -- ESC [ ? and the number so far: the beginning of a terminal's answer
  Answer : ℕ → Reading
  -- ESC [ and something that is ignored
  Foreign : Reading

-- a decoder: the part of a sequence that it has read, and whether the terminal is known to report releases
pub record Decoding : Type 0 where
  pub reading : Reading
  pub exact : Bool

-- a decoder that has read nothing
abbrev pub nothing_read : Decoding
nothing_read = record { reading = Nothing; exact = false }

-- the signal of one byte, and the decoder after it
pub record Step : Type 0 where
  pub told : Option Signal
  pub next : Decoding

-- the sequence continues
abbrev pub reads : Reading → Bool → Step
reads reading exact = record { told = None; next = record { reading = reading; exact = exact } }

-- a sequence is complete
abbrev pub tells : Option Signal → Bool → Step
tells signal exact = record { told = signal; next = record { reading = Nothing; exact = exact } }

abbrev pub is_digit : ℕ → Bool
is_digit b = nat_le 0x30 b && nat_le b 0x39

-- a byte that a sequence may have, and one that ends a control sequence
abbrev pub is_text : ℕ → Bool
is_text b = nat_le 0x20 b && nat_le b 0x7E

abbrev pub is_last : ℕ → Bool
is_last b = nat_le 0x40 b && nat_le b 0x7E

-- the signal of a key of the keypad and an event: 1 pressed, 2 repeated, 3 released, 0 if the terminal names none
abbrev pub told_of : ℕ → Bool → ℕ → Option Signal
told_of event exact key =
    if event == 3 then Some (Up key)
    else if nat_lt 3 event then None
    else if exact then Some (Down key)
    else Some (Struck key)

-- the same, if there is such a key
abbrev pub told_of_any : Option ℕ → ℕ → Bool → Option Signal
told_of_any None event exact = None
told_of_any (Some key) event exact = told_of event exact key

-- a byte that is a character: control-C, control-D, control-L, or another
abbrev pub character : ℕ → Option Signal
character b =
    if b == 0x03 then Some Quit
    else if b == 0x04 then Some GiveUp
    else if b == 0x0C then Some Repaint
    else told_of_any (key_of b) 0 false

-- a byte that starts over, whatever was read: an ESC, or a character
abbrev pub alone : ℕ → Bool → Step
alone b exact = if b == 0x1B then reads Escape exact else tells (character b) exact

abbrev pub no_numbers : Numbers
no_numbers = record { field = 0; part = 0; code = 0; base = 0; modifiers = 0; event = 0 }

-- after ESC: another ESC, so that the first was the escape key; the beginning of a sequence; or a character with alt
abbrev pub escaped : ℕ → Bool → Step
escaped b exact =
    if b == 0x1B then record { told = Some Quit; next = record { reading = Escape; exact = exact } }
    else if b == 0x5B then reads (Control no_numbers) exact
    else if b == 0x4F then reads Single exact
    else tells None exact

-- the signal of an arrow, by the last byte of the sequence
abbrev pub arrow : ℕ → ℕ → Bool → Option Signal
arrow b event exact = told_of_any (arrow_key b) event exact

-- the signal of the key F1, by its event: a press asks for help
abbrev pub help_of : ℕ → Option Signal
help_of event = if nat_lt 1 event then None else Some Help

-- the signal of F1 or of an arrow, by the last byte of the sequence
abbrev pub named : ℕ → ℕ → Bool → Option Signal
named b event exact = if b == 0x50 then help_of event else arrow b event exact

-- a number with one more digit; numbers above 65535 become 65535
abbrev pub with_digit : ℕ → ℕ → ℕ
with_digit n b = min (10 * n + (b - 0x30)) 65535

abbrev pub stands_at : ℕ → ℕ → Numbers → Bool
stands_at field part n = n.field == field && n.part == part

-- the numbers with one more digit, which may belong to a number that is ignored
abbrev pub with_number : ℕ → Numbers → Numbers
with_number b n =
    record n {
      code = if stands_at 0 0 n then with_digit n.code b else n.code;
      base = if stands_at 0 2 n then with_digit n.base b else n.base;
      modifiers = if stands_at 1 0 n then with_digit n.modifiers b else n.modifiers;
      event = if stands_at 1 1 n then with_digit n.event b else n.event;
    }

-- nothing but zeros has come
abbrev pub is_blank : Numbers → Bool
is_blank n = stands_at 0 0 n && n.code == 0

-- the next part, or the next field, starts; all parts from the fourth on count as one, and all fields from the third on
abbrev pub next_part : Numbers → Numbers
next_part n = record n { part = min (n.part + 1) 3 }

abbrev pub next_field : Numbers → Numbers
next_field n = record n { field = min (n.field + 1) 2; part = 0 }

-- a byte of a control sequence that is not its last
abbrev pub control_with : ℕ → Numbers → Reading
control_with b n =
    if is_digit b then Control (with_number b n)
    else if b == 0x3A then Control (next_part n)
    else if b == 0x3B then Control (next_field n)
    else if b == 0x3F && is_blank n then Answer 0
    else Foreign

-- a byte of an answer that is not its last
abbrev pub answer_with : ℕ → ℕ → Reading
answer_with b flags = if is_digit b then Answer (with_digit flags b) else Foreign

-- the key of the keypad, by the place of the key that was used, if the terminal gives it
abbrev pub key_at : Numbers → Option ℕ
key_at n = if n.base == 0 then key_of n.code else key_of n.base

abbrev pub has_control : Numbers → Bool
has_control n = ((n.modifiers - 1) / 4) % 2 == 1

-- the key is this letter, by its character or by its place
abbrev pub is_letter : ℕ → Numbers → Bool
is_letter letter n = small n.code == letter || small n.base == letter

-- a letter with control: C, D or L
abbrev pub with_control : Numbers → Option Signal
with_control n =
    if is_letter 0x63 n then Some Quit
    else if is_letter 0x64 n then Some GiveUp
    else if is_letter 0x6C n then Some Repaint
    else None

-- the signal of an event of a key: a release counts whatever else is held; a press of escape ends; a press with control
-- is no key of the keypad
abbrev pub key_event : Numbers → Bool → Option Signal
key_event n exact =
    if nat_lt 2 n.event then told_of_any (key_at n) n.event exact
    else if n.code == 27 then Some Quit
    else if has_control n then with_control n
    else told_of_any (key_at n) n.event exact

-- the signal of a control sequence: u is an event of a key, O the loss of the focus, P is F1, A to D an arrow
abbrev pub meaning : ℕ → Numbers → Bool → Option Signal
meaning b n exact =
    if b == 0x75 then key_event n exact
    else if b == 0x4F then Some LetGo
    else named b n.event exact

abbrev pub names_event : Numbers → Bool
names_event n = nat_lt 0 n.event

-- the flag 2 of an answer: the terminal reports event types
abbrev pub reports_events : ℕ → Bool
reports_events flags = (flags / 2) % 2 == 1

-- a terminal counts as exact, as one that reports releases, once it answers that it reports event types, or names an
-- event; a u alone is not enough, and no other answer changes this
abbrev pub exact_after : Numbers → Bool → Bool
exact_after n exact = exact || names_event n

abbrev pub exact_after_answer : ℕ → ℕ → Bool → Bool
exact_after_answer b flags exact = exact || (b == 0x75 && reports_events flags)

abbrev pub control_ended : ℕ → Numbers → Bool → Step
control_ended b n exact = tells (meaning b n (exact_after n exact)) (exact_after n exact)

-- what one byte does to a decoder
abbrev pub step_in : Reading → ℕ → Bool → Step
step_in Nothing b exact = alone b exact
step_in Escape b exact = escaped b exact
step_in Single b exact = if is_text b then tells (named b 0 exact) exact else alone b exact
step_in (Control n) b exact =
    if is_last b then control_ended b n exact
    else if is_text b then reads (control_with b n) exact
    else alone b exact
step_in (Answer flags) b exact =
    if is_last b then tells None (exact_after_answer b flags exact)
    else if is_text b then reads (answer_with b flags) exact
    else alone b exact
step_in Foreign b exact =
    if is_last b then tells None exact
    else if is_text b then reads Foreign exact
    else alone b exact

abbrev pub step : ℕ → Decoding → Step
step b d = step_in d.reading b d.exact

-- no byte follows for now: a lone ESC was the escape key
abbrev pub pause_in : Reading → Bool → Step
pause_in Nothing exact = reads Nothing exact
pause_in Escape exact = tells (Some Quit) exact
pause_in Single exact = reads Single exact
pause_in (Control n) exact = reads (Control n) exact
pause_in (Answer flags) exact = reads (Answer flags) exact
pause_in Foreign exact = reads Foreign exact

abbrev pub pause : Decoding → Step
pause d = pause_in d.reading d.exact
