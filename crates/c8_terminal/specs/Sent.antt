-- What a terminal sends for what a person does, and the signals that this gives: a grammar, independent of the decoder.
use Rattle.std.specs.Prelude.{◌≡◌, ℕ, ◌<◌, ◌≤◌, ◌^◌, ◌||◌, Bool, true, min, List, [], ◌∷◌, ◌++◌, Option, Some, None}
use Rattle.std.specs.Fmt.{decimal}
use Rattle.std.specs.List.{flat_map}
use Rattle.c8_terminal.specs.declared.signal.Signal.{Signal}
use Rattle.c8_terminal.specs.declared.signal.Signal.TheVariants.{LetGo, Help}
use Rattle.c8_terminal.specs.Decoding.{Decoding, Nothing, Numbers, Step, character, help_of, key_event, reports_events, step, tells, told_of}

pub data Direction : Type 0 where
  Upward : Direction
  Downward : Direction
  Rightward : Direction
  Leftward : Direction

-- what a terminal sends for one action. The number of modifiers is one more than their sum. An event is 1 for a press,
-- 2 for a repeat, 3 for a release.
pub data Sent : Type 0 where
  -- a character of ASCII, or a character with control
  Typed : (byte : ℕ) → Sent
  -- an arrow, in the form that most terminals send, and in the other form
  Arrow : Direction → Sent
  SingleArrow : Direction → Sent
  -- an event of an arrow
  ArrowEvent : Direction → (modifiers event : ℕ) → Sent
  -- a press of F1, in the form that most terminals send, and in the other form; an event of F1
  SingleHelp : Sent
  HelpPress : Sent
  HelpEvent : (modifiers event : ℕ) → Sent
  -- a press of a key: its character, with modifiers or with none
  KeyPress : (code : ℕ) → Sent
  ModifiedKeyPress : (code modifiers : ℕ) → Sent
  -- an event of a key: its character; or that, its character with shift, and the character at its place on an English
  -- keyboard
  KeyEvent : (code modifiers event : ℕ) → Sent
  PlacedKeyEvent : (code shifted base modifiers event : ℕ) → Sent
  -- the window lost the focus, or got it
  FocusLost : Sent
  FocusCame : Sent
  -- the answer of a terminal with the protocol, or a part of it: flags; flag 2 says that it reports event types
  Flags : (flags : ℕ) → Sent

abbrev pub letter : Direction → ℕ
letter Upward = 0x41
letter Downward = 0x42
letter Rightward = 0x43
letter Leftward = 0x44

-- ESC [ and what follows
abbrev pub control : List ℕ → List ℕ
control rest = 0x1B ∷ 0x5B ∷ rest

-- numbers are decimal; ; is 3B, : is 3A, u is 75 (hexadecimal)
abbrev pub bytes_of : Sent → List ℕ
bytes_of (Typed byte) = byte ∷ []
bytes_of (Arrow direction) = control (letter direction ∷ [])
bytes_of (SingleArrow direction) = 0x1B ∷ 0x4F ∷ letter direction ∷ []
bytes_of (ArrowEvent direction modifiers event) = control (0x31 ∷ 0x3B ∷ (decimal modifiers ++ 0x3A ∷ (decimal event ++ letter direction ∷ [])))
bytes_of SingleHelp = 0x1B ∷ 0x4F ∷ 0x50 ∷ []
bytes_of HelpPress = control (0x50 ∷ [])
bytes_of (HelpEvent modifiers event) = control (0x31 ∷ 0x3B ∷ (decimal modifiers ++ 0x3A ∷ (decimal event ++ 0x50 ∷ [])))
bytes_of (KeyPress code) = control (decimal code ++ 0x75 ∷ [])
bytes_of (ModifiedKeyPress code modifiers) = control (decimal code ++ 0x3B ∷ (decimal modifiers ++ 0x75 ∷ []))
bytes_of (KeyEvent code modifiers event) = control (decimal code ++ 0x3B ∷ (decimal modifiers ++ 0x3A ∷ (decimal event ++ 0x75 ∷ [])))
bytes_of (PlacedKeyEvent code shifted base modifiers event) =
    control (decimal code ++ 0x3A ∷ (decimal shifted ++ 0x3A ∷ (decimal base ++ 0x3B ∷ (decimal modifiers ++ 0x3A ∷ (decimal event ++ 0x75 ∷ [])))))
bytes_of FocusLost = control (0x4F ∷ [])
bytes_of FocusCame = control (0x49 ∷ [])
bytes_of (Flags flags) = control (0x3F ∷ (decimal flags ++ 0x75 ∷ []))

-- a number, at most 65535
abbrev pub capped : ℕ → ℕ
capped n = min n 65535

abbrev pub numbers : (code base modifiers event : ℕ) → Numbers
numbers code base modifiers event =
    record { field = 1; part = 1; code = capped code; base = capped base; modifiers = capped modifiers; event = capped event }

abbrev pub arrow_key : Direction → ℕ
arrow_key Upward = 0x5
arrow_key Downward = 0x8
arrow_key Rightward = 0x9
arrow_key Leftward = 0x7

-- the signal, by whether the terminal is known to report releases
abbrev pub told : Sent → Bool → Option Signal
told (Typed byte) exact = character byte
told (Arrow direction) exact = told_of 0 exact (arrow_key direction)
told (SingleArrow direction) exact = told_of 0 exact (arrow_key direction)
told (ArrowEvent direction modifiers event) exact = told_of event true (arrow_key direction)
told SingleHelp exact = Some Help
told HelpPress exact = Some Help
told (HelpEvent modifiers event) exact = help_of event
told (KeyPress code) exact = key_event (numbers code 0 0 0) exact
told (ModifiedKeyPress code modifiers) exact = key_event (numbers code 0 modifiers 0) exact
told (KeyEvent code modifiers event) exact = key_event (numbers code 0 modifiers event) true
told (PlacedKeyEvent code shifted base modifiers event) exact = key_event (numbers code base modifiers event) true
told FocusLost exact = Some LetGo
told FocusCame exact = None
told (Flags flags) exact = None

-- whether the terminal is known to report releases after that: once it answers that it reports event types, or names an
-- event
abbrev pub exact_after : Sent → Bool → Bool
exact_after (Typed byte) exact = exact
exact_after (Arrow direction) exact = exact
exact_after (SingleArrow direction) exact = exact
exact_after (ArrowEvent direction modifiers event) exact = true
exact_after SingleHelp exact = exact
exact_after HelpPress exact = exact
exact_after (HelpEvent modifiers event) exact = true
exact_after (KeyPress code) exact = exact
exact_after (ModifiedKeyPress code modifiers) exact = exact
exact_after (KeyEvent code modifiers event) exact = true
exact_after (PlacedKeyEvent code shifted base modifiers event) exact = true
exact_after FocusLost exact = exact
exact_after FocusCame exact = exact
exact_after (Flags flags) exact = exact || reports_events (capped flags)

-- a number that fits 64 bits
abbrev pub Fits : ℕ → Type 0
Fits n = n < 2 ^ 64

-- a typed byte is not ESC, an event of an arrow or of F1 is one of the three, and an event of a key is named
abbrev pub IsSent : Sent → Type 0
IsSent (Typed byte) = (byte ≡ 0x1B → ⊥)
IsSent (Arrow direction) = Unit {0}
IsSent (SingleArrow direction) = Unit {0}
IsSent (ArrowEvent direction modifiers event) = Fits modifiers × (1 ≤ event) × (event ≤ 3)
IsSent SingleHelp = Unit {0}
IsSent HelpPress = Unit {0}
IsSent (HelpEvent modifiers event) = Fits modifiers × (1 ≤ event) × (event ≤ 3)
IsSent (KeyPress code) = Fits code
IsSent (ModifiedKeyPress code modifiers) = Fits code × Fits modifiers
IsSent (KeyEvent code modifiers event) = Fits code × Fits modifiers × (1 ≤ event) × Fits event
IsSent (PlacedKeyEvent code shifted base modifiers event) = Fits code × Fits shifted × Fits base × Fits modifiers × (1 ≤ event) × Fits event
IsSent FocusLost = Unit {0}
IsSent FocusCame = Unit {0}
IsSent (Flags flags) = Fits flags

-- the last of the bytes makes this step, and the bytes before it give no signal
abbrev pub AreOne : List ℕ → Decoding → Step → Type 0
AreOne [] d last = ⊥
AreOne (b ∷ []) d last = step b d ≡ last
AreOne (b ∷ c ∷ more) d last = ((step b d).told ≡ None) × AreOne (c ∷ more) (step b d).next last

-- a decoder between two sequences
abbrev pub ready : Bool → Decoding
ready exact = record { reading = Nothing; exact = exact }

-- the bytes give the signal at the last byte, and then the decoder is ready again
abbrev pub IsRead : Sent → Type 0
IsRead sent = (exact : Bool) → AreOne (bytes_of sent) (ready exact) (tells (told sent exact) (exact_after sent exact))

-- a signal, if there is one, and later ones
abbrev pub with_told : Option Signal → List Signal → List Signal
with_told None later = later
with_told (Some signal) later = signal ∷ later

-- all signals of some bytes
abbrev pub told_by : List ℕ → Decoding → List Signal
told_by [] d = []
told_by (b ∷ bs) d = with_told (step b d).told (told_by bs (step b d).next)

-- all signals of what is sent
abbrev pub told_of_all : List Sent → Bool → List Signal
told_of_all [] exact = []
told_of_all (sent ∷ rest) exact = with_told (told sent exact) (told_of_all rest (exact_after sent exact))

abbrev pub all_bytes : List Sent → List ℕ
all_bytes sent = flat_map bytes_of sent

abbrev pub AreSent : List Sent → Type 0
AreSent [] = Unit {0}
AreSent (sent ∷ rest) = IsSent sent × AreSent rest
