-- The keys of a decoder's signals are keys of the keypad.
use Rattle.std.proofs.Common.{rules, sym, subst, ◌≡◌, ℕ, ◌<◌, Bool, true, false, cond, Option, Some, None}
use Rattle.std.specs.Prelude.{◌==◌, nat_lt, IfSome}
use Rattle.c8_terminal.specs.declared.signal.Signal.{Signal}
use Rattle.c8_terminal.specs.declared.signal.Signal.TheVariants.{LetGo, Quit, Repaint, GiveUp, Help}
use Rattle.c8_terminal.specs.Decoder.{IsOfKeypad}
use Rattle.c8_terminal.specs.Decoding.{Reading, Nothing, Escape, Single, Control, Answer, Foreign, Numbers, Step, alone, answer_with, arrow}
use Rattle.c8_terminal.specs.Decoding.{character, control_ended, control_with, exact_after, exact_after_answer, has_control, is_last}
use Rattle.c8_terminal.specs.Decoding.{is_letter, is_text, key_at, key_event, meaning, named, no_numbers, reads, step_in, tells, told_of_any}
use Rattle.c8_terminal.specs.Keyboard.{key_of, arrow_key}
use Rattle.c8_terminal.proofs.KeyboardLemmas.{key_of-below}

abbrev Fine : Option Signal → Type 0
Fine told = IfSome told IsOfKeypad

either : (b : Bool) (x y : Option Signal) → Fine x → Fine y → Fine (cond b x y)
either true x y h k = h
either false x y h k = k

abbrev IsFine : Step → Type 0
IsFine s = Fine s.told

either_step : (b : Bool) (s t : Step) → IsFine s → IsFine t → IsFine (cond b s t)
either_step true s t h k = h
either_step false s t h k = k

either_key : (b : Bool) (x y : Option ℕ) → IfSome x (λ k. k < 16) → IfSome y (λ k. k < 16) → IfSome (cond b x y) (λ k. k < 16)
either_key true x y h k = h
either_key false x y h k = k

told_fine : (key : Option ℕ) (event : ℕ) (exact : Bool) → IfSome key (λ k. k < 16) → Fine (told_of_any key event exact)
told_fine None event exact h = tt
told_fine (Some key) event exact h = either (event == 3) _ _ h (either (nat_lt 3 event) None _ tt (either exact _ _ h h))

arrow_fine : (b event : ℕ) (exact : Bool) → Fine (arrow b event exact)
arrow_fine b event exact =
    told_fine (arrow_key b) event exact
    (either_key (b == 0x41) (Some 5) _ (search rules)
    (either_key (b == 0x42) (Some 8) _ (search rules)
    (either_key (b == 0x43) (Some 9) _ (search rules) (either_key (b == 0x44) (Some 7) None (search rules) tt))))

named_fine : (b event : ℕ) (exact : Bool) → Fine (named b event exact)
named_fine b event exact = either (b == 0x50) _ _ (either (nat_lt 1 event) None (Some Help) tt tt) (arrow_fine b event exact)

key_event_fine : (n : Numbers) (exact : Bool) → Fine (key_event n exact)
key_event_fine n exact =
    let key : IfSome (key_at n) (λ k. k < 16) =
    either_key (n.base == 0) (key_of n.code) (key_of n.base) (key_of-below n.code) (key_of-below n.base) in
    let told : Fine (told_of_any (key_at n) n.event exact) = told_fine (key_at n) n.event exact key in
    either (nat_lt 2 n.event) _ _ told
    (either (n.code == 27) (Some Quit) _ tt
    (either (has_control n) _ _ (either (is_letter 0x63 n) (Some Quit) _ tt
    (either (is_letter 0x64 n) (Some GiveUp) _ tt (either (is_letter 0x6C n) (Some Repaint) None tt tt))) told))

meaning_fine : (b : ℕ) (n : Numbers) (exact : Bool) → Fine (meaning b n exact)
meaning_fine b n exact = either (b == 0x75) _ _ (key_event_fine n exact) (either (b == 0x4F) (Some LetGo) _ tt (named_fine b n.event exact))

alone_fine : (b : ℕ) (exact : Bool) → IsFine (alone b exact)
alone_fine b exact =
    either_step (b == 0x1B) (reads Escape exact) (tells (character b) exact) tt
    (either (b == 3) (Some Quit) _ tt (either (b == 4) (Some GiveUp) _ tt
    (either (b == 12) (Some Repaint) _ tt (told_fine (key_of b) 0 false (key_of-below b)))))

step_fine : (reading : Reading) (b : ℕ) (exact : Bool) → IsFine (step_in reading b exact)
step_fine Nothing b exact = alone_fine b exact
step_fine Escape b exact =
    either_step (b == 0x1B) _ _ tt (either_step (b == 0x5B) (reads (Control no_numbers) exact) _ tt
    (either_step (b == 0x4F) (reads Single exact) (tells None exact) tt tt))
step_fine Single b exact = either_step (is_text b) (tells (named b 0 exact) exact) (alone b exact) (named_fine b 0 exact) (alone_fine b exact)
step_fine (Control n) b exact =
    either_step (is_last b) (control_ended b n exact) _ (meaning_fine b n (exact_after n exact))
    (either_step (is_text b) (reads (control_with b n) exact) (alone b exact) tt (alone_fine b exact))
step_fine (Answer flags) b exact =
    either_step (is_last b) (tells None (exact_after_answer b flags exact)) _ tt
    (either_step (is_text b) (reads (answer_with b flags) exact) (alone b exact) tt (alone_fine b exact))
step_fine Foreign b exact = either_step (is_last b) (tells None exact) _ tt
    (either_step (is_text b) (reads Foreign exact) (alone b exact) tt (alone_fine b exact))

-- the key of a step's signal is a key of the keypad
pub of_keypad_in : (reading : Reading) (b : ℕ) (exact : Bool) (told : Option Signal) → told ≡ (step_in reading b exact).told → IfSome told IsOfKeypad
of_keypad_in reading b exact told is = subst Fine (sym is) (step_fine reading b exact)
