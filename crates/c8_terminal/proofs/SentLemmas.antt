-- The bytes that a terminal sends are decoded.
use Rattle.std.proofs.Common.{◌≡◌, ℕ, ◌+◌, ◌/◌, ◌%◌, ◌<◌, ◌≤◌, Bool, true, false, cond, List, [], ◌∷◌, ◌++◌, Option, None, Some, refl, sym, ap}
use Rattle.std.proofs.Common.{subst, ◌∙◌, arith}
use Rattle.std.specs.Prelude.{◌==◌, ◌&&◌, ◌||◌, nat_lt, nat_le}
use Rattle.std.specs.Fmt.{decimal}
use Rattle.std.proofs.lemmas.Bool.{and_from, false_from_ne_true, eqb-true}
use Rattle.std.proofs.lemmas.Bool.Decides.{nat_tests}
use Rattle.std.proofs.lemmas.Fmt.{decimal_by_steps}
use Rattle.c8_terminal.specs.declared.signal.Signal.{Signal}
use Rattle.c8_terminal.specs.declared.signal.Signal.TheVariants.{Help}
use Rattle.c8_terminal.specs.Decoding.{Decoding, Numbers, Reading, Nothing, Escape, Single, Control, Answer, Step, character, help_of, is_digit}
use Rattle.c8_terminal.specs.Decoding.{is_last, is_text, key_event, names_event, no_numbers, reads, reports_events, step, step_in, tells}
use Rattle.c8_terminal.specs.Decoding.{told_of, with_digit, with_number}
use Rattle.c8_terminal.specs.Sent.{AreOne, AreSent, Arrow, ArrowEvent, Direction, Downward, Fits, Flags, FocusCame, FocusLost, HelpEvent, HelpPress}
use Rattle.c8_terminal.specs.Sent.{IsRead, IsSent, KeyEvent, KeyPress, Leftward, ModifiedKeyPress, PlacedKeyEvent, Rightward, Sent}
use Rattle.c8_terminal.specs.Sent.{SingleArrow, SingleHelp, Typed, Upward, all_bytes, arrow_key, bytes_of, capped, exact_after, letter}
use Rattle.c8_terminal.specs.Sent.{numbers, ready, told, told_by, told_of_all, with_told}

abbrev in_mode : Reading → Bool → Decoding
in_mode reading exact = record { reading = reading; exact = exact }

-- bytes that lead from one reading to another, without a signal
Leads : List ℕ → Reading → Bool → Reading → Type 0
Leads [] from exact to = from ≡ to
Leads (b ∷ bs) from exact to = (between : Reading) × (step_in from b exact ≡ reads between exact) × Leads bs between exact to

leads_on : (bs cs : List ℕ) (from between to : Reading) (exact : Bool) → Leads bs from exact between → Leads cs between exact to
    → Leads (bs ++ cs) from exact to
unfolding Leads
leads_on [] cs from between to exact h k = subst (λ (r : Reading). Leads cs r exact to) (sym h) k
leads_on (b ∷ bs) cs from between to exact h k = (h.0, h.1, leads_on bs cs h.0 between to exact h.2 k)

-- one more byte before others
one_more : (b c : ℕ) (bs more : List ℕ) (d : Decoding) (last : Step) → (step b d).told ≡ None → AreOne (bs ++ c ∷ more) (step b d).next last
    → AreOne (b ∷ (bs ++ c ∷ more)) d last
one_more b c [] more d last quiet h = (quiet, h)
one_more b c (x ∷ bs) more d last quiet h = (quiet, h)

after_lead : (bs : List ℕ) (c : ℕ) (more : List ℕ) (from to : Reading) (exact : Bool) (last : Step) → Leads bs from exact to
    → AreOne (c ∷ more) (in_mode to exact) last → AreOne (bs ++ c ∷ more) (in_mode from exact) last
unfolding Leads
after_lead [] c more from to exact last lead h = subst (λ (r : Reading). AreOne (c ∷ more) (in_mode r exact) last) (sym lead) h
after_lead (b ∷ bs) c more from to exact last lead h =
    one_more b c bs more (in_mode from exact) last (ap (λ (s : Step). s.told) lead.1)
    (subst (λ (s : Step). AreOne (bs ++ c ∷ more) s.next last) (sym lead.1) (after_lead bs c more lead.0 to exact last lead.2 h))

-- what leads to the beginning of the rest
led : (bs rest : List ℕ) (from to : Reading) (exact : Bool) (last : Step) → Leads bs from exact to → AreOne rest (in_mode to exact) last
    → AreOne (bs ++ rest) (in_mode from exact) last
led bs [] from to exact last lead h = absurd h
led bs (c ∷ more) from to exact last lead h = after_lead bs c more from to exact last lead h

digit_is_text : (v : ℕ) → v < 10 → is_text (48 + v) ≡ true
digit_is_text v h = and_from (nat_le 0x20 (48 + v)) (nat_le (48 + v) 0x7E) (grind (arith, nat_tests)) (grind (arith, nat_tests))

digit_is_digit : (v : ℕ) → v < 10 → is_digit (48 + v) ≡ true
digit_is_digit v h = and_from (nat_le 0x30 (48 + v)) (nat_le (48 + v) 0x39) (grind (arith, nat_tests)) (grind (arith, nat_tests))

digit_is_not_last : (v : ℕ) → v < 10 → is_last (48 + v) ≡ false
digit_is_not_last v h = let low : nat_le 0x40 (48 + v) ≡ false = grind (arith, nat_tests) in ap (λ (b : Bool). b && nat_le (48 + v) 0x7E) low

-- a digit of a number, and one of an answer
digit_step : (n : Numbers) (v : ℕ) (exact : Bool) → v < 10 → step_in (Control n) (48 + v) exact ≡ reads (Control (with_number (48 + v) n)) exact
digit_step n v exact h = rw (digit_is_not_last v h, digit_is_text v h, digit_is_digit v h)

answer_step : (flags v : ℕ) (exact : Bool) → v < 10 → step_in (Answer flags) (48 + v) exact ≡ reads (Answer (with_digit flags (48 + v))) exact
answer_step flags v exact h = rw (digit_is_not_last v h, digit_is_text v h, digit_is_digit v h)

-- a place for a number: `put v` puts the number v there, and one more digit makes it v with that digit
abbrev IsPlace : (ℕ → Numbers) → Type 0
IsPlace put = (b v : ℕ) → with_number b (put v) ≡ put (with_digit v b)

one_digit : (put : ℕ → Numbers) → IsPlace put → (exact : Bool) (v d w : ℕ) → d < 10 → w ≡ with_digit v (48 + d)
    → Leads ((48 + d) ∷ []) (Control (put v)) exact (Control (put w))
unfolding Leads
one_digit put place exact v d w small is =
    (Control (put w), digit_step (put v) d exact small ∙ ap (λ (n : Numbers). reads (Control n) exact) (place (48 + d) v ∙ ap put (sym is)), refl)

-- a decimal number is read at that place
number_leads : (put : ℕ → Numbers) → IsPlace put → (exact : Bool) (n : ℕ) → Fits n
    → Leads (decimal n) (Control (put 0)) exact (Control (put (capped n)))
number_leads put place exact n fits =
    decimal_by_steps (λ m ds. Leads ds (Control (put 0)) exact (Control (put (capped m))))
    (λ m small. one_digit put place exact 0 m (capped m) small (omega arith))
    (λ m ds large h. leads_on ds _ (Control (put 0)) (Control (put (capped (m / 10)))) (Control (put (capped m))) exact h
    (one_digit put place exact (capped (m / 10)) (m % 10) (capped m) (omega arith) (omega arith)))
    n fits

one_answer_digit : (exact : Bool) (v d w : ℕ) → d < 10 → w ≡ with_digit v (48 + d) → Leads ((48 + d) ∷ []) (Answer v) exact (Answer w)
unfolding Leads
one_answer_digit exact v d w small is = (Answer w, answer_step v d exact small ∙ ap (λ (f : ℕ). reads (Answer f) exact) (sym is), refl)

-- the number of an answer is read too
answer_leads : (exact : Bool) (n : ℕ) → Fits n → Leads (decimal n) (Answer 0) exact (Answer (capped n))
answer_leads exact n fits =
    decimal_by_steps (λ m ds. Leads ds (Answer 0) exact (Answer (capped m)))
    (λ m small. one_answer_digit exact 0 m (capped m) small (omega arith))
    (λ m ds large h. leads_on ds _ (Answer 0) (Answer (capped (m / 10))) (Answer (capped m)) exact h
    (one_answer_digit exact (capped (m / 10)) (m % 10) (capped m) (omega arith) (omega arith)))
    n fits

-- one byte that continues a sequence
by_one : (b : ℕ) (from to : Reading) (exact : Bool) → step_in from b exact ≡ reads to exact → Leads (b ∷ []) from exact to
unfolding Leads
by_one b from to exact is = (to, is, refl)

by_control : (exact : Bool) → Leads (0x1B ∷ 0x5B ∷ []) Nothing exact (Control no_numbers)
unfolding Leads
by_control exact = (Escape, refl, (Control no_numbers, refl, refl))

by_question : (exact : Bool) → Leads (0x1B ∷ 0x5B ∷ 0x3F ∷ []) Nothing exact (Answer 0)
unfolding Leads
by_question exact = (Escape, refl, (Control no_numbers, refl, (Answer 0, refl, refl)))

abbrev with_code : ℕ → Numbers
with_code v = record { field = 0; part = 0; code = v; base = 0; modifiers = 0; event = 0 }

abbrev with_shifted : ℕ → ℕ → Numbers
with_shifted code v = record { field = 0; part = 1; code = code; base = 0; modifiers = 0; event = 0 }

abbrev with_base : ℕ → ℕ → Numbers
with_base code v = record { field = 0; part = 2; code = code; base = v; modifiers = 0; event = 0 }

abbrev with_modifiers : ℕ → ℕ → ℕ → Numbers
with_modifiers code base v = record { field = 1; part = 0; code = code; base = base; modifiers = v; event = 0 }

abbrev with_event : ℕ → ℕ → ℕ → ℕ → Numbers
with_event code base modifiers v = record { field = 1; part = 1; code = code; base = base; modifiers = modifiers; event = v }

-- modifiers, an event and the last byte, after the numbers of a key
tail_read : (code base modifiers event last : ℕ) (exact : Bool) (end : Step) → Fits modifiers → Fits event
    → step_in (Control (with_event code base (capped modifiers) (capped event))) last exact ≡ end
    → AreOne (decimal modifiers ++ 0x3A ∷ (decimal event ++ last ∷ [])) (in_mode (Control (with_modifiers code base 0)) exact) end
tail_read code base modifiers event last exact end fits fits_too is =
    let m : ℕ = capped modifiers in
    led (decimal modifiers) (0x3A ∷ (decimal event ++ last ∷ [])) (Control (with_modifiers code base 0))
    (Control (with_modifiers code base m)) exact end
    (number_leads (with_modifiers code base) (λ b v. refl) exact modifiers fits)
    (led (0x3A ∷ []) (decimal event ++ last ∷ []) (Control (with_modifiers code base m)) (Control (with_event code base m 0)) exact end
    (by_one 0x3A _ _ exact refl)
    (led (decimal event) (last ∷ []) (Control (with_event code base m 0)) (Control (with_event code base m (capped event))) exact end
    (number_leads (with_event code base m) (λ b v. refl) exact event fits_too) is))

-- the last byte of a press that names no event, and of a named event
press_u : (n : Numbers) (exact : Bool) → names_event n ≡ false → step_in (Control n) 0x75 exact ≡ tells (key_event n exact) exact
press_u n true none = refl
press_u n false none = ap (λ (e : Bool). tells (key_event n e) e) none

event_u : (n : Numbers) (exact : Bool) → names_event n ≡ true → step_in (Control n) 0x75 exact ≡ tells (key_event n true) true
event_u n true some = refl
event_u n false some = ap (λ (e : Bool). tells (key_event n e) e) some

is_named : (event : ℕ) → 1 ≤ event → nat_lt 0 (capped event) ≡ true
is_named event some = let positive : 1 ≤ capped event = omega arith in grind (arith, nat_tests)

press_read : (code : ℕ) → IsSent (KeyPress code) → IsRead (KeyPress code)
press_read code fits exact =
    let end : Step = tells (key_event (numbers code 0 0 0) exact) exact in
    led (0x1B ∷ 0x5B ∷ []) (decimal code ++ 0x75 ∷ []) Nothing (Control (with_code 0)) exact end (by_control exact)
    (led (decimal code) (0x75 ∷ []) (Control (with_code 0)) (Control (with_code (capped code))) exact end
    (number_leads with_code (λ b v. refl) exact code fits) (press_u (with_code (capped code)) exact refl))

modified_read : (code modifiers : ℕ) → IsSent (ModifiedKeyPress code modifiers) → IsRead (ModifiedKeyPress code modifiers)
modified_read code modifiers fits exact =
    let c : ℕ = capped code in
    let m : ℕ = capped modifiers in
    let end : Step = tells (key_event (numbers code 0 modifiers 0) exact) exact in
    led (0x1B ∷ 0x5B ∷ []) (decimal code ++ 0x3B ∷ (decimal modifiers ++ 0x75 ∷ [])) Nothing (Control (with_code 0)) exact end (by_control exact)
    (led (decimal code) (0x3B ∷ (decimal modifiers ++ 0x75 ∷ [])) (Control (with_code 0)) (Control (with_code c)) exact end
    (number_leads with_code (λ b v. refl) exact code fits.0)
    (led (0x3B ∷ []) (decimal modifiers ++ 0x75 ∷ []) (Control (with_code c)) (Control (with_modifiers c 0 0)) exact end (by_one 0x3B _ _ exact refl)
    (led (decimal modifiers) (0x75 ∷ []) (Control (with_modifiers c 0 0)) (Control (with_modifiers c 0 m)) exact end
    (number_leads (with_modifiers c 0) (λ b v. refl) exact modifiers fits.1) (press_u (with_modifiers c 0 m) exact refl))))

key_event_read : (code modifiers event : ℕ) → IsSent (KeyEvent code modifiers event) → IsRead (KeyEvent code modifiers event)
key_event_read code modifiers event fits exact =
    let c : ℕ = capped code in
    let end : Step = tells (key_event (numbers code 0 modifiers event) true) true in
    led (0x1B ∷ 0x5B ∷ []) _ Nothing (Control (with_code 0)) exact end (by_control exact)
    (led (decimal code) (0x3B ∷ (decimal modifiers ++ 0x3A ∷ (decimal event ++ 0x75 ∷ []))) (Control (with_code 0)) (Control (with_code c)) exact end
    (number_leads with_code (λ b v. refl) exact code fits.0)
    (led (0x3B ∷ []) (decimal modifiers ++ 0x3A ∷ (decimal event ++ 0x75 ∷ [])) (Control (with_code c)) (Control (with_modifiers c 0 0))
    exact end (by_one 0x3B _ _ exact refl)
    (tail_read c 0 modifiers event 0x75 exact end fits.1 fits.3 (event_u (numbers code 0 modifiers event) exact (is_named event fits.2)))))

placed_read : (code shifted base modifiers event : ℕ) → IsSent (PlacedKeyEvent code shifted base modifiers event)
    → IsRead (PlacedKeyEvent code shifted base modifiers event)
placed_read code shifted base modifiers event fits exact =
    let c : ℕ = capped code in
    let s : ℕ = capped shifted in
    let b : ℕ = capped base in
    let end : Step = tells (key_event (numbers code base modifiers event) true) true in
    let last : List ℕ = decimal modifiers ++ 0x3A ∷ (decimal event ++ 0x75 ∷ []) in
    led (0x1B ∷ 0x5B ∷ []) _ Nothing (Control (with_code 0)) exact end (by_control exact)
    (led (decimal code) (0x3A ∷ (decimal shifted ++ 0x3A ∷ (decimal base ++ 0x3B ∷ last))) (Control (with_code 0)) (Control (with_code c)) exact end
    (number_leads with_code (λ b v. refl) exact code fits.0)
    (led (0x3A ∷ []) (decimal shifted ++ 0x3A ∷ (decimal base ++ 0x3B ∷ last)) (Control (with_code c)) (Control (with_shifted c 0)) exact
    end (by_one 0x3A _ _ exact refl)
    (led (decimal shifted) (0x3A ∷ (decimal base ++ 0x3B ∷ last)) (Control (with_shifted c 0)) (Control (with_shifted c s)) exact end
    (number_leads (with_shifted c) (λ b v. refl) exact shifted fits.1)
    (led (0x3A ∷ []) (decimal base ++ 0x3B ∷ last) (Control (with_shifted c s)) (Control (with_base c 0)) exact end (by_one 0x3A _ _ exact refl)
    (led (decimal base) (0x3B ∷ last) (Control (with_base c 0)) (Control (with_base c b)) exact end
    (number_leads (with_base c) (λ b v. refl) exact base fits.2)
    (led (0x3B ∷ []) last (Control (with_base c b)) (Control (with_modifiers c b 0)) exact end (by_one 0x3B _ _ exact refl)
    (tail_read c b modifiers event 0x75 exact end fits.3 fits.5 (event_u (numbers code base modifiers event) exact (is_named event fits.4)))))))))

last_arrow : (direction : Direction) (n : Numbers) (exact : Bool) → nat_lt 0 n.event ≡ true
    → step_in (Control n) (letter direction) exact ≡ tells (told_of n.event true (arrow_key direction)) true
last_arrow Upward n true some = refl
last_arrow Upward n false some = ap (λ (e : Bool). tells (told_of n.event e 5) e) some
last_arrow Downward n true some = refl
last_arrow Downward n false some = ap (λ (e : Bool). tells (told_of n.event e 8) e) some
last_arrow Rightward n true some = refl
last_arrow Rightward n false some = ap (λ (e : Bool). tells (told_of n.event e 9) e) some
last_arrow Leftward n true some = refl
last_arrow Leftward n false some = ap (λ (e : Bool). tells (told_of n.event e 7) e) some

arrow_event_read : (direction : Direction) (modifiers event : ℕ) → IsSent (ArrowEvent direction modifiers event)
    → IsRead (ArrowEvent direction modifiers event)
arrow_event_read direction modifiers event fits exact =
    let is : capped event ≡ event = omega (arith, fits.2) in
    let some : nat_lt 0 (capped event) ≡ true = grind (arith, nat_tests, fits.1, is) in
    let end : Step = tells (told_of event true (arrow_key direction)) true in
    let one : Numbers = with_code 1 in
    led (0x1B ∷ 0x5B ∷ []) (0x31 ∷ 0x3B ∷ (decimal modifiers ++ 0x3A ∷ (decimal event ++ letter direction ∷ []))) Nothing
    (Control (with_code 0)) exact end (by_control exact)
    (led (0x31 ∷ []) (0x3B ∷ (decimal modifiers ++ 0x3A ∷ (decimal event ++ letter direction ∷ []))) (Control (with_code 0)) (Control one)
    exact end (by_one 0x31 _ _ exact refl)
    (led (0x3B ∷ []) (decimal modifiers ++ 0x3A ∷ (decimal event ++ letter direction ∷ [])) (Control one) (Control (with_modifiers 1 0 0))
    exact end (by_one 0x3B _ _ exact refl)
    (tail_read 1 0 modifiers event (letter direction) exact end fits.0 (omega (arith, fits.2))
    (last_arrow direction (with_event 1 0 (capped modifiers) (capped event)) exact some
    ∙ ap (λ (v : ℕ). tells (told_of v true (arrow_key direction)) true) is))))

last_help : (n : Numbers) (exact : Bool) → nat_lt 0 n.event ≡ true → step_in (Control n) 0x50 exact ≡ tells (help_of n.event) true
last_help n true some = refl
last_help n false some = ap (λ (e : Bool). tells (help_of n.event) e) some

help_event_read : (modifiers event : ℕ) → IsSent (HelpEvent modifiers event) → IsRead (HelpEvent modifiers event)
help_event_read modifiers event fits exact =
    let is : capped event ≡ event = omega (arith, fits.2) in
    let some : nat_lt 0 (capped event) ≡ true = grind (arith, nat_tests, fits.1, is) in
    let end : Step = tells (help_of event) true in
    let one : Numbers = with_code 1 in
    led (0x1B ∷ 0x5B ∷ []) (0x31 ∷ 0x3B ∷ (decimal modifiers ++ 0x3A ∷ (decimal event ++ 0x50 ∷ []))) Nothing
    (Control (with_code 0)) exact end (by_control exact)
    (led (0x31 ∷ []) (0x3B ∷ (decimal modifiers ++ 0x3A ∷ (decimal event ++ 0x50 ∷ []))) (Control (with_code 0)) (Control one)
    exact end (by_one 0x31 _ _ exact refl)
    (led (0x3B ∷ []) (decimal modifiers ++ 0x3A ∷ (decimal event ++ 0x50 ∷ [])) (Control one) (Control (with_modifiers 1 0 0))
    exact end (by_one 0x3B _ _ exact refl)
    (tail_read 1 0 modifiers event 0x50 exact end fits.0 (omega (arith, fits.2))
    (last_help (with_event 1 0 (capped modifiers) (capped event)) exact some ∙ ap (λ (v : ℕ). tells (help_of v) true) is))))

help_read : (exact : Bool) → step_in (Control no_numbers) 0x50 exact ≡ tells (Some Help) exact
help_read true = refl
help_read false = refl

arrow_read : (direction : Direction) (exact : Bool)
    → step_in (Control no_numbers) (letter direction) exact ≡ tells (told_of 0 exact (arrow_key direction)) exact
arrow_read Upward true = refl
arrow_read Upward false = refl
arrow_read Downward true = refl
arrow_read Downward false = refl
arrow_read Rightward true = refl
arrow_read Rightward false = refl
arrow_read Leftward true = refl
arrow_read Leftward false = refl

single_read : (direction : Direction) (exact : Bool) → step_in Single (letter direction) exact ≡ tells (told_of 0 exact (arrow_key direction)) exact
single_read Upward exact = refl
single_read Downward exact = refl
single_read Rightward exact = refl
single_read Leftward exact = refl

lost_read : (exact : Bool) → step_in (Control no_numbers) 0x4F exact ≡ tells (told FocusLost exact) exact
lost_read true = refl
lost_read false = refl

came_read : (exact : Bool) → step_in (Control no_numbers) 0x49 exact ≡ tells None exact
came_read true = refl
came_read false = refl

flags_read : (flags : ℕ) (exact : Bool) → step_in (Answer flags) 0x75 exact ≡ tells None (exact || reports_events flags)
flags_read flags true = refl
flags_read flags false = refl

typed_read : (byte : ℕ) → (byte ≡ 0x1B → ⊥) → (exact : Bool) → step_in Nothing byte exact ≡ tells (character byte) exact
typed_read byte other exact =
    let no : (byte == 0x1B) ≡ false = false_from_ne_true (byte == 0x1B) (λ e. other (eqb-true byte 0x1B e)) in
    ap (λ (b : Bool). cond b (reads Escape exact) (tells (character byte) exact)) no

pub sent_is_read : (sent : Sent) → IsSent sent → IsRead sent
sent_is_read (Typed byte) fits exact = typed_read byte fits exact
sent_is_read (Arrow direction) fits exact = (refl, (refl, arrow_read direction exact))
sent_is_read (SingleArrow direction) fits exact = (refl, (refl, single_read direction exact))
sent_is_read (ArrowEvent direction modifiers event) fits exact = arrow_event_read direction modifiers event fits exact
sent_is_read SingleHelp fits exact = (refl, (refl, refl))
sent_is_read HelpPress fits exact = (refl, (refl, help_read exact))
sent_is_read (HelpEvent modifiers event) fits exact = help_event_read modifiers event fits exact
sent_is_read (KeyPress code) fits exact = press_read code fits exact
sent_is_read (ModifiedKeyPress code modifiers) fits exact = modified_read code modifiers fits exact
sent_is_read (KeyEvent code modifiers event) fits exact = key_event_read code modifiers event fits exact
sent_is_read (PlacedKeyEvent code shifted base modifiers event) fits exact = placed_read code shifted base modifiers event fits exact
sent_is_read FocusLost fits exact = (refl, (refl, lost_read exact))
sent_is_read FocusCame fits exact = (refl, (refl, came_read exact))
sent_is_read (Flags flags) fits exact =
    let end : Step = tells None (exact || reports_events (capped flags)) in
    led (0x1B ∷ 0x5B ∷ 0x3F ∷ []) (decimal flags ++ 0x75 ∷ []) Nothing (Answer 0) exact end (by_question exact)
    (led (decimal flags) (0x75 ∷ []) (Answer 0) (Answer (capped flags)) exact end (answer_leads exact flags fits) (flags_read (capped flags) exact))

-- the signal of one action, and those of what follows
one_told : (bs rest : List ℕ) (d : Decoding) (end : Step) → AreOne bs d end → told_by (bs ++ rest) d ≡ with_told end.told (told_by rest end.next)
one_told [] rest d end h = absurd h
one_told (b ∷ []) rest d end h = ap (λ (s : Step). with_told s.told (told_by rest s.next)) h
one_told (b ∷ c ∷ more) rest d end h =
    ap (λ (t : Option Signal). with_told t (told_by ((c ∷ more) ++ rest) (step b d).next)) h.0 ∙ one_told (c ∷ more) rest (step b d).next end h.1

pub all_told : (sent : List Sent) (exact : Bool) → AreSent sent → told_by (all_bytes sent) (ready exact) ≡ told_of_all sent exact
all_told [] exact are = refl
all_told (one ∷ rest) exact are =
    one_told (bytes_of one) (all_bytes rest) (ready exact) (tells (told one exact) (exact_after one exact)) (sent_is_read one are.0 exact)
    ∙ ap (with_told (told one exact)) (all_told rest (exact_after one exact) are.1)
