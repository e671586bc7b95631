-- States with the same bytes are equal.
use Rattle.std.proofs.Common.{◌≡◌, inl, inr, ⊎_elim, ℕ, zero, suc, ◌+◌, ◌-◌, ◌*◌, ◌^◌, ◌<◌, ◌≤◌, List, [], ◌∷◌, ◌++◌, length, take, drop}
use Rattle.std.proofs.Common.{map, Bool, true, false, Option, Some, None, refl, sym, ap, ◌∙◌, arith}
use Rattle.std.specs.Prelude.{slice_index, replicate, if◌then◌else◌, IfSome}
use Rattle.std.specs.List.{flat_map, range_with_len}
use Rattle.std.specs.Int.{to_be_bytes, from_be_bytes, w16, w64}
use Rattle.std.proofs.Math.Nat.{pow-suc}
use Rattle.std.proofs.Math.Seq.{take-append_seam}
use Rattle.std.proofs.lemmas.Bool.{cases_Bool, cases_eq, cases_lt}
use Rattle.std.proofs.lemmas.List.FromFn.{get_or-map-range_with_len}
use Rattle.std.proofs.lemmas.Nat.{from_be_bytes-to_be_bytes_2, from_be_bytes-to_be_bytes_8}
use Rattle.c8_screen.specs.Points.{Points, AreOnScreen}
use Rattle.c8_machine.specs.declared.machine.Stop.{Stop}
use Rattle.c8_machine.specs.declared.machine.Stop.TheVariants.{UnknownInstruction, StackFull, StackEmpty}
use Rattle.c8_machine.specs.State.{State, IsState}
use Rattle.c8_digest.specs.StateBytes.{columns, screen_bytes, places, waits_byte, stop_byte, rest_bytes, state_bytes}
use Rattle.c8_digest.proofs.StackLemmas.{sixteen, padded}
use Rattle.c8_digest.proofs.LengthLemmas.{fronts}

-- if two joined lists are equal and their first parts have the same length, both parts are equal
split : (us bs xs ys : List ℕ) → length us ≡ length bs → us ++ xs ≡ bs ++ ys → (us ≡ bs) × (xs ≡ ys)
split [] [] xs ys long same = (refl, same)
split [] (b ∷ bs) xs ys long same = absurd (omega (arith, long))
split (a ∷ us) [] xs ys long same = absurd (omega (arith, long))
split (a ∷ us) (b ∷ bs) xs ys long same =
    let first : a ≡ b = cc in
    let rest : us ++ xs ≡ bs ++ ys = cc in
    let more = split us bs xs ys (omega (arith, long)) rest in
    let front = more.0 in
    (λ i. first i ∷ front i, more.1)

-- ---- numbers

short_same : (a b : ℕ) → a < 2 ^ 16 → b < 2 ^ 16 → to_be_bytes w16 a ≡ to_be_bytes w16 b → a ≡ b
short_same a b low small same = sym (from_be_bytes-to_be_bytes_2 a low) ∙ ap (from_be_bytes w16) same ∙ from_be_bytes-to_be_bytes_2 b small

long_same : (a b : ℕ) → a < 2 ^ 64 → b < 2 ^ 64 → to_be_bytes w64 a ≡ to_be_bytes w64 b → a ≡ b
long_same a b low small same = sym (from_be_bytes-to_be_bytes_8 a low) ∙ ap (from_be_bytes w64) same ∙ from_be_bytes-to_be_bytes_8 b small

words_same : (xs ys : List ℕ) → length xs ≡ length ys → ((k : ℕ) → slice_index xs k < 2 ^ 16) → ((k : ℕ) → slice_index ys k < 2 ^ 16)
    → flat_map (to_be_bytes w16) xs ≡ flat_map (to_be_bytes w16) ys → xs ≡ ys
words_same [] [] long low small same = refl
words_same [] (y ∷ ys) long low small same = absurd (omega (arith, long))
words_same (x ∷ xs) [] long low small same = absurd (omega (arith, long))
words_same (x ∷ xs) (y ∷ ys) long low small same =
    let both = split (to_be_bytes w16 x) (to_be_bytes w16 y) (flat_map (to_be_bytes w16) xs) (flat_map (to_be_bytes w16) ys) refl same in
    let first = short_same x y (low 0) (small 0) both.0 in
    let rest = words_same xs ys (omega (arith, long)) (λ k. low (suc k)) (λ k. small (suc k)) both.1 in
    λ i. first i ∷ rest i

-- ---- the stack

stack_same : (s t : List ℕ) → length s ≡ length t → places s ≡ places t → s ≡ t
stack_same s t long same =
    sym (take-append_seam s (replicate (16 - length s) 0)) ∙ ap (λ (n : ℕ). take n (places s)) long ∙ ap (take (length t)) same
    ∙ take-append_seam t (replicate (16 - length t) 0)

-- ---- the screen

bits_same : (b c : Bool) (m n : ℕ) → 2 * m + (if b then 1 else 0) ≡ 2 * n + (if c then 1 else 0) → (b ≡ c) × (m ≡ n)
bits_same true true m n same = (refl, omega (arith, same))
bits_same true false m n same = absurd (omega (arith, same))
bits_same false true m n same = absurd (omega (arith, same))
bits_same false false m n same = (refl, omega (arith, same))

columns_same : (p q : Points) (y n : ℕ) → columns p y n ≡ columns q y n → (x : ℕ) → x < n → p x y ≡ q x y
unfolding columns
columns_same p q y zero same x within = absurd (omega (arith, within))
columns_same p q y (suc n) same x within =
    let both = bits_same (p n y) (q n y) (columns p y n) (columns q y n) same in
    elim (cases_eq x n) [
      | inl here ↦ ap (λ (k : ℕ). p k y) here ∙ both.0 ∙ ap (λ (k : ℕ). q k y) (sym here)
      | inr apart ↦ columns_same p q y n both.1 x (omega (arith, within, apart))
    ]

one_bit : (b : Bool) → (if b then 1 else 0) ≤ 1
one_bit true = omega arith
one_bit false = omega arith

pub columns_lt : (p : Points) (y n : ℕ) → columns p y n < 2 ^ n
unfolding columns
columns_lt p y zero = omega arith
columns_lt p y (suc n) = omega (arith, columns_lt p y n, pow-suc 2 n, one_bit (p n y))

rows_same : (p q : Points) (a n : ℕ) → flat_map (λ y. to_be_bytes w64 (columns p y 64)) (range_with_len a n)
    ≡ flat_map (λ y. to_be_bytes w64 (columns q y 64)) (range_with_len a n)
    → (y : ℕ) → a ≤ y → y < a + n → columns p y 64 ≡ columns q y 64
rows_same p q a zero same y from to = absurd (omega (arith, from, to))
rows_same p q a (suc n) same y from to =
    let both =
    split (to_be_bytes w64 (columns p a 64)) (to_be_bytes w64 (columns q a 64))
    (flat_map (λ k. to_be_bytes w64 (columns p k 64)) (range_with_len (a + 1) n))
    (flat_map (λ k. to_be_bytes w64 (columns q k 64)) (range_with_len (a + 1) n)) refl same in
    let first : columns p a 64 ≡ columns q a 64 = long_same (columns p a 64) (columns q a 64) (columns_lt p a 64) (columns_lt q a 64) both.0 in
    elim (cases_eq y a) [
      | inl here ↦ ap (λ (k : ℕ). columns p k 64) here ∙ first ∙ ap (λ (k : ℕ). columns q k 64) (sym here)
      | inr apart ↦ rows_same p q (a + 1) n both.1 y (omega (arith, from, apart)) (omega (arith, to))
    ]

pub off : (p : Points) (x y : ℕ) → AreOnScreen p → ((x < 64) → (y < 32) → ⊥) → p x y ≡ false
off p x y on outside = ⊎_elim (λ lit. absurd (outside (on x y lit).0 (on x y lit).1)) (λ dark. dark) (cases_Bool (p x y))

points_same : (p q : Points) → AreOnScreen p → AreOnScreen q → screen_bytes p ≡ screen_bytes q → (x y : ℕ) → p x y ≡ q x y
points_same p q on at same x y =
    elim (cases_lt x 64) [
      | inl column ↦ elim (cases_lt y 32) [
        | inl row ↦ columns_same p q y 64 (rows_same p q 0 32 same y (omega arith) (omega (arith, row))) x column
        | inr below ↦ off p x y on (λ c r. omega (arith, r, below)) ∙ sym (off q x y at (λ c r. omega (arith, r, below)))
      ]
      | inr right ↦ off p x y on (λ c r. omega (arith, c, right)) ∙ sym (off q x y at (λ c r. omega (arith, c, right)))
    ]

-- ---- the rest

waits_same : (a b : Option ℕ) → waits_byte a ≡ waits_byte b → ((x : ℕ) → a ≡ Some x → x < 16) → ((x : ℕ) → b ≡ Some x → x < 16) → a ≡ b
waits_same None None same low small = refl
waits_same None (Some y) same low small = absurd (omega (arith, same, small y refl))
waits_same (Some x) None same low small = absurd (omega (arith, same, low x refl))
waits_same (Some x) (Some y) same low small = ap Some same

stop_same : (a b : Option Stop) → stop_byte a ≡ stop_byte b → a ≡ b
stop_same None None same = refl
stop_same None (Some UnknownInstruction) same = absurd (omega (arith, same))
stop_same None (Some StackFull) same = absurd (omega (arith, same))
stop_same None (Some StackEmpty) same = absurd (omega (arith, same))
stop_same (Some UnknownInstruction) None same = absurd (omega (arith, same))
stop_same (Some StackFull) None same = absurd (omega (arith, same))
stop_same (Some StackEmpty) None same = absurd (omega (arith, same))
stop_same (Some UnknownInstruction) (Some UnknownInstruction) same = refl
stop_same (Some UnknownInstruction) (Some StackFull) same = absurd (omega (arith, same))
stop_same (Some UnknownInstruction) (Some StackEmpty) same = absurd (omega (arith, same))
stop_same (Some StackFull) (Some UnknownInstruction) same = absurd (omega (arith, same))
stop_same (Some StackFull) (Some StackFull) same = refl
stop_same (Some StackFull) (Some StackEmpty) same = absurd (omega (arith, same))
stop_same (Some StackEmpty) (Some UnknownInstruction) same = absurd (omega (arith, same))
stop_same (Some StackEmpty) (Some StackFull) same = absurd (omega (arith, same))
stop_same (Some StackEmpty) (Some StackEmpty) same = refl

memory_same : (s t : State) → IsState s → IsState t → map s.memory (range_with_len 0 4096) ≡ map t.memory (range_with_len 0 4096) → (at : ℕ)
    → s.memory at ≡ t.memory at
memory_same s t is us same at =
    elim (cases_lt at 4096) [
      | inl within ↦ sym (get_or-map-range_with_len s.memory 0 4096 at at 0 within (omega arith))
          ∙ ap (λ (bytes : List ℕ). slice_index bytes at) same ∙ get_or-map-range_with_len t.memory 0 4096 at at 0 within (omega arith)
      | inr past ↦ is.no_more_bytes at past ∙ sym (us.no_more_bytes at past)
    ]

some_low : (o : Option ℕ) → IfSome o (λ x. x < 16) → (x : ℕ) → o ≡ Some x → x < 16
some_low (Some y) low x same = let is : y ≡ x = cc in omega (arith, low, is)
some_low None low x same = absurd cc

-- ---- the state

-- the parts of two states with the same bytes
record SameParts (s t : State) : Type 0 where
  memory : map s.memory (range_with_len 0 4096) ≡ map t.memory (range_with_len 0 4096)
  registers : s.registers ≡ t.registers
  address : to_be_bytes w16 s.address ≡ to_be_bytes w16 t.address
  counter : to_be_bytes w16 s.counter ≡ to_be_bytes w16 t.counter
  depth : length s.stack ∷ [] ≡ length t.stack ∷ []
  stack : flat_map (to_be_bytes w16) (places s.stack) ≡ flat_map (to_be_bytes w16) (places t.stack)
  screen : screen_bytes s.screen ≡ screen_bytes t.screen
  rest : rest_bytes s ≡ rest_bytes t

parts_same : (s t : State) → IsState s → IsState t → state_bytes s ≡ state_bytes t → SameParts s t
unfolding state_bytes
parts_same s t is at same =
    let a = fronts s is in
    let b = fronts t at in
    let e6 = split _ _ (rest_bytes s) (rest_bytes t) (a.screen ∙ sym b.screen) same in
    let e5 = split _ _ (screen_bytes s.screen) (screen_bytes t.screen) (a.stack ∙ sym b.stack) e6.0 in
    let e4 = split _ _ (flat_map (to_be_bytes w16) (places s.stack)) (flat_map (to_be_bytes w16) (places t.stack)) (a.depth ∙ sym b.depth) e5.0 in
    let e3 = split _ _ (length s.stack ∷ []) (length t.stack ∷ []) (a.counter ∙ sym b.counter) e4.0 in
    let e2 = split _ _ (to_be_bytes w16 s.counter) (to_be_bytes w16 t.counter) (a.address ∙ sym b.address) e3.0 in
    let e1 = split _ _ (to_be_bytes w16 s.address) (to_be_bytes w16 t.address) (a.registers ∙ sym b.registers) e2.0 in
    let e0 = split _ _ s.registers t.registers (a.memory ∙ sym b.memory) e1.0 in
    record { memory = e0.0; registers = e0.1; address = e1.1; counter = e2.1; depth = e3.1; stack = e4.1; screen = e5.1; rest = e6.1 }

-- the parts after the screen
record SameRest (s t : State) : Type 0 where
  timer : s.timer ≡ t.timer
  tone : s.tone ≡ t.tone
  keys : s.keys ≡ t.keys
  waits : s.waits ≡ t.waits
  draws : s.draws ≡ t.draws
  stop : s.stop ≡ t.stop

rest_same : (s t : State) → IsState s → IsState t → rest_bytes s ≡ rest_bytes t → SameRest s t
rest_same s t is at same =
    let byte : (k : ℕ) → slice_index (rest_bytes s) k ≡ slice_index (rest_bytes t) k = λ k. ap (λ (bytes : List ℕ). slice_index bytes k) same in
    let keys : to_be_bytes w16 s.keys ≡ to_be_bytes w16 t.keys = ap (λ (bytes : List ℕ). take 2 (drop 2 bytes)) same in
    let draws : to_be_bytes w64 s.draws ≡ to_be_bytes w64 t.draws = ap (λ (bytes : List ℕ). take 8 (drop 5 bytes)) same in
    record {
      timer = byte 0;
      tone = byte 1;
      keys = short_same s.keys t.keys is.keys at.keys keys;
      waits = waits_same s.waits t.waits (byte 4) (some_low s.waits is.waits) (some_low t.waits at.waits);
      draws = long_same s.draws t.draws is.draws at.draws draws;
      stop = stop_same s.stop t.stop (byte 13);
    }

low_places : (s : State) → IsState s → (k : ℕ) → slice_index (places s.stack) k < 2 ^ 16
low_places s is k = omega (arith, padded s.stack (16 - length s.stack) k, is.places k)

pub state_same : (s t : State) → IsState s → IsState t → state_bytes s ≡ state_bytes t → s ≡ t
state_same s t is at same =
    let parts = parts_same s t is at same in
    let rest = rest_same s t is at parts.rest in
    let memory = memory_same s t is at parts.memory in
    let registers = parts.registers in
    let address = short_same s.address t.address (omega (arith, is.address)) (omega (arith, at.address)) parts.address in
    let counter = short_same s.counter t.counter (omega (arith, is.counter)) (omega (arith, at.counter)) parts.counter in
    let depth : length s.stack ≡ length t.stack = ap (λ (bytes : List ℕ). slice_index bytes 0) parts.depth in
    let all = words_same (places s.stack) (places t.stack) (sixteen s.stack is.depth ∙ sym (sixteen t.stack at.depth)) (low_places s is)
    (low_places t at) parts.stack in
    let stack = stack_same s.stack t.stack depth all in
    let screen = points_same s.screen t.screen is.points at.points parts.screen in
    let timer = rest.timer in
    let tone = rest.tone in
    let keys = rest.keys in
    let waits = rest.waits in
    let draws = rest.draws in
    let stop = rest.stop in
    λ i. record {
      memory = λ k. memory k i;
      registers = registers i;
      address = address i;
      counter = counter i;
      stack = stack i;
      screen = λ x y. screen x y i;
      timer = timer i;
      tone = tone i;
      keys = keys i;
      waits = waits i;
      draws = draws i;
      stop = stop i;
    }
