-- The parts read from the bytes of a state are those of the state.
use Rattle.std.proofs.Common.{◌≡◌, inl, inr, ℕ, zero, suc, ◌+◌, ◌-◌, ◌*◌, ◌/◌, ◌%◌, ◌^◌, ◌<◌, ◌≤◌, List, [], ◌∷◌, ◌++◌, length, take, drop}
use Rattle.std.proofs.Common.{map, Bool, true, false, cond, Option, Some, None, refl, sym, ap, ◌∙◌, arith, length-append}
use Rattle.std.specs.Prelude.{◌==◌, ◌&&◌, nat_lt, slice_index, slice_set, IfSome}
use Rattle.std.specs.List.{flat_map, range_with_len}
use Rattle.std.specs.Int.{bit_at, to_be_bytes, from_be_bytes, w16, w64}
use Rattle.std.proofs.Math.Nat.{pow-suc, div-div-eq-div-mul}
use Rattle.std.proofs.lemmas.Bool.{cases_eq, cases_lt, lt-ltb, le-leb, le-ltb, ne_eqb, eq-eqb, both_ways}
use Rattle.std.proofs.lemmas.List.{get_or-take, get_or-drop, get_or_past, length-take, get_or-set_other, take-append-le, take-take}
use Rattle.std.proofs.lemmas.List.{drop-take, drop-drop, take_all}
use Rattle.std.proofs.lemmas.List.FromFn.{length-map-range_with_len, get_or-map-range_with_len}
use Rattle.std.proofs.lemmas.Grind.{same_number_lists, get_or-set_at}
use Rattle.std.proofs.lemmas.Nat.{from_be_bytes-to_be_bytes_2, from_be_bytes-to_be_bytes_8}
use Rattle.c8_screen.specs.declared.Screen.{Screen}
use Rattle.c8_screen.specs.Points.{Points, row_has, points_in, points_of}
use Rattle.c8_machine.specs.declared.machine.Stop.{Stop}
use Rattle.c8_machine.specs.declared.machine.Stop.TheVariants.{UnknownInstruction, StackFull, StackEmpty}
use Rattle.c8_machine.specs.declared.machine.parts.Parts.{Parts}
use Rattle.c8_machine.specs.State.{State, IsState}
use Rattle.c8_machine.specs.Parts.{state_of, are_addresses, is_register, are_of_a_machine}
use Rattle.c8_digest.specs.StateBytes.{columns, screen_bytes, places, waits_byte, stop_byte, rest_bytes, state_bytes}
use Rattle.c8_digest.specs.checked.Read.{AreRead}
use Rattle.c8_digest.specs.Reading.{part_at, place_at, row_at, waits_in, stop_in, screen_in, state_in}
use Rattle.c8_digest.proofs.StackLemmas.{padded, sixteen}
use Rattle.c8_digest.proofs.LengthLemmas.{fronts}
use Rattle.c8_digest.proofs.SameLemmas.{columns_lt, off}

-- one more element of a list is set to the function's value
pub set_next : (f : ℕ → ℕ) (xs : List ℕ) (n v : ℕ) → n < length xs → ((k : ℕ) → k < n → slice_index xs k ≡ f k) → v ≡ f n → (k : ℕ)
    → k < n + 1 → slice_index (slice_set xs n v) k ≡ f k
set_next f xs n v within before is k below = elim (cases_eq k n) [
  | inl here ↦ get_or-set_at xs n k v 0 here within ∙ is ∙ ap f (sym here)
  | inr apart ↦ get_or-set_other xs n k v 0 apart ∙ before k (omega (arith, below, apart))
]

-- ---- parts of bytes

part_within : (place n : ℕ) (xs ys : List ℕ) → place + n ≤ length xs → part_at place n (xs ++ ys) ≡ part_at place n xs
part_within place n xs ys within =
    sym (drop-take place n (xs ++ ys)) ∙ ap (drop place) (take-append-le (place + n) xs ys within) ∙ drop-take place n xs

dropped : (xs ys : List ℕ) → drop (length xs) (xs ++ ys) ≡ ys
dropped [] ys = refl
dropped (x ∷ xs) ys = dropped xs ys

part_last : (place n : ℕ) (xs ys : List ℕ) → length xs ≡ place → length ys ≡ n → part_at place n (xs ++ ys) ≡ ys
part_last place n xs ys before many = ap (λ (m : ℕ). take n (drop m (xs ++ ys))) (sym before) ∙ ap (take n) (dropped xs ys)
    ∙ take_all n ys (omega (arith, many))

part_part : (place n from m : ℕ) (bytes : List ℕ) → from + m ≤ n → part_at (place + from) m bytes ≡ part_at from m (part_at place n bytes)
part_part place n from m bytes within =
    ap (take m) (sym (drop-drop from place bytes)) ∙ sym (drop-take from m (drop place bytes))
    ∙ ap (drop from) (sym (take-take (from + m) n (drop place bytes) within)) ∙ drop-take from m (take n (drop place bytes))

byte_in : (place n k : ℕ) (bytes : List ℕ) → k < n → slice_index bytes (place + k) ≡ slice_index (part_at place n bytes) k
byte_in place n k bytes within = sym (get_or-take n (drop place bytes) k 0 within ∙ get_or-drop place bytes k 0)

-- ---- numbers

word_in : (xs : List ℕ) (k : ℕ) → k < length xs → part_at (2 * k) 2 (flat_map (to_be_bytes w16) xs) ≡ to_be_bytes w16 (slice_index xs k)
word_in [] k within = absurd (omega (arith, within))
word_in (x ∷ xs) zero within = refl
word_in (x ∷ xs) (suc k) within = let two : 2 * suc k ≡ suc (suc (2 * k)) = omega arith in
    ap (λ (n : ℕ). part_at n 2 (flat_map (to_be_bytes w16) (x ∷ xs))) two ∙ word_in xs k (omega (arith, within))

row_in : (f : ℕ → ℕ) (from n k : ℕ) → k < n
    → part_at (8 * k) 8 (flat_map (λ y. to_be_bytes w64 (f y)) (range_with_len from n)) ≡ to_be_bytes w64 (f (from + k))
row_in f from zero k within = absurd (omega (arith, within))
row_in f from (suc n) zero within = let same : from ≡ from + 0 = omega arith in ap (λ (y : ℕ). to_be_bytes w64 (f y)) same
row_in f from (suc n) (suc k) within =
    let eight : 8 * suc k ≡ suc (suc (suc (suc (suc (suc (suc (suc (8 * k)))))))) = omega arith in
    let same : from + 1 + k ≡ from + suc k = omega arith in
    ap (λ (m : ℕ). part_at m 8 (flat_map (λ y. to_be_bytes w64 (f y)) (range_with_len from (suc n)))) eight
    ∙ row_in f (from + 1) n k (omega (arith, within)) ∙ ap (λ (y : ℕ). to_be_bytes w64 (f y)) same

-- ---- the screen

is_one : (b : Bool) (m : ℕ) → ((2 * m + cond b 1 0) / 2 ^ 0 % 2 == 1) ≡ b
is_one true m = let odd : (2 * m + 1) / 2 ^ 0 % 2 ≡ 1 = omega arith in eq-eqb ((2 * m + 1) / 2 ^ 0 % 2) 1 odd
is_one false m = let even : (2 * m + 0) / 2 ^ 0 % 2 ≡ 0 = omega arith in ap (λ (n : ℕ). n == 1) even

half : (b : Bool) (m : ℕ) → (2 * m + cond b 1 0) / 2 ≡ m
half true m = omega arith
half false m = omega arith

bit_before : (b : Bool) (m j : ℕ) → bit_at (2 * m + cond b 1 0) (suc j) ≡ bit_at m j
bit_before b m j =
    let twice : 2 ^ suc j ≡ 2 * 2 ^ j = omega (arith, pow-suc 2 j) in
    ap (λ (n : ℕ). n % 2) (ap (λ (p : ℕ). (2 * m + cond b 1 0) / p) twice ∙ sym (div-div-eq-div-mul (2 * m + cond b 1 0) 2 (2 ^ j))
    ∙ ap (λ (n : ℕ). n / 2 ^ j) (half b m))

-- the column before the last n - x of them
column_in : (p : Points) (y n x j : ℕ) → x + j + 1 ≡ n → (bit_at (columns p y n) j == 1) ≡ p x y
unfolding columns
column_in p y zero x j all = absurd (omega (arith, all))
column_in p y (suc n) x zero all = let here : x ≡ n = omega (arith, all) in is_one (p n y) (columns p y n) ∙ ap (λ (k : ℕ). p k y) (sym here)
column_in p y (suc n) x (suc j) all = ap (λ (d : ℕ). d == 1) (bit_before (p n y) (columns p y n) j) ∙ column_in p y n x j (omega (arith, all))

by_row : (a b c d : Bool) → b ≡ false → cond (a && b) c false ≡ cond (a && b) d false
by_row true true c d off = absurd (both_ways true off refl)
by_row true false c d off = refl
by_row false b c d off = refl

pub screen_read : (bytes rows : List ℕ) (screen : Screen) → points_of screen ≡ points_in rows
    → ((y : ℕ) → y < 32 → slice_index rows y ≡ row_at bytes y) → (x y : ℕ) → points_of screen x y ≡ screen_in bytes x y
screen_read bytes rows screen is read x y =
    ap (λ (p : Points). p x y) is
    ∙ elim (cases_lt y 32) [
      | inl row ↦ ap (λ (w : ℕ). cond (nat_lt x 64 && nat_lt y 32) (row_has w x) false) (read y row)
      | inr below ↦ by_row (nat_lt x 64) (nat_lt y 32) _ _ (le-ltb y 32 below)
    ]

-- ---- single bytes

waits_again : (waits : Option ℕ) → IfSome waits (λ x. x < 16) → waits_in (waits_byte waits) ≡ waits
waits_again None low = refl
waits_again (Some x) low = ap (λ (b : Bool). cond b None (Some x)) (ne_eqb x 255 (λ same. omega (arith, low, same)))

stop_again : (stop : Option Stop) → stop_in (stop_byte stop) ≡ stop
stop_again None = refl
stop_again (Some UnknownInstruction) = refl
stop_again (Some StackFull) = refl
stop_again (Some StackEmpty) = refl

register_again : (waits : Option ℕ) → IfSome waits (λ x. x < 16) → is_register waits ≡ true
register_again None low = refl
register_again (Some x) low = lt-ltb x 16 low

all_addresses : (xs : List ℕ) → ((k : ℕ) → slice_index xs k < 4096) → are_addresses xs ≡ true
all_addresses [] low = refl
all_addresses (x ∷ xs) low = rw (lt-ltb x 4096 (low 0)) (all_addresses xs (λ k. low (suc k)))

-- ---- the state

-- where the bytes of a state have each part
record Stand (s : State) : Type 0 where
  memory : part_at 0 4096 (state_bytes s) ≡ map s.memory (range_with_len 0 4096)
  registers : part_at 4096 16 (state_bytes s) ≡ s.registers
  address : part_at 4112 2 (state_bytes s) ≡ to_be_bytes w16 s.address
  counter : part_at 4114 2 (state_bytes s) ≡ to_be_bytes w16 s.counter
  depth : part_at 4116 1 (state_bytes s) ≡ length s.stack ∷ []
  stack : part_at 4117 32 (state_bytes s) ≡ flat_map (to_be_bytes w16) (places s.stack)
  screen : part_at 4149 256 (state_bytes s) ≡ screen_bytes s.screen
  rest : part_at 4405 14 (state_bytes s) ≡ rest_bytes s

stand : (s : State) → IsState s → Stand s
unfolding state_bytes
stand s is =
    let f = fronts s is in
    let f0 : List ℕ = map s.memory (range_with_len 0 4096) in
    let f1 : List ℕ = f0 ++ s.registers in
    let f2 : List ℕ = f1 ++ to_be_bytes w16 s.address in
    let f3 : List ℕ = f2 ++ to_be_bytes w16 s.counter in
    let f4 : List ℕ = f3 ++ (length s.stack ∷ []) in
    let st : List ℕ = flat_map (to_be_bytes w16) (places s.stack) in
    let f5 : List ℕ = f4 ++ st in
    let f6 : List ℕ = f5 ++ screen_bytes s.screen in
    let in6 : (place n : ℕ) → place + n ≤ 4405 → part_at place n (f6 ++ rest_bytes s) ≡ part_at place n f6 =
    λ place n within. part_within place n f6 (rest_bytes s) (omega (arith, within, f.screen)) in
    let in5 : (place n : ℕ) → place + n ≤ 4149 → part_at place n (f6 ++ rest_bytes s) ≡ part_at place n f5 =
    λ place n within. in6 place n (omega (arith, within)) ∙ part_within place n f5 (screen_bytes s.screen) (omega (arith, within, f.stack)) in
    let in4 : (place n : ℕ) → place + n ≤ 4117 → part_at place n (f6 ++ rest_bytes s) ≡ part_at place n f4 =
    λ place n within. in5 place n (omega (arith, within)) ∙ part_within place n f4 st (omega (arith, within, f.depth)) in
    let in3 : (place n : ℕ) → place + n ≤ 4116 → part_at place n (f6 ++ rest_bytes s) ≡ part_at place n f3 =
    λ place n within. in4 place n (omega (arith, within)) ∙ part_within place n f3 (length s.stack ∷ []) (omega (arith, within, f.counter)) in
    let in2 : (place n : ℕ) → place + n ≤ 4114 → part_at place n (f6 ++ rest_bytes s) ≡ part_at place n f2 =
    λ place n within. in3 place n (omega (arith, within))
    ∙ part_within place n f2 (to_be_bytes w16 s.counter) (omega (arith, within, f.address)) in
    let in1 : (place n : ℕ) → place + n ≤ 4112 → part_at place n (f6 ++ rest_bytes s) ≡ part_at place n f1 =
    λ place n within. in2 place n (omega (arith, within))
    ∙ part_within place n f1 (to_be_bytes w16 s.address) (omega (arith, within, f.registers)) in
    record {
      memory = in1 0 4096 (omega arith) ∙ part_within 0 4096 f0 s.registers (omega (arith, f.memory)) ∙ take_all 4096 f0 (omega (arith, f.memory));
      registers = in1 4096 16 (omega arith) ∙ part_last 4096 16 f0 s.registers f.memory is.registers;
      address = in2 4112 2 (omega arith) ∙ part_last 4112 2 f1 (to_be_bytes w16 s.address) f.registers refl;
      counter = in3 4114 2 (omega arith) ∙ part_last 4114 2 f2 (to_be_bytes w16 s.counter) f.address refl;
      depth = in4 4116 1 (omega arith) ∙ part_last 4116 1 f3 (length s.stack ∷ []) f.counter refl;
      stack = in5 4117 32 (omega arith) ∙ part_last 4117 32 f4 st f.depth (omega (arith, length-append f4 st, f.depth, f.stack));
      screen = in6 4149 256 (omega arith) ∙ part_last 4149 256 f5 (screen_bytes s.screen) f.stack
          (omega (arith, length-append f5 (screen_bytes s.screen), f.stack, f.screen));
      rest = part_last 4405 14 f6 (rest_bytes s) f.screen refl;
    }

-- a byte after the screen
rest_in : (s : State) (k : ℕ) → k < 14 → Stand s → slice_index (state_bytes s) (4405 + k) ≡ slice_index (rest_bytes s) k
rest_in s k within is = byte_in 4405 14 k (state_bytes s) within ∙ ap (λ (bytes : List ℕ). slice_index bytes k) is.rest

place_is : (s : State) (k : ℕ) → k < 16 → IsState s → Stand s → place_at (state_bytes s) k ≡ slice_index s.stack k
unfolding place_at
place_is s k within is stands =
    let bytes : List ℕ = state_bytes s in
    let more : ℕ = 16 - length s.stack in
    let low : slice_index (places s.stack) k < 2 ^ 16 = omega (arith, padded s.stack more k, is.places k) in
    let long = sixteen s.stack is.depth in
    ap (from_be_bytes w16) (part_part 4117 32 (2 * k) 2 bytes (omega (arith, within)) ∙ ap (part_at (2 * k) 2) stands.stack
    ∙ word_in (places s.stack) k (omega (arith, within, long)))
    ∙ from_be_bytes-to_be_bytes_2 (slice_index (places s.stack) k) low ∙ padded s.stack more k

row_is : (s : State) (y : ℕ) → y < 32 → Stand s → row_at (state_bytes s) y ≡ columns s.screen y 64
unfolding row_at
row_is s y within stands =
    let bytes : List ℕ = state_bytes s in
    let zero_more : 0 + y ≡ y = omega arith in
    ap (from_be_bytes w64) (part_part 4149 256 (8 * y) 8 bytes (omega (arith, within)) ∙ ap (part_at (8 * y) 8) stands.screen
    ∙ row_in (λ k. columns s.screen k 64) 0 32 y within ∙ ap (λ (k : ℕ). to_be_bytes w64 (columns s.screen k 64)) zero_more)
    ∙ from_be_bytes-to_be_bytes_8 (columns s.screen y 64) (columns_lt s.screen y 64)

screen_is : (s : State) (x y : ℕ) → IsState s → Stand s → screen_in (state_bytes s) x y ≡ s.screen x y
screen_is s x y is stands =
    elim (cases_lt x 64) [
      | inl column ↦ elim (cases_lt y 32) [
        | inl row ↦ rw (lt-ltb x 64 column) (rw (lt-ltb y 32 row)
            (ap (λ (w : ℕ). row_has w x) (row_is s y row stands) ∙ column_in s.screen y 64 x (63 - x) (omega (arith, column))))
        | inr below ↦ rw (lt-ltb x 64 column) (rw (le-ltb y 32 below) (sym (off s.screen x y is.points (λ c r. omega (arith, r, below)))))
      ]
      | inr right ↦ rw (le-ltb x 64 right) (sym (off s.screen x y is.points (λ c r. omega (arith, c, right))))
    ]

-- ---- the parts that are read

memory_is : (s : State) (bytes memory : List ℕ) → IsState s → Stand s → state_bytes s ≡ bytes → memory ≡ part_at 0 4096 bytes → (at : ℕ)
    → slice_index memory at ≡ s.memory at
memory_is s bytes memory is stands same read at =
    let all : memory ≡ map s.memory (range_with_len 0 4096) = read ∙ ap (part_at 0 4096) (sym same) ∙ stands.memory in
    ap (λ (m : List ℕ). slice_index m at) all ∙ elim (cases_lt at 4096) [
      | inl within ↦ get_or-map-range_with_len s.memory 0 4096 at at 0 within (omega arith)
      | inr past ↦ get_or_past (map s.memory (range_with_len 0 4096)) at 0 (omega (arith, (fronts s is).memory, past))
          ∙ sym (is.no_more_bytes at past)
    ]

stack_is : (s : State) (bytes stack : List ℕ) (depth : ℕ) → IsState s → Stand s → state_bytes s ≡ bytes → length stack ≡ 16 → depth ≡ length s.stack
    → ((k : ℕ) → k < 16 → slice_index stack k ≡ place_at bytes k) → take depth stack ≡ s.stack
stack_is s bytes stack depth is stands same long deep read =
    let few = is.depth in
    let many = length-take depth stack in
    same_number_lists (take depth stack) s.stack (omega (arith, many, long, deep, few))
    (λ k below. get_or-take depth stack k 0 (omega (arith, below, many)) ∙ read k (omega (arith, below, many, deep, few))
    ∙ ap (λ (all : List ℕ). place_at all k) (sym same) ∙ place_is s k (omega (arith, below, many, deep, few)) is stands)

pub state_read : (s : State) (bytes : List ℕ) (p : Parts) → IsState s → state_bytes s ≡ bytes → length p.places ≡ 16 → AreRead bytes p
    → (state_of p ≡ s) × (are_of_a_machine p ≡ true)
state_read s bytes p is same long read =
    let stands = stand s is in
    let byte : (k : ℕ) → k < 14 → slice_index bytes (4405 + k) ≡ slice_index (rest_bytes s) k =
    λ k within. ap (λ (all : List ℕ). slice_index all (4405 + k)) (sym same) ∙ rest_in s k within stands in
    let after : (from m : ℕ) → from + m ≤ 14 → part_at (4405 + from) m bytes ≡ part_at from m (rest_bytes s) =
    λ from m within. ap (part_at (4405 + from) m) (sym same) ∙ part_part 4405 14 from m (state_bytes s) within
    ∙ ap (part_at from m) stands.rest in
    let memory = memory_is s bytes p.memory is stands same read.memory in
    let registers : p.registers ≡ s.registers = read.registers ∙ ap (part_at 4096 16) (sym same) ∙ stands.registers in
    let address : p.address ≡ s.address = read.address ∙ ap (from_be_bytes w16) (ap (part_at 4112 2) (sym same) ∙ stands.address)
    ∙ from_be_bytes-to_be_bytes_2 s.address (omega (arith, is.address)) in
    let counter : p.counter ≡ s.counter = read.counter ∙ ap (from_be_bytes w16) (ap (part_at 4114 2) (sym same) ∙ stands.counter)
    ∙ from_be_bytes-to_be_bytes_2 s.counter (omega (arith, is.counter)) in
    let depth : p.depth ≡ length s.stack = read.depth ∙ ap (λ (all : List ℕ). slice_index all 4116) (sym same)
    ∙ byte_in 4116 1 0 (state_bytes s) (omega arith) ∙ ap (λ (one : List ℕ). slice_index one 0) stands.depth in
    let stack = stack_is s bytes p.places p.depth is stands same long depth read.places in
    let screen : (x y : ℕ) → points_of p.screen x y ≡ s.screen x y =
    λ x y. read.screen x y ∙ ap (λ (all : List ℕ). screen_in all x y) (sym same) ∙ screen_is s x y is stands in
    let timer : p.timer ≡ s.timer = read.timer ∙ byte 0 (omega arith) in
    let tone : p.tone ≡ s.tone = read.tone ∙ byte 1 (omega arith) in
    let keys : p.keys.0 ≡ s.keys = read.keys ∙ ap (from_be_bytes w16) (after 2 2 (omega arith)) ∙ from_be_bytes-to_be_bytes_2 s.keys is.keys in
    let waits : p.waits ≡ s.waits = read.waits ∙ ap waits_in (byte 4 (omega arith)) ∙ waits_again s.waits is.waits in
    let draws : p.draws ≡ s.draws = read.draws ∙ ap (from_be_bytes w64) (after 5 8 (omega arith)) ∙ from_be_bytes-to_be_bytes_8 s.draws is.draws in
    let stop : p.stop ≡ s.stop = read.stop ∙ ap stop_in (byte 13 (omega arith)) ∙ stop_again s.stop in (
      λ i. record {
        memory = λ at. memory at i;
        registers = registers i;
        address = address i;
        counter = counter i;
        stack = stack i;
        screen = λ x y. screen x y i;
        timer = timer i;
        tone = tone i;
        keys = keys i;
        waits = waits i;
        draws = draws i;
        stop = stop i;
      },
      rw (lt-ltb p.address 4096 (omega (arith, address, is.address)))
          (rw (lt-ltb p.counter 4096 (omega (arith, counter, is.counter))) (rw (le-leb p.depth 16 (omega (arith, depth, is.depth)))
          (rw (ap are_addresses stack ∙ all_addresses s.stack is.places) (ap is_register waits ∙ register_again s.waits is.waits)))),
    )

-- ---- the state that bytes spell

stack_again : (s : State) → IsState s → Stand s → map (place_at (state_bytes s)) (range_with_len 0 (length s.stack)) ≡ s.stack
stack_again s is stands =
    let bytes : List ℕ = state_bytes s in
    let few = is.depth in
    let many = length-map-range_with_len (place_at bytes) 0 (length s.stack) in
    same_number_lists (map (place_at bytes) (range_with_len 0 (length s.stack))) s.stack many
    (λ k below. get_or-map-range_with_len (place_at bytes) 0 (length s.stack) k k 0 (omega (arith, below, many)) (omega arith)
    ∙ place_is s k (omega (arith, below, many, few)) is stands)

depth_again : (s : State) → Stand s → slice_index (state_bytes s) 4116 ≡ length s.stack
depth_again s stands = byte_in 4116 1 0 (state_bytes s) (omega arith) ∙ ap (λ (one : List ℕ). slice_index one 0) stands.depth

address_again : (s : State) → IsState s → Stand s → from_be_bytes w16 (part_at 4112 2 (state_bytes s)) ≡ s.address
address_again s is stands = ap (from_be_bytes w16) stands.address ∙ from_be_bytes-to_be_bytes_2 s.address (omega (arith, is.address))

counter_again : (s : State) → IsState s → Stand s → from_be_bytes w16 (part_at 4114 2 (state_bytes s)) ≡ s.counter
counter_again s is stands = ap (from_be_bytes w16) stands.counter ∙ from_be_bytes-to_be_bytes_2 s.counter (omega (arith, is.counter))

rest_after : (s : State) (from m : ℕ) → from + m ≤ 14 → Stand s → part_at (4405 + from) m (state_bytes s) ≡ part_at from m (rest_bytes s)
rest_after s from m within stands = part_part 4405 14 from m (state_bytes s) within ∙ ap (part_at from m) stands.rest

low_byte : (0 < 14) × (1 < 14) × (4 < 14) × (13 < 14) × (4 ≤ 14) × (13 ≤ 14)
low_byte = (omega arith, omega arith, omega arith, omega arith, omega arith, omega arith)

pub state_again : (s : State) → IsState s → state_in (state_bytes s) ≡ s
unfolding state_in
state_again s is =
    let stands = stand s is in
    let bytes : List ℕ = state_bytes s in
    let memory = memory_is s bytes (part_at 0 4096 bytes) is stands refl refl in
    let address = address_again s is stands in
    let counter = counter_again s is stands in
    let depth = depth_again s stands in
    let stack : map (place_at bytes) (range_with_len 0 (slice_index bytes 4116)) ≡ s.stack =
    ap (λ (n : ℕ). map (place_at bytes) (range_with_len 0 n)) depth ∙ stack_again s is stands in
    let keys : from_be_bytes w16 (part_at 4407 2 bytes) ≡ s.keys =
    ap (from_be_bytes w16) (rest_after s 2 2 low_byte.4 stands) ∙ from_be_bytes-to_be_bytes_2 s.keys is.keys in
    let waits : waits_in (slice_index bytes 4409) ≡ s.waits = ap waits_in (rest_in s 4 low_byte.2 stands) ∙ waits_again s.waits is.waits in
    let draws : from_be_bytes w64 (part_at 4410 8 bytes) ≡ s.draws =
    ap (from_be_bytes w64) (rest_after s 5 8 low_byte.5 stands) ∙ from_be_bytes-to_be_bytes_8 s.draws is.draws in
    let stop : stop_in (slice_index bytes 4418) ≡ s.stop = ap stop_in (rest_in s 13 low_byte.3 stands) ∙ stop_again s.stop in
    λ i. record {
      memory = λ at. memory at i;
      registers = stands.registers i;
      address = address i;
      counter = counter i;
      stack = stack i;
      screen = λ x y. screen_is s x y is stands i;
      timer = rest_in s 0 low_byte.0 stands i;
      tone = rest_in s 1 low_byte.1 stands i;
      keys = keys i;
      waits = waits i;
      draws = draws i;
      stop = stop i;
    }
