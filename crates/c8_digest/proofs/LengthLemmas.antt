-- The number of bytes of a state.
use Rattle.std.proofs.Common.{◌≡◌, ℕ, zero, suc, ◌+◌, ◌*◌, List, [], ◌∷◌, ◌++◌, length, map, refl, arith}
use Rattle.std.specs.List.{flat_map, range_with_len}
use Rattle.std.specs.Int.{to_be_bytes, w16, w64}
use Rattle.std.proofs.lemmas.List.{length-append}
use Rattle.std.proofs.lemmas.List.FromFn.{length-map-range_with_len}
use Rattle.c8_screen.specs.Points.{Points}
use Rattle.c8_machine.specs.State.{State, IsState}
use Rattle.c8_digest.specs.StateBytes.{columns, places, screen_bytes, rest_bytes, state_bytes, state_length}
use Rattle.c8_digest.proofs.StackLemmas.{sixteen}

length_words : (xs : List ℕ) → length (flat_map (to_be_bytes w16) xs) ≡ 2 * length xs
length_words [] = refl
length_words (x ∷ xs) = omega (arith, length_words xs)

length_rows : (points : Points) (a n : ℕ) → length (flat_map (λ y. to_be_bytes w64 (columns points y 64)) (range_with_len a n)) ≡ 8 * n
length_rows points a zero = refl
length_rows points a (suc n) = omega (arith, length_rows points (a + 1) n)

-- the length of two lists joined
more : (xs ys : List ℕ) (m n : ℕ) → length xs ≡ m → length ys ≡ n → length (xs ++ ys) ≡ m + n
more xs ys m n first second = omega (arith, length-append xs ys, first, second)

-- the number of bytes before each part
pub record Fronts (s : State) : Type 0 where
  pub memory : length (map s.memory (range_with_len 0 4096)) ≡ 4096
  pub registers : length (map s.memory (range_with_len 0 4096) ++ s.registers) ≡ 4112
  pub address : length (map s.memory (range_with_len 0 4096) ++ s.registers ++ to_be_bytes w16 s.address) ≡ 4114
  pub counter : length (map s.memory (range_with_len 0 4096) ++ s.registers ++ to_be_bytes w16 s.address ++ to_be_bytes w16 s.counter) ≡ 4116
  pub depth : length (map s.memory (range_with_len 0 4096) ++ s.registers ++ to_be_bytes w16 s.address ++ to_be_bytes w16 s.counter ++
      (length s.stack ∷ [])) ≡ 4117
  pub stack : length (map s.memory (range_with_len 0 4096) ++ s.registers ++ to_be_bytes w16 s.address ++ to_be_bytes w16 s.counter ++
      (length s.stack ∷ []) ++ flat_map (to_be_bytes w16) (places s.stack)) ≡ 4149
  pub screen : length (map s.memory (range_with_len 0 4096) ++ s.registers ++ to_be_bytes w16 s.address ++ to_be_bytes w16 s.counter ++
      (length s.stack ∷ []) ++ flat_map (to_be_bytes w16) (places s.stack) ++ screen_bytes s.screen) ≡ 4405

pub fronts : (s : State) → IsState s → Fronts s
fronts s is =
    let memory : List ℕ = map s.memory (range_with_len 0 4096) in
    let stack : List ℕ = flat_map (to_be_bytes w16) (places s.stack) in
    let depth : length stack ≡ 32 = omega (arith, length_words (places s.stack), sixteen s.stack is.depth) in
    let m0 = length-map-range_with_len s.memory 0 4096 in
    let m1 = more memory s.registers 4096 16 m0 is.registers in
    let m2 = more (memory ++ s.registers) (to_be_bytes w16 s.address) 4112 2 m1 refl in
    let m3 = more (memory ++ s.registers ++ to_be_bytes w16 s.address) (to_be_bytes w16 s.counter) 4114 2 m2 refl in
    let m4 = more (memory ++ s.registers ++ to_be_bytes w16 s.address ++ to_be_bytes w16 s.counter) (length s.stack ∷ []) 4116 1 m3 refl in
    let m5 = more (memory ++ s.registers ++ to_be_bytes w16 s.address ++ to_be_bytes w16 s.counter ++ (length s.stack ∷ [])) stack 4117 32 m4 depth in
    let m6 = more (memory ++ s.registers ++ to_be_bytes w16 s.address ++ to_be_bytes w16 s.counter ++ (length s.stack ∷ []) ++ stack)
    (screen_bytes s.screen) 4149 256 m5 (length_rows s.screen 0 32) in
    record { memory = m0; registers = m1; address = m2; counter = m3; depth = m4; stack = m5; screen = m6 }

pub state_long : (s : State) → IsState s → length (state_bytes s) ≡ state_length
unfolding state_bytes
state_long s is =
    more (map s.memory (range_with_len 0 4096) ++ s.registers ++ to_be_bytes w16 s.address ++ to_be_bytes w16 s.counter ++
    (length s.stack ∷ []) ++ flat_map (to_be_bytes w16) (places s.stack) ++ screen_bytes s.screen)
    (rest_bytes s) 4405 14 (fronts s is).screen refl
