-- Checked, not believed: a state's bytes are its memory and the parts after it, and a hasher holds a message in one way.
use Rattle.std.proofs.Common.{◌≡◌, ℕ, List, [], ◌∷◌, ◌++◌, length, map, ap, ◌∙◌}
use Rattle.std.proofs.lemmas.List.{append_assoc}
use Rattle.std.proofs.Props.{props}
use Rattle.std.specs.List.{flat_map, range_with_len}
use Rattle.std.specs.Int.{to_be_bytes, w16}
use Rattle.sha2.specs.Hashers.{Holds256}
use Rattle.sha2.specs.Sha256.{Holds}
use Rattle.sha2.specs.declared.Sha256.{Sha256}
use Rattle.c8_machine.specs.State.{State, memory_size}
use Rattle.c8_digest.specs.StateBytes.{places, screen_bytes, rest_bytes, state_bytes}

-- the parts after the memory
abbrev pub after_memory : State → List ℕ
after_memory s =
    s.registers ++ to_be_bytes w16 s.address ++ to_be_bytes w16 s.counter
    ++ (length s.stack ∷ []) ++ flat_map (to_be_bytes w16) (places s.stack) ++ screen_bytes s.screen ++ rest_bytes s

-- seven parts after another one
pub all_after : (m r a c d st sc re : List ℕ) → m ++ r ++ a ++ c ++ d ++ st ++ sc ++ re ≡ m ++ (r ++ a ++ c ++ d ++ st ++ sc ++ re)
all_after m r a c d st sc re =
    let two = append_assoc m r a in
    let three = ap (λ (b : List ℕ). b ++ c) two ∙ append_assoc m (r ++ a) c in
    let four = ap (λ (b : List ℕ). b ++ d) three ∙ append_assoc m (r ++ a ++ c) d in
    let five = ap (λ (b : List ℕ). b ++ st) four ∙ append_assoc m (r ++ a ++ c ++ d) st in
    let six = ap (λ (b : List ℕ). b ++ sc) five ∙ append_assoc m (r ++ a ++ c ++ d ++ st) sc in
    ap (λ (b : List ℕ). b ++ re) six ∙ append_assoc m (r ++ a ++ c ++ d ++ st ++ sc) re

pub memory_first : (s : State) → state_bytes s ≡ map s.memory (range_with_len 0 memory_size) ++ after_memory s
unfolding state_bytes
memory_first s =
    all_after (map s.memory (range_with_len 0 memory_size)) s.registers (to_be_bytes w16 s.address) (to_be_bytes w16 s.counter)
    (length s.stack ∷ []) (flat_map (to_be_bytes w16) (places s.stack)) (screen_bytes s.screen) (rest_bytes s)

pub holds_prop : (hasher : Sha256) (message : List ℕ) → IsProp (Holds256 hasher message)
unfolding Holds
holds_prop hasher message = Prim.hlevel props
