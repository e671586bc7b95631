-- The parts after the memory are appended one by one, in the order of a state's bytes.
use Rattle.std.proofs.Common.{List, ℕ, [], ◌∷◌, ◌++◌, length, refl, ap, ◌∙◌}
use Rattle.std.specs.List.{flat_map}
use Rattle.std.specs.Int.{to_be_bytes, w16}
use Rattle.c8_screen.specs.Points.{points_of}
use Rattle.c8_machine.specs.State.{State, state}
use Rattle.c8_digest.specs.StateBytes.{places, screen_bytes, rest_bytes}
use Rattle.c8_digest.specs.checked.Parts.{all_after}
use Rattle.c8_digest.proofs.StateLemmas.{appended}
use Rattle.c8_digest.proofs.digest.put_after_memory.Goals as goal

pub returns-clause-bytes : goal.returns-clause-bytes
returns-clause-bytes c =
    let s : State = state c.args.machine.now in
    let before : List ℕ = c.args.out.now.items in
    let stack : List ℕ = c.stack.result.now in
    let all =
    appended before c.registers.result.now c.to_be_bytes.result c.to_be_bytes-2.result (length stack ∷ [])
    (flat_map (to_be_bytes w16) (places stack)) (screen_bytes (points_of c.screen.result.now)) (rest_bytes s)
    before c.put.new.out.items c.put-2.new.out.items c.put-3.new.out.items c.put_stack.new.out.items c.put_screen.new.out.items
    c.put_rest.new.out.items
    refl c.put.ensures.bytes c.put-2.ensures.bytes c.put-3.ensures.bytes c.put_stack.ensures.bytes c.put_screen.ensures.bytes
    c.put_rest.ensures.bytes in
    let address = c.to_be_bytes.ensures ∙ ap (to_be_bytes w16) c.address.ensures.value in
    let counter = c.to_be_bytes-2.ensures ∙ ap (to_be_bytes w16) c.counter.ensures.value in
    all
    ∙ (λ i.
    before ++ c.registers.ensures i ++ address i ++ counter i ++ (length (c.stack.ensures.value i) ∷ [])
    ++ flat_map (to_be_bytes w16) (places (c.stack.ensures.value i)) ++ screen_bytes (c.screen.ensures i) ++ rest_bytes s)
    ∙ all_after before s.registers (to_be_bytes w16 s.address) (to_be_bytes w16 s.counter) (length s.stack ∷ [])
    (flat_map (to_be_bytes w16) (places s.stack)) (screen_bytes s.screen) (rest_bytes s)
