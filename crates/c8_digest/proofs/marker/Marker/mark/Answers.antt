-- The hasher holds the machine's memory, so with the other parts it gives the digest of all state bytes.
use Rattle.std.proofs.Common.{◌≡◌, ℕ, List, ◌++◌, map, take, sym, ap, subst, ◌∙◌}
use Rattle.std.specs.List.{range_with_len}
use Rattle.sha2.specs.Hashers.{Holds256}
use Rattle.sha2.specs.Sha256.{sha256}
use Rattle.sha2.specs.declared.Sha256.{Sha256}
use Rattle.c8_machine.specs.State.{State, state}
use Rattle.c8_digest.specs.StateBytes.{state_bytes}
use Rattle.c8_digest.specs.checked.Parts.{after_memory, memory_first}
use Rattle.c8_digest.proofs.StateLemmas.{memory_is}
use Rattle.c8_digest.proofs.marker.Marker.mark.Goals as goal

pub returns : goal.returns
returns c =
    let s : State = state c.args.machine.now in
    let memory : List ℕ = c.memory.result.now in
    let same : map s.memory (range_with_len 0 4096) ≡ memory = memory_is memory s.memory c.memory.ensures c.follow.ensures.long in
    let bytes : memory ++ c.put_after_memory.new.out.items ≡ state_bytes s =
    ap (λ (rest : List ℕ). memory ++ rest) (c.put_after_memory.ensures.bytes ∙ ap (λ (items : List ℕ). items ++ after_memory s) c.new-rest.ensures)
    ∙ ap (λ (items : List ℕ). items ++ after_memory s) (sym same) ∙ sym (memory_first s) in
    let begun : Holds256 c.in-Ok.hasher memory =
    subst (λ (h : Sha256). Holds256 h memory) (sym c.in-Ok.ensures.cases)
    (subst (λ (held : List ℕ). Holds256 c.follow.new.self.begun held) c.follow.ensures.memory c.follow.new.self.begins) in
    c.first_of.ensures ∙ ap (take 8) (c.finalize.ensures (memory ++ c.as_slice.result.now) (c.update.ensures memory begun))
    ∙ ap (λ (rest : List ℕ). take 8 (sha256 (memory ++ rest))) c.as_slice.ensures.value ∙ ap (λ (all : List ℕ). take 8 (sha256 all)) bytes
