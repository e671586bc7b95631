-- Each input of the run has reserved room, and at the end all of the run is held.
use Rattle.std.proofs.Common.{◌++◌, ◌∷◌, [], List, ℕ, length, sym, ap, ◌∙◌, append_assoc, length-append, arith}
use Rattle.std.proofs.lemmas.List.{append-nil}
use Rattle.c8_wire.specs.Lent.{words, words_left}
use Rattle.c8_known.proofs.table.hold_run.Goals as goal

pub hold-requires : goal.hold-requires
hold-requires c =
    omega (
      arith,
      c.requires,
      c.loop-input.invariant.1,
      ap length c.loop-input.invariant.0,
      ap length c.in-Some.ensures.steps,
      length-append c.loop-input.inputs.items (words_left c.loop-input.input-iterator),
      length-append c.args.inputs.now.items (words c.args.run),
    )

pub loop-input-preserved : goal.loop-input-preserved
loop-input-preserved c =
    let left = words_left c.next.new.self in (
      ap (λ (xs : List ℕ). xs ++ left) c.hold.ensures.items ∙ append_assoc c.loop-input.inputs.items (c.in-Some.input ∷ []) left
          ∙ ap (λ (xs : List ℕ). c.loop-input.inputs.items ++ xs) (sym c.in-Some.ensures.steps) ∙ c.loop-input.invariant.0,
      omega (arith, c.hold.ensures.capacity, c.loop-input.invariant.1),
    )

pub returns-clause-items : goal.returns-clause-items
returns-clause-items c =
    sym (append-nil c.loop-input.inputs.items) ∙ ap (λ (xs : List ℕ). c.loop-input.inputs.items ++ xs) (sym c.in-None.ensures.steps.0)
    ∙ c.loop-input.invariant.0
