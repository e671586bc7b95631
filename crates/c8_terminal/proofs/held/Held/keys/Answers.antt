-- A held key adds its bit, and a key that is not held leaves the set as it was.
use Rattle.std.proofs.Common.{ℕ, ◌+◌, Bool, subst, sym, ◌∙◌}
use Rattle.c8_terminal.specs.Held.{press_at}
use Rattle.c8_terminal.specs.Strokes.{is_held}
use Rattle.c8_terminal.proofs.HeldLemmas.{KeysBelow, added, left_out}
use Rattle.c8_terminal.proofs.held.Held.keys.Goals as goal
use Rattle.c8_terminal.proofs.held.Held.keys.Goals.{then-is_held, else-is_held}

pub loop-key-preserved : goal.loop-key-preserved
loop-key-preserved c =
    let passes : ℕ → Bool = λ k. is_held (press_at c.args.self.now k) in
    let key : ℕ = c.loop-key.key in
    elim c.if-is_held.branch [
      | then-is_held w ↦
          subst (KeysBelow passes (key + 1)) (sym w.keys-is)
          (added passes key c.loop-key.keys c.loop-key.invariant c.loop-key-test.true (sym c.is_held.ensures ∙ w.if-is_held.true))
      | else-is_held w ↦
          subst (KeysBelow passes (key + 1)) (sym w.keys-is)
          (left_out passes key c.loop-key.keys c.loop-key.invariant (sym c.is_held.ensures ∙ w.if-is_held.false))
    ]
