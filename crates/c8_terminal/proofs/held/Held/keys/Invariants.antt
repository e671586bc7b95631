-- Of the keys before this one the set has just those that are held.
use Rattle.c8_terminal.specs.Held.{press_at}
use Rattle.c8_terminal.specs.Strokes.{is_held}
use Rattle.c8_terminal.proofs.HeldLemmas.{KeysBelow}
use Rattle.c8_terminal.proofs.held.Held.keys.Given as goal

abbrev pub invariant-loop-key : goal.invariant-loop-key
invariant-loop-key l = KeysBelow (λ k. is_held (press_at l.self k)) l.key l.keys
