-- A stroke, a press or a release changes the state of its key and of no other.
use Rattle.std.proofs.Common.{◌≡◌, ◌<◌, ℕ, List, cond, length, slice_set, arith, sym, ap, subst, ◌∙◌}
use Rattle.std.specs.Prelude.{◌==◌}
use Rattle.c8_terminal.specs.declared.signal.Signal.{Signal}
use Rattle.c8_terminal.specs.declared.press.Press.{Press}
use Rattle.c8_terminal.specs.Decoder.{IsOfKeypad}
use Rattle.c8_terminal.specs.Held.{press_of}
use Rattle.c8_terminal.specs.Strokes.{noted, struck, pressed, released}
use Rattle.c8_terminal.specs.Strokes as strokes
use Rattle.c8_terminal.proofs.HeldLemmas.{changed, known}
use Rattle.c8_terminal.proofs.held.Held.note.Goals as goal

-- a signal of one key changes the press of that key
one_key : (signal : Signal) (ps : List Press) (hold i k : ℕ) (p : Press) (f : strokes.Press → strokes.Press) → i < length ps
    → press_of p ≡ f (known ps i) → noted hold signal k (known ps k) ≡ cond (i == k) (f (known ps k)) (known ps k)
    → known (slice_set ps i p) k ≡ noted hold signal k (known ps k)
one_key signal ps hold i k p f within is says = changed ps i p f within is k ∙ sym says

pub returns-in-Struck-clause-presses : goal.returns-in-Struck-clause-presses
returns-in-Struck-clause-presses c = λ k below.
    let ps : List Press = c.args.self.now.presses in
    let hold : ℕ = c.args.self.now.hold in
    let i : ℕ = c.from-key.result in
    let key : c.in-Struck.key < 16 = subst IsOfKeypad c.in-Struck.is c.requires in
    let within : i < length ps = omega (arith, key) in
    let says : noted hold c.args.signal k (known ps k) ≡ cond (i == k) (struck hold (known ps k)) (known ps k) =
    ap (λ (s : Signal). noted hold s k (known ps k)) c.in-Struck.is
    ∙ ap (λ (j : ℕ). cond (j == k) (struck hold (known ps k)) (known ps k)) (sym c.from-key.ensures) in
    one_key c.args.signal ps hold i k c.struck.result (struck hold) within c.struck.ensures says

pub returns-in-Down-clause-presses : goal.returns-in-Down-clause-presses
returns-in-Down-clause-presses c = λ k below.
    let ps : List Press = c.args.self.now.presses in
    let hold : ℕ = c.args.self.now.hold in
    let i : ℕ = c.from-key-in-Down.result in
    let key : c.in-Down.key < 16 = subst IsOfKeypad c.in-Down.is c.requires in
    let within : i < length ps = omega (arith, key) in
    let says : noted hold c.args.signal k (known ps k) ≡ cond (i == k) (pressed (known ps k)) (known ps k) =
    ap (λ (s : Signal). noted hold s k (known ps k)) c.in-Down.is
    ∙ ap (λ (j : ℕ). cond (j == k) (pressed (known ps k)) (known ps k)) (sym c.from-key-in-Down.ensures) in
    one_key c.args.signal ps hold i k c.pressed.result (pressed) within c.pressed.ensures says

pub returns-in-Up-clause-presses : goal.returns-in-Up-clause-presses
returns-in-Up-clause-presses c = λ k below.
    let ps : List Press = c.args.self.now.presses in
    let hold : ℕ = c.args.self.now.hold in
    let i : ℕ = c.from-key-in-Up.result in
    let key : c.in-Up.key < 16 = subst IsOfKeypad c.in-Up.is c.requires in
    let within : i < length ps = omega (arith, key) in
    let says : noted hold c.args.signal k (known ps k) ≡ cond (i == k) (released (known ps k)) (known ps k) =
    ap (λ (s : Signal). noted hold s k (known ps k)) c.in-Up.is
    ∙ ap (λ (j : ℕ). cond (j == k) (released (known ps k)) (known ps k)) (sym c.from-key-in-Up.ensures) in
    one_key c.args.signal ps hold i k c.released.result (released) within c.released.ensures says
