-- One more byte moves the decoder by one step, and each key notes the signal that this step tells.
use Rattle.std.proofs.Common.{◌≡◌, ◌+◌, ℕ, List, [], ◌∷◌, ◌++◌, ap, sym, ◌∙◌, take, get_or}
use Rattle.c8_terminal.specs.Decoder.{read_by}
use Rattle.c8_terminal.specs.Held.{press_at, hold_of}
use Rattle.c8_terminal.specs.declared.signal.Signal.{Signal}
use Rattle.c8_terminal.specs.Decoding.{Decoding, step}
use Rattle.c8_terminal.specs.Sent.{told_by, with_told}
use Rattle.c8_terminal.specs.Strokes.{Press}
use Rattle.c8_play.specs.Typing.{read_after, after_signals}
use Rattle.c8_play.proofs.DeskLemmas.{forgets_more}
use Rattle.c8_play.proofs.TypingLemmas.{take_next, read-append, told-append, signals-append}
use Rattle.c8_play.proofs.desk.Desk.take.Goals as goal

pub loop-byte-preserved : goal.loop-byte-preserved
loop-byte-preserved g c =
    let bytes : List ℕ = c.args.bytes.now in
    let i : ℕ = c.loop-byte.byte-index in
    let b : ℕ = get_or bytes i 0 in
    let d : Decoding = read_by c.args.self.now.decoder in
    let hold : ℕ = hold_of c.args.self.now.held in
    let more : take (i + 1) bytes ≡ take i bytes ++ b ∷ [] = take_next bytes i c.loop-byte-test.true in
    let before = c.loop-byte.invariant in
    let taken = c.take_byte.ensures in
    let read : read_after (take (i + 1) bytes) d ≡ (step b (read_after (take i bytes) d)).next =
    ap (λ (xs : List ℕ). read_after xs d) more ∙ read-append (take i bytes) (b ∷ []) d in
    let told : told_by (take (i + 1) bytes) d ≡ told_by (take i bytes) d ++ with_told (step b (read_after (take i bytes) d)).told [] =
    ap (λ (xs : List ℕ). told_by xs d) more ∙ told-append (take i bytes) (b ∷ []) d in
    record {
      read = taken.read ∙ ap (λ (r : Decoding). (step b r).next) before.read ∙ sym read;
      hold = taken.hold ∙ before.hold;
      press =
          λ key within.
          taken.press key within
          ∙ ap (λ (h : ℕ). after_signals h (with_told (step b (read_by c.loop-byte.self.decoder)).told []) key
          (press_at c.loop-byte.self.held key)) before.hold
          ∙ ap (λ (r : Decoding). after_signals hold (with_told (step b r).told []) key (press_at c.loop-byte.self.held key)) before.read
          ∙ ap (λ (p : Press). after_signals hold (with_told (step b (read_after (take i bytes) d)).told []) key p) (before.press key within)
          ∙ sym (signals-append hold (told_by (take i bytes) d) (with_told (step b (read_after (take i bytes) d)).told []) key
          (press_at c.args.self.now.held key))
          ∙ ap (λ (signals : List Signal). after_signals hold signals key (press_at c.args.self.now.held key)) (sym told);
      seen = forgets_more c.args.self.now c.loop-byte.self c.take_byte.new.self before.seen taken.seen;
      console = taken.console ∙ before.console;
    }
