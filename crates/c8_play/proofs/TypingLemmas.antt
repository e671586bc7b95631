-- How the bytes of a keyboard join.
use Rattle.std.proofs.Common.{◌≡◌, ◌<◌, ◌+◌, ℕ, suc, length, take, get_or, arith, List, [], ◌∷◌, ◌++◌, Option, Some, None, refl, ap, sym}
use Rattle.std.proofs.Common.{◌∙◌, append_assoc}
use Rattle.std.proofs.Math.Seq.{take-suc}
use Rattle.c8_terminal.specs.declared.signal.Signal.{Signal}
use Rattle.c8_terminal.specs.Decoding.{Decoding, step, pause}
use Rattle.c8_terminal.specs.Sent.{told_by, with_told}
use Rattle.c8_terminal.specs.Strokes.{Press, noted}
use Rattle.c8_play.specs.Typing.{Typing, read_after, after_signals, HasCome, HasPaused}

-- the bytes so far and the next one
pub take_next : (bytes : List ℕ) (i : ℕ) → i < length bytes → take (i + 1) bytes ≡ take i bytes ++ get_or bytes i 0 ∷ []
take_next bytes i within = let more : i + 1 ≡ suc i = omega arith in ap (λ (n : ℕ). take n bytes) more ∙ take-suc bytes i 0 within

pub read-append : (xs ys : List ℕ) (d : Decoding) → read_after (xs ++ ys) d ≡ read_after ys (read_after xs d)
read-append [] ys d = refl
read-append (x ∷ xs) ys d = read-append xs ys (step x d).next

with_told-append : (told : Option Signal) (xs ys : List Signal) → with_told told (xs ++ ys) ≡ with_told told xs ++ ys
with_told-append None xs ys = refl
with_told-append (Some signal) xs ys = refl

pub told-append : (xs ys : List ℕ) (d : Decoding) → told_by (xs ++ ys) d ≡ told_by xs d ++ told_by ys (read_after xs d)
told-append [] ys d = refl
told-append (x ∷ xs) ys d =
    ap (with_told (step x d).told) (told-append xs ys (step x d).next)
    ∙ with_told-append (step x d).told (told_by xs (step x d).next) (told_by ys (read_after xs (step x d).next))

pub signals-append : (hold : ℕ) (xs ys : List Signal) (key : ℕ) (p : Press)
    → after_signals hold (xs ++ ys) key p ≡ after_signals hold ys key (after_signals hold xs key p)
signals-append hold [] ys key p = refl
signals-append hold (signal ∷ xs) ys key p = signals-append hold xs ys key (noted hold signal key p)

-- bytes that come after others
pub come_joined : (xs ys : List ℕ) (t u v : Typing) → HasCome xs t u → HasCome ys u v → HasCome (xs ++ ys) t v
come_joined xs ys t u v one two = record {
  typed = two.typed ∙ ap (λ (bytes : List ℕ). bytes ++ ys) one.typed ∙ append_assoc t.typed xs ys;
  read = two.read ∙ ap (read_after ys) one.read ∙ sym (read-append xs ys t.read);
  hold = two.hold ∙ one.hold;
  press =
      λ key within.
      two.press key within
      ∙ ap (λ (hold : ℕ). after_signals hold (told_by ys u.read) key (u.press key)) one.hold
      ∙ ap (λ (read : Decoding). after_signals t.hold (told_by ys read) key (u.press key)) one.read
      ∙ ap (after_signals t.hold (told_by ys (read_after xs t.read)) key) (one.press key within)
      ∙ sym (signals-append t.hold (told_by xs t.read) (told_by ys (read_after xs t.read)) key (t.press key))
      ∙ ap (λ (signals : List Signal). after_signals t.hold signals key (t.press key)) (sym (told-append xs ys t.read));
}

-- nothing came, and a pause ended the sequence that was being read
pub paused_after : (t u v : Typing) → u ≡ t → v.typed ≡ u.typed → v.read ≡ (pause u.read).next → v.hold ≡ u.hold
    → ((key : ℕ) → v.press key ≡ u.press key) → HasPaused t v
paused_after t u v same typed read hold press = record {
  typed = typed ∙ ap (λ (x : Typing). x.typed) same;
  read = read ∙ ap (λ (x : Typing). (pause x.read).next) same;
  hold = hold ∙ ap (λ (x : Typing). x.hold) same;
  press = λ key within. press key ∙ ap (λ (x : Typing). x.press key) same;
}
