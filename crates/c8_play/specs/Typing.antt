-- What a person holds down, by the bytes that a keyboard sends.
use Rattle.std.specs.Prelude.{◌≡◌, ◌⊎◌, ◌↔◌, ◌<◌, ℕ, List, [], ◌∷◌, ◌++◌, IsTrue}
use Rattle.c8_game.specs.Rules.{HasBit}
use Rattle.c8_terminal.specs.declared.signal.Signal.{Signal}
use Rattle.c8_terminal.specs.Decoding.{Decoding, step, pause}
use Rattle.c8_terminal.specs.Sent.{told_by}
use Rattle.c8_terminal.specs.Strokes.{Press, noted, is_held, after_frame}

-- What is known of a keyboard: the bytes that have come, the part of an incomplete sequence that was read, for how many
-- frames a stroke counts, and each key.
pub record Typing : Type 0 where
  pub typed : List ℕ
  pub read : Decoding
  pub hold : ℕ
  pub press : ℕ → Press

-- what was read after some bytes
abbrev pub read_after : List ℕ → Decoding → Decoding
read_after [] d = d
read_after (b ∷ bytes) d = read_after bytes (step b d).next

-- a key after some signals, one after another
abbrev pub after_signals : ℕ → List Signal → ℕ → Press → Press
after_signals hold [] key p = p
after_signals hold (signal ∷ signals) key p = after_signals hold signals key (noted hold signal key p)

-- These bytes came, and each key has noted their signals.
pub record HasCome (bytes : List ℕ) (old new : Typing) : Type 0 where
  pub typed : new.typed ≡ old.typed ++ bytes
  pub read : new.read ≡ read_after bytes old.read
  pub hold : new.hold ≡ old.hold
  pub press : (key : ℕ) → key < 16 → new.press key ≡ after_signals old.hold (told_by bytes old.read) key (old.press key)

-- Nothing came for a while, so an escape was the key itself. The keys do not change.
pub record HasPaused (old new : Typing) : Type 0 where
  pub typed : new.typed ≡ old.typed
  pub read : new.read ≡ (pause old.read).next
  pub hold : new.hold ≡ old.hold
  pub press : (key : ℕ) → key < 16 → new.press key ≡ old.press key

-- what is read of the keys before a frame
abbrev pub HasRead : Typing → Typing → Type 0
HasRead old new = ((bytes : List ℕ) × HasCome bytes old new) ⊎ HasPaused old new

-- these keys are held in the frame that begins
abbrev pub AreHeld : Typing → ℕ → Type 0
AreHeld t keys = (key : ℕ) → key < 16 → HasBit keys key ↔ IsTrue (is_held (t.press key))

-- the frame that began is counted
pub record HasCounted (old new : Typing) : Type 0 where
  pub typed : new.typed ≡ old.typed
  pub read : new.read ≡ old.read
  pub hold : new.hold ≡ old.hold
  pub press : (key : ℕ) → key < 16 → new.press key ≡ after_frame (old.press key)
