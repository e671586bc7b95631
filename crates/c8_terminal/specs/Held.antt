-- What a caller knows of the held keys.
use Rattle.std.specs.Prelude.{ℕ, false, slice_index_or}
use Rattle.c8_terminal.specs.declared.press.Press.{Press}
use Rattle.c8_terminal.specs.declared.held.Held.{Held}
use Rattle.c8_terminal.specs.Strokes as strokes

abbrev pub press_of : Press → strokes.Press
press_of p = record { down = p.down; unseen = p.unseen; left = p.left; since = p.since }

-- the state of a key
abbrev pub press_at : Held → ℕ → strokes.Press
press_at held key = press_of (slice_index_or held.presses key (record { down = false; unseen = false; left = 0; since = 0 }))

-- how many frames a stroke holds its key
abbrev pub hold_of : Held → ℕ
hold_of held = held.hold
