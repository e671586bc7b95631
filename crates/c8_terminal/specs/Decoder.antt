-- What a caller knows of a decoder, and of its signals.
use Rattle.std.specs.Prelude.{◌<◌}
use Rattle.c8_terminal.specs.declared.signal.Signal.{Signal}
use Rattle.c8_terminal.specs.declared.signal.Signal.TheVariants.{Struck, Down, Up, LetGo, Quit, Repaint, GiveUp, Help}
use Rattle.c8_terminal.specs.declared.sequence.Numbers.{Numbers}
use Rattle.c8_terminal.specs.declared.decoder.Mode.{Mode}
use Rattle.c8_terminal.specs.declared.decoder.Mode.TheVariants as modes
use Rattle.c8_terminal.specs.declared.decoder.Decoder.{Decoder}
use Rattle.c8_terminal.specs.Decoding as decoding

-- the key of a signal is one of the sixteen
abbrev pub IsOfKeypad : Signal → Type 0
IsOfKeypad (Struck key) = key < 16
IsOfKeypad (Down key) = key < 16
IsOfKeypad (Up key) = key < 16
IsOfKeypad LetGo = Unit {0}
IsOfKeypad Quit = Unit {0}
IsOfKeypad Repaint = Unit {0}
IsOfKeypad GiveUp = Unit {0}
IsOfKeypad Help = Unit {0}

abbrev pub numbers_of : Numbers → decoding.Numbers
numbers_of n = record { field = n.field; part = n.part; code = n.code; base = n.base; modifiers = n.modifiers; event = n.event }

abbrev pub reading_of : Mode → decoding.Reading
reading_of modes.Ready = decoding.Nothing
reading_of modes.Escape = decoding.Escape
reading_of modes.Single = decoding.Single
reading_of (modes.Control numbers) = decoding.Control (numbers_of numbers)
reading_of (modes.Answer flags) = decoding.Answer flags
reading_of modes.Foreign = decoding.Foreign

-- the state of a decoder
abbrev pub read_by : Decoder → decoding.Decoding
read_by decoder = record { reading = reading_of decoder.mode; exact = decoder.exact }
