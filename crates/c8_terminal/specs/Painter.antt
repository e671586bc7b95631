-- What a caller knows of a painter.
use Rattle.std.specs.Prelude.{ℕ, List, Option, Some, None}
use Rattle.c8_screen.specs.Points.{Points, points_of}
use Rattle.c8_screen.specs.declared.Screen.{Screen}
use Rattle.c8_terminal.specs.declared.painter.Painter.{Painter}

abbrev pub seen : Option Screen → Option Points
seen None = None
seen (Some screen) = Some (points_of screen)

-- the points that the terminal shows, as far as the painter knows
abbrev pub known_to : Painter → Option Points
known_to painter = seen painter.shown

-- the bytes of the last painting
abbrev pub painted_by : Painter → List ℕ
painted_by painter = painter.bytes.items
