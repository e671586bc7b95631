-- Where a board's run begins, as data: an origin contains functions, but the values of a token must be comparable.
use Rattle.std.specs.Prelude.{ℕ, List}
use Rattle.c8_game.specs.declared.row.Row.{Row}
use Rattle.c8_digest.specs.declared.marks.FrameMark.{FrameMark}
use Rattle.c8_digest.specs.StateBytes.{state_bytes}
use Rattle.c8_digest.specs.Reading.{state_in}
use Rattle.c8_digest.specs.Origin.{Origin}

-- after how many frames, the bytes of the machine then, and the marks kept then
pub record StartValue : Type 0 where
  pub frames : ℕ
  pub machine : List ℕ
  pub marks : List FrameMark

-- the origin of a start
abbrev pub origin_from : StartValue → Origin
origin_from start = record { frames = start.frames; machine = state_in start.machine; marks = start.marks }

-- the start of an origin that a machine can have reached (`starts_tell_origins` of `src/laws.rt`)
abbrev pub start_of : Origin → StartValue
start_of from = record { frames = from.frames; machine = state_bytes from.machine; marks = from.marks }

-- a run so far: where it begins, and its rows; rows before the start are not run
pub record RunValue : Type 0 where
  pub from : StartValue
  pub rows : List Row
