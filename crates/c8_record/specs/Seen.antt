-- What a caller sees of the checkpoints in the records.
use Rattle.std.specs.Prelude.{ℕ, ◌==◌, List, take, Option, Some, None, option_map, if◌then◌else◌}
use Rattle.c8_digest.specs.Origin.{origin_of}
use Rattle.c8_record.specs.declared.checks.Checks.{Checks}
use Rattle.c8_record.specs.Checks.{Pieces, ChecksValue, before_piece}

abbrev pub pieces_of : Checks → Option Pieces
pieces_of c = if c.count == 0 then None else Some (record { frames = c.frames; count = c.count; bytes = take (before_piece c.count) c.bytes })

-- the bytes of all pieces of the checkpoint that was cut
abbrev pub plan_of : Checks → List ℕ
plan_of c = c.bytes

abbrev pub value_of : Checks → ChecksValue
value_of c = record { form = c.form; under_way = pieces_of c; last = option_map origin_of c.last }
