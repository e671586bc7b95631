-- The lines of the fields so far were added, in the order of a game text.
use Rattle.std.proofs.Common.{◌≡◌, ◌++◌, [], take}
use Rattle.std.specs.Prelude.{flat_map}
use Rattle.c8_game.specs.Fields.{fields}
use Rattle.c8_files.specs.Asked.{rules_of}
use Rattle.c8_files.specs.checked.Blocks.{field_text}
use Rattle.c8_files.proofs.text.add_fields.Given as goal

abbrev pub invariant-loop-field : goal.invariant-loop-field
invariant-loop-field l = (l.field-items ≡ fields)
    × (l.text.items ≡ l.initial.text.items ++ flat_map (field_text (rules_of l.settings [])) (take l.field-index fields))
