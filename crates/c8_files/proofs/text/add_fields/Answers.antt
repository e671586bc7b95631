-- The next line is the one of the next field, with its number in the game that is asked for.
use Rattle.std.proofs.Common.{refl, []}
use Rattle.c8_files.specs.Asked.{rules_of}
use Rattle.c8_files.proofs.FieldLemmas.{one_more_field}
use Rattle.c8_files.proofs.text.add_fields.Goals as goal

pub loop-field-preserved : goal.loop-field-preserved
loop-field-preserved c = (
  refl,
  one_more_field (rules_of c.args.settings.now []) c.args.text.now.items c.loop-field.text.items
      c.add_field.new.text.items c.loop-field.field-index c.loop-field-test.true c.loop-field.invariant.1 c.in_ok-add_field.ensures,
)
