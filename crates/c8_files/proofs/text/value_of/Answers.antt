-- The keys of a player are four hexadecimal digits, and every other value is a decimal.
use Rattle.std.proofs.Common.{◌≡◌, ◌∙◌, ℕ, true, false, sym, refl, ap}
use Rattle.std.specs.Prelude.{decimal}
use Rattle.std.specs.Int.{to_be_bytes, w16}
use Rattle.hex.specs.Hex.{encode_lower}
use Rattle.c8_game.specs.Fields.{is_mask}
use Rattle.c8_game.specs.declared.text.field.Field.{Field}
use Rattle.c8_files.specs.checked.Blocks.{spelled, value_text}
use Rattle.c8_files.proofs.text.value_of.Goals as goal

as_mask : (field : Field) (number : ℕ) → is_mask field ≡ true → encode_lower (to_be_bytes w16 number) ≡ value_text field number
unfolding spelled
as_mask field number mask = rw mask refl

as_decimal : (field : Field) (number : ℕ) → is_mask field ≡ false → decimal number ≡ value_text field number
unfolding spelled
as_decimal field number plain = rw plain refl

pub returns-in_ok-digits : goal.returns-in_ok-digits
returns-in_ok-digits c =
    let same : c.as_bytes.result.now ≡ value_text c.args.field c.args.number =
    c.as_bytes.ensures.value ∙ c.in_ok-digits.ensures ∙ ap encode_lower c.to_be_bytes.ensures
    ∙ as_mask c.args.field c.args.number (sym c.is_mask.ensures ∙ c.if-is_mask.true) in
    rw same at c.from_slice.ensures.items

pub returns-else-is_mask : goal.returns-else-is_mask
returns-else-is_mask c =
    let same : c.as_bytes-else-is_mask.result.now ≡ value_text c.args.field c.args.number =
    c.as_bytes-else-is_mask.ensures.value ∙ c.format.ensures.text
    ∙ as_decimal c.args.field c.args.number (sym c.is_mask.ensures ∙ c.if-is_mask.false) in
    rw same at c.from_slice-else-is_mask.ensures.items
