-- The part and the number of each refusal, as they are printed.
use Rattle.std.specs.Prelude.{ℕ}
use Rattle.c8_command.specs.declared.refusal.Part.{Part}
use Rattle.c8_command.specs.declared.refusal.Part.TheVariants as parts
use Rattle.c8_wire.specs.Errors as wires
use Rattle.c8_texts.specs.declared.show_error.HexError.{HexError}
use Rattle.c8_texts.specs.declared.show_error.HexError.TheVariants.{Bad, Memory}
use Rattle.c8_texts.specs.declared.show_error.ShowError.{ShowError}
use Rattle.c8_texts.specs.declared.show_error.ShowError.TheVariants.{Hex, Wire}

abbrev pub hex_error_number : HexError → ℕ
hex_error_number Bad = 1
hex_error_number Memory = 2

-- the part and the number of each refusal of the command
abbrev pub show_part : ShowError → Part
show_part (Hex error) = parts.Hex
show_part (Wire error) = parts.Wire

abbrev pub show_error_number : ShowError → ℕ
show_error_number (Hex error) = hex_error_number error
show_error_number (Wire error) = wires.number_of error
