-- The digits so far are hexadecimal, and the set has exactly the keys that they name.
use Rattle.std.proofs.Common.{◌≡◌, true, take}
use Rattle.std.specs.List.{list_all}
use Rattle.hex.specs.Hex.{is_hex_digit}
use Rattle.c8_files.proofs.KeyLemmas.{AreNamed}
use Rattle.c8_files.proofs.keys.keys_of.Given as goal

abbrev pub invariant-loop-digit : goal.invariant-loop-digit
invariant-loop-digit l = (list_all is_hex_digit (take l.digit-index l.digits) ≡ true) × AreNamed l.digits l.digit-index l.keys
