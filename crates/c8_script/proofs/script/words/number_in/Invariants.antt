-- The bytes so far are digits, and their number fits in 64 bits.
use Rattle.std.proofs.Common.{◌≡◌, ◌<◌, ◌^◌, true, take}
use Rattle.std.specs.Char.{is_ascii_digit}
use Rattle.std.specs.List.{list_all}
use Rattle.c8_game.specs.Fields.{decimal_number}
use Rattle.c8_script.proofs.script.words.number_in.Given as goal

-- the bytes so far are digits, and this is their number
abbrev pub invariant-loop-byte : goal.invariant-loop-byte
invariant-loop-byte l = record {
  digits : list_all is_ascii_digit (take l.byte-index l.word) ≡ true;
  number : l.number ≡ decimal_number (take l.byte-index l.word);
  fits : l.number < 2 ^ 64;
}
