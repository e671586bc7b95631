-- Checked, not believed: runs in either version, and the bytes that spell them.
use Rattle.std.proofs.Common.{◌≡◌, ℕ, ◌*◌, ◌%◌, ◌≤◌, true, false, List, length, refl, ap, ◌∙◌, arith}
use Rattle.std.specs.Prelude.{not}
use Rattle.std.proofs.lemmas.Bool.{not-false, le-leb, leb-true}
use Rattle.std.proofs.lemmas.Bool.Decides.{nat_tests}
use Rattle.c8_game.specs.declared.wire.WireVersion.{WireVersion}
use Rattle.c8_game.specs.declared.wire.WireVersion.TheVariants as versions
use Rattle.c8_pairs.specs.Pairs.{pairs_of, words_in}
use Rattle.c8_pairs.specs.Reading.{pairs_at, are_run}
use Rattle.c8_pairs.specs.checked.PairLaws.{pairs_say, pairs_at-spelling, spelling_is_run, run_is_spelled, sets_of, length_spelled}
use Rattle.c8_wire.specs.Packet.{AreBytes, AreWords, has_few_stretches}
use Rattle.c8_wire.specs.Spelling.{inputs_bytes}
use Rattle.c8_wire.specs.Reading.{inputs_of}
use Rattle.c8_wire.specs.Refusal.{has_wrong_size, are_no_run}
use Rattle.c8_wire.specs.checked.WordLaws.{length_of_words, spelled_words, words_of-spelled, words_of-lt, length-spelled_words}

-- Bytes that no refusal of a run applies to: they spell `count` inputs of 16 bits each.
pub record AreRun (version : WireVersion) (count : ℕ) (bytes : List ℕ) : Type 0 where
  pub spells : inputs_bytes version (inputs_of version bytes) ≡ bytes
  pub many : length (inputs_of version bytes) ≡ count
  pub room : has_few_stretches version (inputs_of version bytes) ≡ true
  pub sets : AreWords (inputs_of version bytes)

-- how many bytes a run in version 1 has
pub size_of_words : (count size : ℕ) → has_wrong_size versions.One count size ≡ false → size ≡ 2 * count
size_of_words count size right = grind (arith, nat_tests)

pub whole_pairs : (count size : ℕ) → has_wrong_size versions.Two count size ≡ false → size % 3 ≡ 0
whole_pairs count size right = grind (arith, nat_tests)

pub few_pairs : (count size : ℕ) → has_wrong_size versions.Two count size ≡ false → size ≤ 3 * 42
few_pairs count size right = grind (arith, nat_tests)

pub are_run_of : (version : WireVersion) (count : ℕ) (bytes : List ℕ) → AreBytes bytes → has_wrong_size version count (length bytes) ≡ false
    → are_no_run version count bytes ≡ false → AreRun version count bytes
are_run_of versions.One count bytes fits sized paired =
    let size = size_of_words count (length bytes) sized in
    record {
      spells = spelled_words bytes (omega (arith, size)) fits;
      many = omega (arith, size, length_of_words bytes (omega (arith, size)));
      room = refl;
      sets = words_of-lt bytes fits;
    }
are_run_of versions.Two count bytes fits sized paired =
    let is = run_is_spelled bytes count (whole_pairs count (length bytes) sized) fits (not-false (are_run (pairs_at bytes) count) paired) in
    let inputs = words_in (pairs_at bytes) in
    record {
      spells = is.spells;
      many = is.many;
      room = le-leb (length (pairs_of inputs)) 42
          (omega (arith, few_pairs count (length bytes) sized, ap length is.spells, length_spelled (pairs_of inputs)));
      sets = sets_of bytes fits;
    }

-- the spelling of inputs reads back as these inputs
pub inputs_again : (version : WireVersion) (words : List ℕ) → AreWords words → inputs_of version (inputs_bytes version words) ≡ words
inputs_again versions.One words sets = words_of-spelled words sets
inputs_again versions.Two words sets = ap words_in (pairs_at-spelling words sets) ∙ pairs_say words

-- and has the right size, if the inputs fit
pub right_size : (version : WireVersion) (words : List ℕ) → has_few_stretches version words ≡ true
    → has_wrong_size version (length words) (length (inputs_bytes version words)) ≡ false
right_size versions.One words room = let size = length-spelled_words words in grind (arith, nat_tests)
right_size versions.Two words room =
    let size = length_spelled (pairs_of words) in
    let few = leb-true (length (pairs_of words)) 42 room in
    grind (arith, nat_tests)

pub are_paired : (version : WireVersion) (words : List ℕ) → AreWords words → are_no_run version (length words) (inputs_bytes version words) ≡ false
are_paired versions.One words sets = refl
are_paired versions.Two words sets = ap not (spelling_is_run words sets)

-- how many bytes it has at most
pub few_bytes : (version : WireVersion) (words : List ℕ) → length words ≤ 64 → has_few_stretches version words ≡ true
    → length (inputs_bytes version words) ≤ 128
few_bytes versions.One words few room = omega (arith, length-spelled_words words)
few_bytes versions.Two words few room = omega (arith, length_spelled (pairs_of words), leb-true (length (pairs_of words)) 42 room)
