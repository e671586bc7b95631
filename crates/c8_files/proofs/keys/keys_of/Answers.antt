-- One more hexadecimal digit adds the key that it names and no other.
use Rattle.std.proofs.Common.{◌≡◌, ℕ, ◌+◌, ◌<◌, Bool, true, List, [], ◌∷◌, length, take, get_or, Some, sym, ◌∙◌, refl, ap, add-one}
use Rattle.std.specs.Prelude.{is_some}
use Rattle.std.specs.List.{list_all}
use Rattle.std.proofs.Math.Seq.{take-suc}
use Rattle.std.proofs.lemmas.Bool.{and_from}
use Rattle.std.proofs.lemmas.List.Folds.{list_all-append}
use Rattle.hex.specs.Hex.{hex_digit_value, is_hex_digit}
use Rattle.c8_files.proofs.KeyLemmas.{named_more}
use Rattle.c8_files.proofs.keys.keys_of.Goals as goal

all_more : (test : ℕ → Bool) (bytes : List ℕ) (place : ℕ) → place < length bytes → list_all test (take place bytes) ≡ true
    → test (get_or bytes place 0) ≡ true → list_all test (take (place + 1) bytes) ≡ true
all_more test bytes place within all here =
    rw (add-one, take-suc bytes place 0) (list_all-append test (take place bytes) (get_or bytes place 0 ∷ [])
    ∙ and_from (list_all test (take place bytes)) (list_all test (get_or bytes place 0 ∷ [])) all
    (and_from (test (get_or bytes place 0)) true here refl))

pub loop-digit-preserved : goal.loop-digit-preserved
loop-digit-preserved c =
    let names : hex_digit_value (get_or c.args.digits.now c.loop-digit.digit-index 0) ≡ Some c.in-Some.key = sym c.in-Some.ensures.value in (
      all_more is_hex_digit c.args.digits.now c.loop-digit.digit-index c.loop-digit-test.true c.loop-digit.invariant.0 (ap is_some names),
      named_more c.args.digits.now c.loop-digit.digit-index c.loop-digit.keys c.in-Some.key c.loop-digit.invariant.1 names c.in-Some.ensures.small,
    )
