-- Which rows the lines of a text of keys spell.
use Rattle.std.proofs.Common.{◌≡◌, ◌≢◌, ℕ, zero, suc, ◌+◌, ◌-◌, ◌/◌, ◌%◌, ◌^◌, ◌≤◌, ◌<◌, ◌==◌, true, false, ◌&&◌, None, Some, Ok, List, []}
use Rattle.std.proofs.Common.{◌∷◌, ◌++◌, length, map, take, slice_index, if◌then◌else◌, refl, ap, sym, subst, ◌∙◌, arith}
use Rattle.std.specs.Prelude.{is_ok}
use Rattle.std.proofs.lemmas.Bool.{lt-leb, ne_eqb}
use Rattle.std.proofs.lemmas.List.{append_assoc, append-nil, length-append}
use Rattle.std.proofs.lemmas.List.Elements.{All-append, All-cons, All-nil, All-head, All-push, All-tail}
use Rattle.std.proofs.lemmas.List.Concat.{flat_map-append}
use Rattle.std.proofs.lemmas.List.FromFn.{length-map-range_with_len, map-range_with_len_more}
use Rattle.std.proofs.lemmas.List.Splits.{slice_split_at, length-slice_split}
use Rattle.std.proofs.lemmas.Nat.{from_be_bytes-to_be_bytes_2}
use Rattle.std.specs.Int.{from_be_bytes, byte_at, w16}
use Rattle.std.specs.List.{All, slice_split}
use Rattle.std.specs.Result.{result_unwrap_or}
use Rattle.std.specs.Str.Lines.{lines, lines_of_parts, strip_carriage_return}
use Rattle.hex.specs.Hex.{IsBytes, decode_sized, encode_with, lower_digits, hex_digit_value}
use Rattle.hex.proofs.HexLemmas.{IsDigits-lower_digits, decode_pairs-encode_with}
use Rattle.c8_game.specs.Faults.{AreFaultless}
use Rattle.c8_game.specs.KeysText.{is_keys_text, keys_number}
use Rattle.c8_game.specs.Rules.{Rules}
use Rattle.c8_game.specs.checked.FaultLaws.{faultless_none, faultless_more}
use Rattle.c8_game.specs.declared.row.Keys.{Keys}
use Rattle.c8_game.specs.declared.row.Row.{Row}
use Rattle.c8_texts.specs.KeyLines.{is_key_line, row_of, key_line_fault}
use Rattle.c8_known.specs.Known.{PlayerValue, KnownValue, player_in, IsKnown, IsOfGame}
use Rattle.c8_known.specs.Confirmed.{input_of, or_empty, confirmed, row, rows_below}
use Rattle.c8_known.specs.checked.ConfirmedLaws.{confirmed_is, nobody_past}
use Rattle.c8_replay.specs.KeyText.{IsSet, set_text, sets_text, line_of, keys_text, SpellRows}

-- ---- the digits of a set

-- no line feed
abbrev pub IsPlain : ℕ → Type 0
IsPlain x = (x == 10) ≡ false

-- four digits that spell a set
record Digits (n : ℕ) : Type 0 where
  a : ℕ
  b : ℕ
  c : ℕ
  d : ℕ
  text_is : set_text (record { 0 = n }) ≡ a ∷ b ∷ c ∷ d ∷ []
  spelled : is_keys_text (a ∷ b ∷ c ∷ d ∷ []) ≡ true
  number : keys_number (a ∷ b ∷ c ∷ d ∷ []) ≡ n
  plain : All IsPlain (a ∷ b ∷ c ∷ d ∷ [])
  end : d ≢ 13

-- a digit is no line feed and no carriage return
not_feed : (c d : ℕ) → hex_digit_value c ≡ Some d → c ≢ 10
not_feed c d value is = let none : None ≡ Some d = ap hex_digit_value (sym is) ∙ value in cc

not_return : (c d : ℕ) → hex_digit_value c ≡ Some d → c ≢ 13
not_return c d value is = let none : None ≡ Some d = ap hex_digit_value (sym is) ∙ value in cc

plain_at : (d : ℕ) → d < 16 → IsPlain (slice_index lower_digits d)
plain_at d within = ne_eqb (slice_index lower_digits d) 10 (not_feed (slice_index lower_digits d) d (IsDigits-lower_digits d within))

all_four : (a b c d : ℕ) → IsPlain a → IsPlain b → IsPlain c → IsPlain d → All IsPlain (a ∷ b ∷ c ∷ d ∷ [])
all_four a b c d first second third fourth =
    All-cons IsPlain a (b ∷ c ∷ d ∷ []) first
    (All-cons IsPlain b (c ∷ d ∷ []) second (All-cons IsPlain c (d ∷ []) third (All-cons IsPlain d [] fourth (All-nil IsPlain))))

two_bytes : (high low : ℕ) → high < 256 → low < 256 → IsBytes (high ∷ low ∷ [])
two_bytes high low first second zero = first
two_bytes high low first second (suc zero) = second
two_bytes high low first second (suc (suc i)) = omega arith

digits_of : (n : ℕ) → n < 2 ^ 16 → Digits n
unfolding encode_with
digits_of n fits =
    let high : ℕ = byte_at 1 n in
    let low : ℕ = byte_at 0 n in
    let first : high < 256 = omega arith in
    let second : low < 256 = omega arith in
    let back : decode_sized (set_text (record { 0 = n })) 2 ≡ Ok (high ∷ low ∷ []) =
    decode_pairs-encode_with lower_digits IsDigits-lower_digits 0 (high ∷ low ∷ []) (two_bytes high low first second) in
    record {
      a = slice_index lower_digits (high / 16);
      b = slice_index lower_digits (high % 16);
      c = slice_index lower_digits (low / 16);
      d = slice_index lower_digits (low % 16);
      text_is = refl;
      spelled = ap is_ok back;
      number = ap (λ r. from_be_bytes w16 (result_unwrap_or r [])) back ∙ from_be_bytes-to_be_bytes_2 n fits;
      plain =
          all_four (slice_index lower_digits (high / 16)) (slice_index lower_digits (high % 16)) (slice_index lower_digits (low / 16))
          (slice_index lower_digits (low % 16))
          (plain_at (high / 16) (omega arith)) (plain_at (high % 16) (omega arith)) (plain_at (low / 16) (omega arith))
          (plain_at (low % 16) (omega arith));
      end = not_return (slice_index lower_digits (low % 16)) (low % 16) (IsDigits-lower_digits (low % 16) (omega arith));
    }

-- ---- the line of a row

-- a line spells a row, and ends where it ends
pub record SpellsAs (players : ℕ) (spelled : Row) (line : List ℕ) : Type 0 where
  pub good : is_key_line players line ≡ true
  pub row_is : row_of players line ≡ spelled
  pub plain : All IsPlain line
  pub whole : strip_carriage_return line ≡ line

abbrev pub SpellsRow : ℕ → Row → Type 0
SpellsRow players spelled = SpellsAs players spelled (line_of players spelled)

none : Keys
none = record { 0 = 0 }

abbrev four : ℕ → ℕ → ℕ → ℕ → Row
four a b c d = record { sets = (record { 0 = a }) ∷ (record { 0 = b }) ∷ (record { 0 = c }) ∷ (record { 0 = d }) ∷ [] }

-- the last byte of a line is no carriage return
unstripped : (line : List ℕ) (last : ℕ) → slice_index line (length line - 1) ≡ last → last ≢ 13 → strip_carriage_return line ≡ line
unstripped line last is other = ap (λ b. if b then take (length line - 1) line else line) (ap (λ x. x == 13) is ∙ ne_eqb last 13 other)

of_two : (a b : ℕ) → a < 2 ^ 16 → b < 2 ^ 16 → SpellsRow 2 (four a b 0 0)
unfolding sets_text
of_two a b fits_a fits_b =
    let x = digits_of a fits_a in
    let y = digits_of b fits_b in
    let xs : List ℕ = x.a ∷ x.b ∷ x.c ∷ x.d ∷ [] in
    let ys : List ℕ = y.a ∷ y.b ∷ y.c ∷ y.d ∷ [] in
    let line : List ℕ = xs ++ 32 ∷ ys in
    let is : line_of 2 (four a b 0 0) ≡ line = λ i. x.text_is i ++ 32 ∷ y.text_is i in
    let good : is_key_line 2 line ≡ true = ap (λ p. p && (is_keys_text ys && true)) x.spelled ∙ ap (λ p. p && true) y.spelled in
    let row_is : row_of 2 line ≡ four a b 0 0 = λ i. four (x.number i) (y.number i) 0 0 in
    subst (SpellsAs 2 (four a b 0 0)) (sym is) (record {
      good = good;
      row_is = row_is;
      plain = All-append IsPlain xs (32 ∷ ys) x.plain (All-cons IsPlain 32 ys refl y.plain);
      whole = unstripped line y.d refl y.end;
    })

of_three : (a b c : ℕ) → a < 2 ^ 16 → b < 2 ^ 16 → c < 2 ^ 16 → SpellsRow 3 (four a b c 0)
unfolding sets_text
of_three a b c fits_a fits_b fits_c =
    let x = digits_of a fits_a in
    let y = digits_of b fits_b in
    let z = digits_of c fits_c in
    let xs : List ℕ = x.a ∷ x.b ∷ x.c ∷ x.d ∷ [] in
    let ys : List ℕ = y.a ∷ y.b ∷ y.c ∷ y.d ∷ [] in
    let zs : List ℕ = z.a ∷ z.b ∷ z.c ∷ z.d ∷ [] in
    let line : List ℕ = xs ++ 32 ∷ (ys ++ 32 ∷ zs) in
    let is : line_of 3 (four a b c 0) ≡ line = λ i. x.text_is i ++ 32 ∷ (y.text_is i ++ 32 ∷ z.text_is i) in
    let good : is_key_line 3 line ≡ true =
    ap (λ p. p && (is_keys_text ys && (is_keys_text zs && true))) x.spelled ∙ ap (λ p. p && (is_keys_text zs && true)) y.spelled
    ∙ ap (λ p. p && true) z.spelled in
    let row_is : row_of 3 line ≡ four a b c 0 = λ i. four (x.number i) (y.number i) (z.number i) 0 in
    subst (SpellsAs 3 (four a b c 0)) (sym is) (record {
      good = good;
      row_is = row_is;
      plain = All-append IsPlain xs (32 ∷ (ys ++ 32 ∷ zs)) x.plain
          (All-cons IsPlain 32 (ys ++ 32 ∷ zs) refl (All-append IsPlain ys (32 ∷ zs) y.plain (All-cons IsPlain 32 zs refl z.plain)));
      whole = unstripped line z.d refl z.end;
    })

of_four : (a b c d : ℕ) → a < 2 ^ 16 → b < 2 ^ 16 → c < 2 ^ 16 → d < 2 ^ 16 → SpellsRow 4 (four a b c d)
unfolding sets_text
of_four a b c d fits_a fits_b fits_c fits_d =
    let x = digits_of a fits_a in
    let y = digits_of b fits_b in
    let z = digits_of c fits_c in
    let w = digits_of d fits_d in
    let xs : List ℕ = x.a ∷ x.b ∷ x.c ∷ x.d ∷ [] in
    let ys : List ℕ = y.a ∷ y.b ∷ y.c ∷ y.d ∷ [] in
    let zs : List ℕ = z.a ∷ z.b ∷ z.c ∷ z.d ∷ [] in
    let ws : List ℕ = w.a ∷ w.b ∷ w.c ∷ w.d ∷ [] in
    let line : List ℕ = xs ++ 32 ∷ (ys ++ 32 ∷ (zs ++ 32 ∷ ws)) in
    let is : line_of 4 (four a b c d) ≡ line = λ i. x.text_is i ++ 32 ∷ (y.text_is i ++ 32 ∷ (z.text_is i ++ 32 ∷ w.text_is i)) in
    let good : is_key_line 4 line ≡ true =
    ap (λ p. p && (is_keys_text ys && (is_keys_text zs && (is_keys_text ws && true)))) x.spelled
    ∙ ap (λ p. p && (is_keys_text zs && (is_keys_text ws && true))) y.spelled
    ∙ ap (λ p. p && (is_keys_text ws && true)) z.spelled ∙ ap (λ p. p && true) w.spelled in
    let row_is : row_of 4 line ≡ four a b c d = λ i. four (x.number i) (y.number i) (z.number i) (w.number i) in
    subst (SpellsAs 4 (four a b c d)) (sym is) (record {
      good = good;
      row_is = row_is;
      plain =
          All-append IsPlain xs (32 ∷ (ys ++ 32 ∷ (zs ++ 32 ∷ ws))) x.plain (All-cons IsPlain 32 (ys ++ 32 ∷ (zs ++ 32 ∷ ws)) refl
          (All-append IsPlain ys (32 ∷ (zs ++ 32 ∷ ws)) y.plain
          (All-cons IsPlain 32 (zs ++ 32 ∷ ws) refl (All-append IsPlain zs (32 ∷ ws) z.plain (All-cons IsPlain 32 ws refl w.plain)))));
      whole = unstripped line w.d refl w.end;
    })

of_any : (players a b c d : ℕ) → 2 ≤ players → players ≤ 4 → All IsSet (take players (four a b c d).sets) → (players < 3 → c ≡ 0)
    → (players < 4 → d ≡ 0) → SpellsRow players (four a b c d)
of_any zero a b c d least most fits third fourth = absurd (omega (arith, least))
of_any (suc zero) a b c d least most fits third fourth = absurd (omega (arith, least))
of_any (suc (suc zero)) a b c d least most fits third fourth =
    rw (third (omega arith), fourth (omega arith)) (of_two a b (fits 0 none (omega arith)) (fits 1 none (omega arith)))
of_any (suc (suc (suc zero))) a b c d least most fits third fourth =
    rw (fourth (omega arith)) (of_three a b c (fits 0 none (omega arith)) (fits 1 none (omega arith)) (fits 2 none (omega arith)))
of_any (suc (suc (suc (suc zero)))) a b c d least most fits third fourth =
    of_four a b c d (fits 0 none (omega arith)) (fits 1 none (omega arith)) (fits 2 none (omega arith)) (fits 3 none (omega arith))
of_any (suc (suc (suc (suc (suc more))))) a b c d least most fits third fourth = absurd (omega (arith, most))

-- a settled set of a player who is not in the game is empty
absent : (k : KnownValue) (q frame : ℕ) → length k.players < q → or_empty (input_of (player_in k q) frame) ≡ 0
unfolding input_of
absent k q frame past = ap (λ (p : PlayerValue). or_empty (input_of p frame)) (nobody_past k q past)

abbrev settled : KnownValue → ℕ → ℕ → ℕ
settled k frame q = or_empty (input_of (player_in k q) frame)

-- the line of a row that is known spells it
pub known_row : (k : KnownValue) (frame players : ℕ) → length k.players ≡ players → 2 ≤ players → players ≤ 4
    → All IsSet (take players (row k frame).sets) → SpellsRow players (row k frame)
known_row k frame players all least most fits =
    of_any players (settled k frame 1) (settled k frame 2) (settled k frame 3) (settled k frame 4) least most fits
    (λ few. absent k 3 frame (omega (arith, all, few))) (λ few. absent k 4 frame (omega (arith, all, few)))

-- ---- the lines of all rows

first_part : (part : List ℕ) (parts : List (List ℕ)) → 1 ≤ length parts
    → lines_of_parts (part ∷ parts) ≡ strip_carriage_return part ∷ lines_of_parts parts
first_part part [] some = absurd (omega (arith, some))
first_part part (next ∷ more) some = refl

first_line : (line rest : List ℕ) → All IsPlain line → strip_carriage_return line ≡ line → lines ((line ++ 10 ∷ []) ++ rest) ≡ line ∷ lines rest
first_line line rest plain whole =
    let split : slice_split (λ b. b == 10) ((line ++ 10 ∷ []) ++ rest) ≡ line ∷ slice_split (λ b. b == 10) rest =
    ap (slice_split (λ b. b == 10)) (append_assoc line (10 ∷ []) rest) ∙ slice_split_at (λ b. b == 10) line 10 rest plain refl in
    ap lines_of_parts split ∙ first_part line (slice_split (λ b. b == 10) rest) (omega (arith, length-slice_split (λ b. b == 10) rest))
    ∙ ap (λ l. l ∷ lines rest) whole

lines_are : (players : ℕ) (rows : List Row) → All (SpellsRow players) rows → lines (keys_text players rows) ≡ map (line_of players) rows
lines_are players [] all = refl
lines_are players (one ∷ rows) all =
    let here = All-head (SpellsRow players) one rows all in
    first_line (line_of players one) (keys_text players rows) here.plain here.whole
    ∙ ap (λ more. line_of players one ∷ more) (lines_are players rows (All-tail (SpellsRow players) one rows all))

rows_back : (players : ℕ) (rows : List Row) → All (SpellsRow players) rows → map (row_of players) (map (line_of players) rows) ≡ rows
rows_back players [] all = refl
rows_back players (one ∷ rows) all =
    let here = All-head (SpellsRow players) one rows all in
    let rest = rows_back players rows (All-tail (SpellsRow players) one rows all) in
    λ i. here.row_is i ∷ rest i

-- a key line with a frame left for it has no fault
good_line : (rules : Rules) (before : List (List ℕ)) (line : List ℕ) → length before < rules.frames → is_key_line rules.players line ≡ true
    → key_line_fault rules before line ≡ None
good_line rules before line left good = rw (lt-leb rules.frames (length before) left, good) refl

faultless_after : (rules : Rules) (before : List (List ℕ)) (rows : List Row) → AreFaultless (key_line_fault rules) before
    → length before + length rows ≤ rules.frames → All (SpellsRow rules.players) rows
    → AreFaultless (key_line_fault rules) (before ++ map (line_of rules.players) rows)
faultless_after rules before [] faultless few all = rw (append-nil before) faultless
faultless_after rules before (one ∷ rows) faultless few all =
    let line = line_of rules.players one in
    let here = All-head (SpellsRow rules.players) one rows all in
    let more = faultless_more (key_line_fault rules) before line faultless (good_line rules before line (omega (arith, few)) here.good) in
    subst (AreFaultless (key_line_fault rules)) (append_assoc before (line ∷ []) (map (line_of rules.players) rows))
    (faultless_after rules (before ++ line ∷ []) rows more (omega (arith, few, length-append before (line ∷ [])))
    (All-tail (SpellsRow rules.players) one rows all))

pub spell_rows : (rules : Rules) (rows : List Row) → length rows ≤ rules.frames → All (SpellsRow rules.players) rows
    → SpellRows rules (keys_text rules.players rows) rows
spell_rows rules rows few all =
    let are = lines_are rules.players rows all in
    record {
      faultless = subst (AreFaultless (key_line_fault rules)) (sym are)
          (faultless_after rules [] rows (faultless_none (key_line_fault rules)) (omega (arith, few)) all);
      rows_are = ap (map (row_of rules.players)) are ∙ rows_back rules.players rows all;
    }

-- ---- one row more

pub row_more : (k : KnownValue) (n : ℕ) → rows_below k (n + 1) ≡ rows_below k n ++ row k n ∷ []
row_more k n = map-range_with_len_more (row k) 0 n n (omega arith)

pub length-rows : (k : KnownValue) (n : ℕ) → length (rows_below k n) ≡ n
length-rows k n = length-map-range_with_len (row k) 0 n

pub text_more : (players : ℕ) (k : KnownValue) (n : ℕ)
    → keys_text players (rows_below k (n + 1)) ≡ keys_text players (rows_below k n) ++ (line_of players (row k n) ++ 10 ∷ [])
text_more players k n =
    ap (keys_text players) (row_more k n) ∙ flat_map-append (λ r. line_of players r ++ 10 ∷ []) (rows_below k n) (row k n ∷ [])
    ∙ ap (λ more. keys_text players (rows_below k n) ++ more) (append-nil (line_of players (row k n) ++ 10 ∷ []))

pub spell_more : (players : ℕ) (k : KnownValue) (n : ℕ) → All (SpellsRow players) (rows_below k n) → SpellsRow players (row k n)
    → All (SpellsRow players) (rows_below k (n + 1))
spell_more players k n all here = subst (All (SpellsRow players)) (sym (row_more k n))
    (All-push (SpellsRow players) (rows_below k n) (row k n) all here)

-- a player's ticks are frames of the game, and so are the confirmed ones
pub few_rows : (rules : Rules) (k : KnownValue) (n : ℕ) → IsKnown k → IsOfGame rules k.me k → n ≤ confirmed k → n ≤ rules.frames
few_rows rules k n known of_game within =
    omega (arith, within, (confirmed_is k).ticked, known.own, known.within k.me, of_game.limit, of_game.delay)
