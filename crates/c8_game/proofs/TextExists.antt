-- Rules in range have a text that spells them: one line for each field and one line of code, each with a line feed.
use Rattle.std.proofs.Common.{◌≡◌, ℕ, zero, suc, ◌+◌, ◌-◌, ◌*◌, ◌/◌, ◌%◌, ◌^◌, ◌<◌, ◌≤◌, Bool, true, false, cond, length, List, [], ◌∷◌}
use Rattle.std.proofs.Common.{◌++◌, get_or, refl, ap, sym, ◌∙◌, inl, inr, arith, nat_lt, ◌&&◌, ◌==◌}
use Rattle.std.specs.Prelude.{codes, nat_le, flat_map, map, slice_index}
use Rattle.std.specs.Char.{is_ascii_digit}
use Rattle.std.specs.Int.{to_be_bytes, w16}
use Rattle.std.specs.List.{All, AllZip, list_all, slice_split}
use Rattle.std.specs.Str.Lines.{lines, lines_of_parts, strip_carriage_return}
use Rattle.std.proofs.lemmas.Bool.{cases_eq, cases_lt, both_ways, and_from, and_parts, lt-leb, le-leb, lt-ltb, ltb-true, leb-true, ne_eqb}
use Rattle.std.proofs.lemmas.List.{append_assoc, append-nil, get_or_past}
use Rattle.std.proofs.lemmas.List.Folds.{list_all-append}
use Rattle.std.proofs.lemmas.List.Splits.{slice_split_at, length-slice_split}
use Rattle.std.proofs.lemmas.List.Sums.{AllPass-from_list_all, list_all-from_AllPass}
use Rattle.std.proofs.lemmas.Nat.{from_be_bytes-to_be_bytes_2}
use Rattle.std.proofs.Math.Nat.{div-lt_iff_lt-mul, mul_comm}
use native.Mathlib.Numerals.{unary_clauses}
use Rattle.hex.specs.Hex.{encode_lower, is_hex_digit}
use Rattle.hex.proofs.HexLemmas.{decode_of-encode_lower, decode_of-ok, decode_sized-encode_lower, IsOk-decode_sized}
use Rattle.c8_game.specs.declared.text.field.Field.{Field}
use Rattle.c8_game.specs.declared.text.field.Field.TheVariants.{Players, Ipf, Frames, Delay, Window, Seed, Wire, Mask1, Mask2, Mask3, Mask4}
use Rattle.c8_game.specs.Fields.{word_of, owner_of, is_mask, is_decimal, decimal_number, is_number, number_of, IsWithin}
use Rattle.c8_game.specs.KeysText.{is_keys_text, keys_number}
use Rattle.c8_game.specs.GameText.{Item, Blank, Number, Code, Says, numbers_for, rule_of, Tell, Give, Spells}
use Rattle.c8_game.specs.Rules.{Rules, AreInRange}
use Rattle.c8_game.specs.Wire.{version_number}
use Rattle.c8_game.proofs.LineLemmas.{part_and_more}
use Rattle.c8_game.proofs.WireLemmas.{version_within}

-- ---- a decimal with a given number of digits

padded : ℕ → ℕ → List ℕ
padded zero number = []
padded (suc places) number = (number / 10 ^ places + 48) ∷ padded places (number % 10 ^ places)

length-padded : (places number : ℕ) → length (padded places number) ≡ places
unfolding padded
length-padded zero number = refl
length-padded (suc places) number = ap suc (length-padded places (number % 10 ^ places))

some_power : (places : ℕ) → 0 < 10 ^ places
some_power zero = omega arith
some_power (suc places) = let some = some_power places in simp unary_clauses (omega arith)

ten_times : (places : ℕ) → 10 ^ suc places ≡ 10 * 10 ^ places
ten_times places = simp unary_clauses (omega arith)

whole : (power number : ℕ) → 0 < power → number / power * power + number % power ≡ number
whole power number some = omega (arith, mul_comm (number / power) power)

first_digit : (places number : ℕ) → number < 10 ^ suc places → number / 10 ^ places < 10
first_digit places number small = (div-lt_iff_lt-mul {k = 10 ^ places} {x = number} {y = 10} (some_power places)).1 (rw (ten_times places) at small)

padded_digits : (places number : ℕ) → number < 10 ^ places → list_all is_ascii_digit (padded places number) ≡ true
unfolding padded
padded_digits zero number small = refl
padded_digits (suc places) number small =
    let digit = first_digit places number small in
    let less : number % 10 ^ places < 10 ^ places = let some = some_power places in omega arith in
    and_from (is_ascii_digit (number / 10 ^ places + 48)) (list_all is_ascii_digit (padded places (number % 10 ^ places)))
    (and_from (nat_le 48 (number / 10 ^ places + 48)) (nat_le (number / 10 ^ places + 48) 57)
    (le-leb 48 (number / 10 ^ places + 48) (omega arith)) (le-leb (number / 10 ^ places + 48) 57 (omega arith)))
    (padded_digits places (number % 10 ^ places) less)

padded_number : (places number : ℕ) → number < 10 ^ places → decimal_number (padded places number) ≡ number
unfolding padded
padded_number zero number small = omega (arith, small)
padded_number (suc places) number small =
    let some = some_power places in
    let less : number % 10 ^ places < 10 ^ places = omega arith in
    let digit : number / 10 ^ places + 48 - 48 ≡ number / 10 ^ places = omega arith in
    rw (length-padded places (number % 10 ^ places), padded_number places (number % 10 ^ places) less, digit) (whole (10 ^ places) number some)

-- ---- values that spell a number

decimal_fine : (number : ℕ) → number < 10 ^ 20 → (is_decimal (padded 20 number) ≡ true) × (decimal_number (padded 20 number) ≡ number)
decimal_fine number small =
    let size = length-padded 20 number in (
      and_from (nat_lt 0 (length (padded 20 number)) && nat_le (length (padded 20 number)) 20) (list_all is_ascii_digit (padded 20 number))
          (rw size refl) (padded_digits 20 number small),
      padded_number 20 number small,
    )

pair_bytes : (number : ℕ) → number < 2 ^ 16 → (i : ℕ) → slice_index (to_be_bytes w16 number) i < 256
pair_bytes number small zero = omega arith
pair_bytes number small (suc zero) = omega arith
pair_bytes number small (suc (suc i)) = omega arith

mask_fine : (number : ℕ) → number < 2 ^ 16
    → (is_keys_text (encode_lower (to_be_bytes w16 number)) ≡ true) × (keys_number (encode_lower (to_be_bytes w16 number)) ≡ number)
mask_fine number small =
    let decoded = decode_sized-encode_lower (to_be_bytes w16 number) 2 refl (pair_bytes number small) in
    (rw decoded refl, rw decoded (from_be_bytes-to_be_bytes_2 number small))

value_for : Bool → ℕ → List ℕ
value_for true number = encode_lower (to_be_bytes w16 number)
value_for false number = padded 20 number

IsFine : Field → ℕ → Type 0
IsFine field number = (is_number field (value_for (is_mask field) number) ≡ true) × (number_of field (value_for (is_mask field) number) ≡ number)

value_fine : (field : Field) (number : ℕ) → IsWithin field number → IsFine field number
unfolding value_for IsFine
value_fine Players number lies = decimal_fine number (omega arith)
value_fine Ipf number lies = decimal_fine number (omega arith)
value_fine Frames number lies = decimal_fine number (omega arith)
value_fine Delay number lies = decimal_fine number (omega arith)
value_fine Window number lies = decimal_fine number (omega arith)
value_fine Seed number lies = decimal_fine number (omega arith)
value_fine Wire number lies = decimal_fine number (omega arith)
value_fine Mask1 number lies = mask_fine number (omega arith)
value_fine Mask2 number lies = mask_fine number (omega arith)
value_fine Mask3 number lies = mask_fine number (omega arith)
value_fine Mask4 number lies = mask_fine number (omega arith)

-- ---- lines that say an item

line_for : Item → List ℕ
line_for Blank = []
line_for (Number field number) = word_of field ++ 32 ∷ value_for (is_mask field) number
line_for (Code bytes) = codes "code" ++ 32 ∷ encode_lower bytes

number_said : (field : Field) (number : ℕ) → IsWithin field number → Says (line_for (Number field number)) (Number field number)
unfolding line_for IsFine
number_said field number lies = let fine = value_fine field number lies in (value_for (is_mask field) number, refl, fine.0, fine.1, lies)

code_said : (bytes : List ℕ) → 0 < length bytes → ((i : ℕ) → slice_index bytes i < 256) → Says (line_for (Code bytes)) (Code bytes)
unfolding line_for
code_said bytes some each = (encode_lower bytes, refl, decode_of-encode_lower bytes each, some)

-- ---- lines joined to a text

-- each byte of such a line is above the two that end lines
abbrev is_inner : ℕ → Bool
is_inner byte = nat_lt 13 byte

all_inner : (p : ℕ → Bool) → ((byte : ℕ) → p byte ≡ true → is_inner byte ≡ true) → (value : List ℕ) → list_all p value ≡ true
    → list_all is_inner value ≡ true
all_inner p each [] all = refl
all_inner p each (byte ∷ more) all = let parts = and_parts (p byte) (list_all p more) all in
    and_from (is_inner byte) (list_all is_inner more) (each byte parts.0) (all_inner p each more parts.1)

digit_inner : (byte : ℕ) → is_ascii_digit byte ≡ true → is_inner byte ≡ true
digit_inner byte digit = let ends = and_parts (nat_le 48 byte) (nat_le byte 57) digit in let low = leb-true 48 byte ends.0 in
    lt-ltb 13 byte (omega arith)

no_hex_digit : (byte : ℕ) → byte ≤ 13 → is_hex_digit byte ≡ false
no_hex_digit byte small = rw (lt-leb 65 byte (omega arith), lt-leb 97 byte (omega arith), lt-leb 48 byte (omega arith)) refl

hex_inner : (byte : ℕ) → is_hex_digit byte ≡ true → is_inner byte ≡ true
hex_inner byte digit = elim (cases_lt 13 byte)
    [ inl above ↦ lt-ltb 13 byte above | inr small ↦ absurd (both_ways (is_hex_digit byte) (no_hex_digit byte small) digit) ]

number_inner : (mask : Bool) (value : List ℕ) → cond mask (is_keys_text value) (is_decimal value) ≡ true → list_all is_inner value ≡ true
number_inner true value is = all_inner is_hex_digit hex_inner value (list_all-from_AllPass is_hex_digit value ((IsOk-decode_sized value 2).0 is).1)
number_inner false value is = all_inner is_ascii_digit digit_inner value
    (and_parts (nat_lt 0 (length value) && nat_le (length value) 20) (list_all is_ascii_digit value) is).1

word_inner : (field : Field) → list_all is_inner (word_of field) ≡ true
word_inner Players = refl
word_inner Ipf = refl
word_inner Frames = refl
word_inner Delay = refl
word_inner Window = refl
word_inner Seed = refl
word_inner Wire = refl
word_inner Mask1 = refl
word_inner Mask2 = refl
word_inner Mask3 = refl
word_inner Mask4 = refl

pair_inner : (name value : List ℕ) → list_all is_inner name ≡ true → list_all is_inner value ≡ true → list_all is_inner (name ++ 32 ∷ value) ≡ true
pair_inner name value first second = list_all-append is_inner name (32 ∷ value)
    ∙ and_from (list_all is_inner name) (list_all is_inner (32 ∷ value)) first second

said_inner : (item : Item) → Says (line_for item) item → list_all is_inner (line_for item) ≡ true
unfolding line_for
said_inner Blank says = refl
said_inner (Number field number) says = ap (list_all is_inner) says.1
    ∙ (pair_inner (word_of field) says.0 (word_inner field) (number_inner (is_mask field) says.0 says.2))
said_inner (Code bytes) says = ap (list_all is_inner) says.1
    ∙ (pair_inner (codes "code") says.0 refl (all_inner is_hex_digit hex_inner says.0
    (list_all-from_AllPass is_hex_digit says.0 (decode_of-ok says.0 bytes says.2).1)))

no_feed : (line : List ℕ) → list_all is_inner line ≡ true → All (λ byte. (byte == 10) ≡ false) line
no_feed line inner place other within =
    let above = ltb-true 13 (get_or line place other) (AllPass-from_list_all is_inner line inner place other within) in
    ne_eqb (get_or line place other) 10 (λ feed. omega arith)

stripped : (line : List ℕ) → list_all is_inner line ≡ true → strip_carriage_return line ≡ line
stripped line inner =
    let last = get_or line (length line - 1) 0 in
    let other : (get_or line (length line - 1) 0 == 13) ≡ false =
    elim (cases_lt (length line - 1) (length line)) [
      | inl within ↦ let above = ltb-true 13 (get_or line (length line - 1) 0)
          (AllPass-from_list_all is_inner line inner (length line - 1) 0 within) in
          ne_eqb (get_or line (length line - 1) 0) 13 (λ return. omega arith)
      | inr past ↦ rw (get_or_past line (length line - 1) 0 past) refl
    ] in
    rw other refl

-- each line with a line feed after it
ended : List (List ℕ) → List ℕ
ended text_lines = flat_map (λ line. line ++ 10 ∷ []) text_lines

line_and_more : (line more : List ℕ) → list_all is_inner line ≡ true → lines (line ++ 10 ∷ more) ≡ line ∷ lines more
line_and_more line more inner =
    ap lines_of_parts (slice_split_at (λ byte. byte == 10) line 10 more (no_feed line inner) refl)
    ∙ part_and_more line (slice_split (λ byte. byte == 10) more) (omega (arith, length-slice_split (λ byte. byte == 10) more))
    ∙ ap (λ first. first ∷ lines more) (stripped line inner)

lines_ended : (items : List Item) → AllZip Says (map line_for items) items → lines (ended (map line_for items)) ≡ map line_for items
unfolding ended
lines_ended [] says = refl
lines_ended (item ∷ items) says =
    ap lines (append_assoc (line_for item) (10 ∷ []) (flat_map (λ line. line ++ 10 ∷ []) (map line_for items)))
    ∙ line_and_more (line_for item) (flat_map (λ line. line ++ 10 ∷ []) (map line_for items)) (said_inner item says.0)
    ∙ ap (λ more. line_for item ∷ more) (lines_ended items says.1)

-- ---- the items of a game

abbrev front : Rules → List Item → List Item
front rules more = Number Players rules.players ∷ Number Ipf rules.ipf ∷ Number Frames rules.frames ∷ Number Delay rules.delay ∷ Number
    Window rules.window ∷ Number Seed rules.seed ∷ Number Wire (version_number rules.wire) ∷ more

spelled : (items : List Item) (rules : Rules) → AllZip Says (map line_for items) items → Give items rules → (text : List ℕ) × Spells text rules
spelled items rules says gives = (ended (map line_for items), (items, rw (lines_ended items says) says, gives))

four_left : (players : ℕ) → 2 ≤ players → players ≤ 4 → ((players ≡ 2) → ⊥) → ((players ≡ 3) → ⊥) → players ≡ 4
four_left players low high not_2 not_3 = omega arith

abbrev items_2 : Rules → List Item
items_2 rules = front rules (Number Mask1 (slice_index rules.masks 0) ∷ Number Mask2 (slice_index rules.masks 1) ∷ Code rules.program ∷ [])

once_2 : (rules : Rules) → rules.players ≡ 2 → (field : Field) → owner_of field ≤ rules.players
    → Tell (numbers_for field (items_2 rules)) field (rule_of field rules)
once_2 rules players Players there = inl refl
once_2 rules players Ipf there = inl refl
once_2 rules players Frames there = inl refl
once_2 rules players Delay there = inl refl
once_2 rules players Window there = inl refl
once_2 rules players Seed there = inl refl
once_2 rules players Wire there = inl refl
once_2 rules players Mask1 there = inl refl
once_2 rules players Mask2 there = inl refl
once_2 rules players Mask3 there = absurd (omega arith)
once_2 rules players Mask4 there = absurd (omega arith)

nowhere_2 : (rules : Rules) → AreInRange rules → rules.players ≡ 2 → (field : Field) → rules.players < owner_of field
    → (numbers_for field (items_2 rules) ≡ []) × (rule_of field rules ≡ 0)
nowhere_2 rules ranges players Players beyond = absurd (omega arith)
nowhere_2 rules ranges players Ipf beyond = absurd (omega arith)
nowhere_2 rules ranges players Frames beyond = absurd (omega arith)
nowhere_2 rules ranges players Delay beyond = absurd (omega arith)
nowhere_2 rules ranges players Window beyond = absurd (omega arith)
nowhere_2 rules ranges players Seed beyond = absurd (omega arith)
nowhere_2 rules ranges players Wire beyond = absurd (omega arith)
nowhere_2 rules ranges players Mask1 beyond = absurd (omega arith)
nowhere_2 rules ranges players Mask2 beyond = absurd (omega arith)
nowhere_2 rules ranges players Mask3 beyond = (refl, ranges.absent 2 (omega arith))
nowhere_2 rules ranges players Mask4 beyond = (refl, ranges.absent 3 (omega arith))

text_2 : (rules : Rules) → AreInRange rules → rules.players ≡ 2 → (text : List ℕ) × Spells text rules
text_2 rules ranges players =
    let says : AllZip Says (map line_for (items_2 rules)) (items_2 rules) = (
      number_said Players rules.players (ranges.at_least_two, ranges.at_most_four),
      (
        number_said Ipf rules.ipf (ranges.some_instructions, ranges.instructions),
        (
          number_said Frames rules.frames (ranges.some_frames, ranges.frames),
          (
            number_said Delay rules.delay (omega arith, ranges.delay),
            (
              number_said Window rules.window (ranges.some_window, ranges.window),
              (
                number_said Seed rules.seed (omega arith, omega (arith, ranges.seed)),
                (
                  number_said Wire (version_number rules.wire) (version_within rules.wire),
                  (
                    number_said Mask1 (slice_index rules.masks 0) (omega arith, omega (arith, ranges.key_sets 0)),
                    (
                      number_said Mask2 (slice_index rules.masks 1) (omega arith, omega (arith, ranges.key_sets 1)),
                      (code_said rules.program ranges.some_program ranges.bytes, tt),
                    ),
                  ),
                ),
              ),
            ),
          ),
        ),
      ),
    ) in
    let gives : Give (items_2 rules) rules = record {
      once = once_2 rules players;
      nowhere = nowhere_2 rules ranges players;
      masks = ranges.masks;
      program = sym (append-nil rules.program);
      some_code = ranges.some_program;
      most_code = ranges.program;
    } in
    spelled (items_2 rules) rules says gives

abbrev items_3 : Rules → List Item
items_3 rules = front rules (Number Mask1 (slice_index rules.masks 0) ∷ Number Mask2 (slice_index rules.masks 1) ∷ Number Mask3
    (slice_index rules.masks 2) ∷ Code rules.program ∷ [])

once_3 : (rules : Rules) → rules.players ≡ 3 → (field : Field) → owner_of field ≤ rules.players
    → Tell (numbers_for field (items_3 rules)) field (rule_of field rules)
once_3 rules players Players there = inl refl
once_3 rules players Ipf there = inl refl
once_3 rules players Frames there = inl refl
once_3 rules players Delay there = inl refl
once_3 rules players Window there = inl refl
once_3 rules players Seed there = inl refl
once_3 rules players Wire there = inl refl
once_3 rules players Mask1 there = inl refl
once_3 rules players Mask2 there = inl refl
once_3 rules players Mask3 there = inl refl
once_3 rules players Mask4 there = absurd (omega arith)

nowhere_3 : (rules : Rules) → AreInRange rules → rules.players ≡ 3 → (field : Field) → rules.players < owner_of field
    → (numbers_for field (items_3 rules) ≡ []) × (rule_of field rules ≡ 0)
nowhere_3 rules ranges players Players beyond = absurd (omega arith)
nowhere_3 rules ranges players Ipf beyond = absurd (omega arith)
nowhere_3 rules ranges players Frames beyond = absurd (omega arith)
nowhere_3 rules ranges players Delay beyond = absurd (omega arith)
nowhere_3 rules ranges players Window beyond = absurd (omega arith)
nowhere_3 rules ranges players Seed beyond = absurd (omega arith)
nowhere_3 rules ranges players Wire beyond = absurd (omega arith)
nowhere_3 rules ranges players Mask1 beyond = absurd (omega arith)
nowhere_3 rules ranges players Mask2 beyond = absurd (omega arith)
nowhere_3 rules ranges players Mask3 beyond = absurd (omega arith)
nowhere_3 rules ranges players Mask4 beyond = (refl, ranges.absent 3 (omega arith))

text_3 : (rules : Rules) → AreInRange rules → rules.players ≡ 3 → (text : List ℕ) × Spells text rules
text_3 rules ranges players =
    let says : AllZip Says (map line_for (items_3 rules)) (items_3 rules) = (
      number_said Players rules.players (ranges.at_least_two, ranges.at_most_four),
      (
        number_said Ipf rules.ipf (ranges.some_instructions, ranges.instructions),
        (
          number_said Frames rules.frames (ranges.some_frames, ranges.frames),
          (
            number_said Delay rules.delay (omega arith, ranges.delay),
            (
              number_said Window rules.window (ranges.some_window, ranges.window),
              (
                number_said Seed rules.seed (omega arith, omega (arith, ranges.seed)),
                (
                  number_said Wire (version_number rules.wire) (version_within rules.wire),
                  (
                    number_said Mask1 (slice_index rules.masks 0) (omega arith, omega (arith, ranges.key_sets 0)),
                    (
                      number_said Mask2 (slice_index rules.masks 1) (omega arith, omega (arith, ranges.key_sets 1)),
                      (
                        number_said Mask3 (slice_index rules.masks 2) (omega arith, omega (arith, ranges.key_sets 2)),
                        (code_said rules.program ranges.some_program ranges.bytes, tt),
                      ),
                    ),
                  ),
                ),
              ),
            ),
          ),
        ),
      ),
    ) in
    let gives : Give (items_3 rules) rules = record {
      once = once_3 rules players;
      nowhere = nowhere_3 rules ranges players;
      masks = ranges.masks;
      program = sym (append-nil rules.program);
      some_code = ranges.some_program;
      most_code = ranges.program;
    } in
    spelled (items_3 rules) rules says gives

abbrev items_4 : Rules → List Item
items_4 rules = front rules (Number Mask1 (slice_index rules.masks 0) ∷ Number Mask2 (slice_index rules.masks 1) ∷ Number Mask3
    (slice_index rules.masks 2) ∷ Number Mask4 (slice_index rules.masks 3) ∷ Code rules.program ∷ [])

once_4 : (rules : Rules) → rules.players ≡ 4 → (field : Field) → owner_of field ≤ rules.players
    → Tell (numbers_for field (items_4 rules)) field (rule_of field rules)
once_4 rules players Players there = inl refl
once_4 rules players Ipf there = inl refl
once_4 rules players Frames there = inl refl
once_4 rules players Delay there = inl refl
once_4 rules players Window there = inl refl
once_4 rules players Seed there = inl refl
once_4 rules players Wire there = inl refl
once_4 rules players Mask1 there = inl refl
once_4 rules players Mask2 there = inl refl
once_4 rules players Mask3 there = inl refl
once_4 rules players Mask4 there = inl refl

nowhere_4 : (rules : Rules) → AreInRange rules → rules.players ≡ 4 → (field : Field) → rules.players < owner_of field
    → (numbers_for field (items_4 rules) ≡ []) × (rule_of field rules ≡ 0)
nowhere_4 rules ranges players Players beyond = absurd (omega arith)
nowhere_4 rules ranges players Ipf beyond = absurd (omega arith)
nowhere_4 rules ranges players Frames beyond = absurd (omega arith)
nowhere_4 rules ranges players Delay beyond = absurd (omega arith)
nowhere_4 rules ranges players Window beyond = absurd (omega arith)
nowhere_4 rules ranges players Seed beyond = absurd (omega arith)
nowhere_4 rules ranges players Wire beyond = absurd (omega arith)
nowhere_4 rules ranges players Mask1 beyond = absurd (omega arith)
nowhere_4 rules ranges players Mask2 beyond = absurd (omega arith)
nowhere_4 rules ranges players Mask3 beyond = absurd (omega arith)
nowhere_4 rules ranges players Mask4 beyond = absurd (omega arith)

text_4 : (rules : Rules) → AreInRange rules → rules.players ≡ 4 → (text : List ℕ) × Spells text rules
text_4 rules ranges players =
    let says : AllZip Says (map line_for (items_4 rules)) (items_4 rules) = (
      number_said Players rules.players (ranges.at_least_two, ranges.at_most_four),
      (
        number_said Ipf rules.ipf (ranges.some_instructions, ranges.instructions),
        (
          number_said Frames rules.frames (ranges.some_frames, ranges.frames),
          (
            number_said Delay rules.delay (omega arith, ranges.delay),
            (
              number_said Window rules.window (ranges.some_window, ranges.window),
              (
                number_said Seed rules.seed (omega arith, omega (arith, ranges.seed)),
                (
                  number_said Wire (version_number rules.wire) (version_within rules.wire),
                  (
                    number_said Mask1 (slice_index rules.masks 0) (omega arith, omega (arith, ranges.key_sets 0)),
                    (
                      number_said Mask2 (slice_index rules.masks 1) (omega arith, omega (arith, ranges.key_sets 1)),
                      (
                        number_said Mask3 (slice_index rules.masks 2) (omega arith, omega (arith, ranges.key_sets 2)),
                        (
                          number_said Mask4 (slice_index rules.masks 3) (omega arith, omega (arith, ranges.key_sets 3)),
                          (code_said rules.program ranges.some_program ranges.bytes, tt),
                        ),
                      ),
                    ),
                  ),
                ),
              ),
            ),
          ),
        ),
      ),
    ) in
    let gives : Give (items_4 rules) rules = record {
      once = once_4 rules players;
      nowhere = nowhere_4 rules ranges players;
      masks = ranges.masks;
      program = sym (append-nil rules.program);
      some_code = ranges.some_program;
      most_code = ranges.program;
    } in
    spelled (items_4 rules) rules says gives

pub text_exists : (rules : Rules) → AreInRange rules → (text : List ℕ) × Spells text rules
text_exists rules ranges =
    elim (cases_eq rules.players 2) [
      | inl two ↦ text_2 rules ranges two
      | inr more ↦ elim (cases_eq rules.players 3) [
        | inl three ↦ text_3 rules ranges three
        | inr most ↦ text_4 rules ranges (four_left rules.players ranges.at_least_two ranges.at_most_four more most)
      ]
    ]
