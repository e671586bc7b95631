-- The lines of the fields, and the game that they give.
use Rattle.std.proofs.Common.{◌≡◌, ℕ, ◌+◌, ◌^◌, ◌<◌, ◌≤◌, Bool, true, false, cond, List, [], ◌∷◌, ◌++◌, get_or, take, refl, ap, sym, ◌∙◌}
use Rattle.std.proofs.Common.{inl, inr, arith, add-one, append_assoc}
use Rattle.std.specs.Prelude.{nat_le, flat_map, slice_index, if◌then◌else◌}
use Rattle.std.specs.List.{list_all}
use Rattle.std.proofs.lemmas.Bool.{cases_Bool, lt-leb, le-leb}
use Rattle.std.proofs.Math.Seq.{take-suc}
use Rattle.std.proofs.lemmas.List.{append-nil}
use Rattle.std.proofs.lemmas.List.Concat.{flat_map-append}
use Rattle.c8_game.specs.declared.text.field.Field.{Field}
use Rattle.c8_game.specs.declared.text.field.Field.TheVariants.{Players, Ipf, Frames, Delay, Window, Seed, Wire, Mask1, Mask2, Mask3, Mask4}
use Rattle.c8_game.specs.Fields.{fields, word_of, owner_of, is_mask, IsWithin}
use Rattle.c8_game.specs.GameText.{Item, Number, numbers_for, rule_of}
use Rattle.c8_game.specs.Rules.{Rules}
use Rattle.c8_game.specs.Wire.{version_number}
use Rattle.c8_files.specs.checked.Blocks.{line_text, value_text, field_text, IsBlock}
use Rattle.c8_files.proofs.ValueLemmas.{is_inner, value_fine, value_inner}
use Rattle.c8_files.proofs.BlockLemmas.{block_none, block_both, block_line, pair_inner}

-- what a field's line says
abbrev pub field_items : Rules → Field → List Item
field_items rules field = if nat_le (owner_of field) rules.players then Number field (rule_of field rules) ∷ [] else []

word_inner : (field : Field) → list_all is_inner (word_of field) ≡ true
word_inner Players = refl
word_inner Ipf = refl
word_inner Frames = refl
word_inner Delay = refl
word_inner Window = refl
word_inner Seed = refl
word_inner Wire = refl
word_inner Mask1 = refl
word_inner Mask2 = refl
word_inner Mask3 = refl
word_inner Mask4 = refl

within_limit : (field : Field) (number : ℕ) → IsWithin field number → number < cond (is_mask field) (2 ^ 16) (2 ^ 64)
within_limit Players number lies = omega arith
within_limit Ipf number lies = omega arith
within_limit Frames number lies = omega arith
within_limit Delay number lies = omega arith
within_limit Window number lies = omega arith
within_limit Seed number lies = omega arith
within_limit Wire number lies = omega arith
within_limit Mask1 number lies = omega arith
within_limit Mask2 number lies = omega arith
within_limit Mask3 number lies = omega arith
within_limit Mask4 number lies = omega arith

line_says : (field : Field) (number : ℕ) → IsWithin field number
    → IsBlock (line_text (word_of field) (value_text field number)) (Number field number ∷ [])
line_says field number lies =
    let fine = value_fine (is_mask field) number (within_limit field number lies) in
    block_line (word_of field) (value_text field number) (Number field number)
    (pair_inner (word_of field) (value_text field number) (word_inner field) (value_inner (is_mask field) (value_text field number) fine.0))
    (value_text field number, refl, fine.0, fine.1, lies)

field_says : (rules : Rules) (field : Field) → IsWithin field (rule_of field rules) → IsBlock (field_text rules field) (field_items rules field)
field_says rules field lies =
    elim (cases_Bool (nat_le (owner_of field) rules.players)) [
      | inl there ↦ rw there (line_says field (rule_of field rules) lies)
      | inr absent ↦ rw absent block_none
    ]

pub fields_say : (rules : Rules) (some : List Field) → ((field : Field) → IsWithin field (rule_of field rules))
    → IsBlock (flat_map (field_text rules) some) (flat_map (field_items rules) some)
fields_say rules [] each = block_none
fields_say rules (field ∷ more) each = block_both (field_text rules field) (flat_map (field_text rules) more) (field_items rules field)
    (flat_map (field_items rules) more) (field_says rules field (each field)) (fields_say rules more each)

-- ---- each field of the game has its number once, and the others none

abbrev front : Rules → List Item → List Item
front rules more = Number Players rules.players ∷ Number Ipf rules.ipf ∷ Number Frames rules.frames ∷ Number Delay rules.delay ∷ Number
    Window rules.window ∷ Number Seed rules.seed ∷ Number Wire (version_number rules.wire) ∷ more

abbrev fourth : Rules → Bool → List Item
fourth rules has = cond has (Number Mask4 (slice_index rules.masks 3) ∷ []) []

abbrev third : Rules → Bool → Bool → List Item
third rules three four = cond three (Number Mask3 (slice_index rules.masks 2) ∷ []) [] ++ (fourth rules four ++ [])

abbrev listed : Rules → Bool → Bool → List Item
listed rules three four = front rules (Number Mask1 (slice_index rules.masks 0) ∷ Number Mask2 (slice_index rules.masks 1) ∷ third rules three four)

listed_fields : (rules : Rules) → 2 ≤ rules.players
    → flat_map (field_items rules) fields ≡ listed rules (nat_le 3 rules.players) (nat_le 4 rules.players)
listed_fields rules two = rw (le-leb 0 rules.players (omega arith), le-leb 1 rules.players (omega arith), le-leb 2 rules.players (omega arith)) refl

IsOnce : Rules → Field → Bool → Bool → Type 0
IsOnce rules field three four = numbers_for field (listed rules three four) ≡ rule_of field rules ∷ []

once_in : (rules : Rules) (field : Field) (three four : Bool) → (owner_of field ≡ 3 → three ≡ true) → (owner_of field ≡ 4 → four ≡ true)
    → IsOnce rules field three four
unfolding IsOnce
once_in rules Players true true third fourth = refl
once_in rules Players true false third fourth = refl
once_in rules Players false true third fourth = refl
once_in rules Players false false third fourth = refl
once_in rules Ipf true true third fourth = refl
once_in rules Ipf true false third fourth = refl
once_in rules Ipf false true third fourth = refl
once_in rules Ipf false false third fourth = refl
once_in rules Frames true true third fourth = refl
once_in rules Frames true false third fourth = refl
once_in rules Frames false true third fourth = refl
once_in rules Frames false false third fourth = refl
once_in rules Delay true true third fourth = refl
once_in rules Delay true false third fourth = refl
once_in rules Delay false true third fourth = refl
once_in rules Delay false false third fourth = refl
once_in rules Window true true third fourth = refl
once_in rules Window true false third fourth = refl
once_in rules Window false true third fourth = refl
once_in rules Window false false third fourth = refl
once_in rules Seed true true third fourth = refl
once_in rules Seed true false third fourth = refl
once_in rules Seed false true third fourth = refl
once_in rules Seed false false third fourth = refl
once_in rules Wire true true third fourth = refl
once_in rules Wire true false third fourth = refl
once_in rules Wire false true third fourth = refl
once_in rules Wire false false third fourth = refl
once_in rules Mask1 true true third fourth = refl
once_in rules Mask1 true false third fourth = refl
once_in rules Mask1 false true third fourth = refl
once_in rules Mask1 false false third fourth = refl
once_in rules Mask2 true true third fourth = refl
once_in rules Mask2 true false third fourth = refl
once_in rules Mask2 false true third fourth = refl
once_in rules Mask2 false false third fourth = refl
once_in rules Mask3 true true third fourth = refl
once_in rules Mask3 true false third fourth = refl
once_in rules Mask3 false four third fourth = let no_way : false ≡ true = third refl in absurd (cc)
once_in rules Mask4 true true third fourth = refl
once_in rules Mask4 false true third fourth = refl
once_in rules Mask4 three false third fourth = let no_way : false ≡ true = fourth refl in absurd (cc)

pub told_once : (rules : Rules) → 2 ≤ rules.players → (field : Field) → owner_of field ≤ rules.players
    → numbers_for field (flat_map (field_items rules) fields) ≡ rule_of field rules ∷ []
unfolding IsOnce
told_once rules two field there =
    ap (numbers_for field) (listed_fields rules two)
    ∙ once_in rules field (nat_le 3 rules.players) (nat_le 4 rules.players) (λ three. le-leb 3 rules.players (omega arith))
    (λ four. le-leb 4 rules.players (omega arith))

none_in : (rules : Rules) (field : Field) (three four : Bool) → (owner_of field ≤ 2 → ⊥) → (owner_of field ≡ 3 → three ≡ false)
    → (owner_of field ≡ 4 → four ≡ false) → numbers_for field (listed rules three four) ≡ []
none_in rules Players three four beyond third fourth = absurd (beyond (omega arith))
none_in rules Ipf three four beyond third fourth = absurd (beyond (omega arith))
none_in rules Frames three four beyond third fourth = absurd (beyond (omega arith))
none_in rules Delay three four beyond third fourth = absurd (beyond (omega arith))
none_in rules Window three four beyond third fourth = absurd (beyond (omega arith))
none_in rules Seed three four beyond third fourth = absurd (beyond (omega arith))
none_in rules Wire three four beyond third fourth = absurd (beyond (omega arith))
none_in rules Mask1 three four beyond third fourth = absurd (beyond (omega arith))
none_in rules Mask2 three four beyond third fourth = absurd (beyond (omega arith))
none_in rules Mask3 false true beyond third fourth = refl
none_in rules Mask3 false false beyond third fourth = refl
none_in rules Mask3 true four beyond third fourth = let no_way : true ≡ false = third refl in absurd (cc)
none_in rules Mask4 true false beyond third fourth = refl
none_in rules Mask4 false false beyond third fourth = refl
none_in rules Mask4 three true beyond third fourth = let no_way : true ≡ false = fourth refl in absurd (cc)

pub told_nowhere : (rules : Rules) → 2 ≤ rules.players → (field : Field) → rules.players < owner_of field
    → numbers_for field (flat_map (field_items rules) fields) ≡ []
told_nowhere rules two field beyond =
    ap (numbers_for field) (listed_fields rules two)
    ∙ none_in rules field (nat_le 3 rules.players) (nat_le 4 rules.players) (λ low. omega arith)
    (λ three. lt-leb 3 rules.players (omega arith)) (λ four. lt-leb 4 rules.players (omega arith))

-- ---- a loop over the fields

pub one_more_field : (rules : Rules) (initial text new : List ℕ) (place : ℕ) → place < 11
    → text ≡ initial ++ flat_map (field_text rules) (take place fields) → new ≡ text ++ field_text rules (get_or fields place Players)
    → new ≡ initial ++ flat_map (field_text rules) (take (place + 1) fields)
one_more_field rules initial text new place within before longer =
    let field = get_or fields place Players in
    let taken : take (place + 1) fields ≡ take place fields ++ get_or fields place Players ∷ [] = rw (add-one, take-suc fields place Players) refl in
    longer ∙ ap (λ front. front ++ field_text rules (get_or fields place Players)) before
    ∙ append_assoc initial (flat_map (field_text rules) (take place fields)) (field_text rules (get_or fields place Players))
    ∙ ap (λ end. initial ++ end) (ap (λ end. flat_map (field_text rules) (take place fields) ++ end)
    (sym (append-nil (field_text rules (get_or fields place Players))))
    ∙ sym (flat_map-append (field_text rules) (take place fields) (get_or fields place Players ∷ [])) ∙ ap (flat_map (field_text rules)) (sym taken))
