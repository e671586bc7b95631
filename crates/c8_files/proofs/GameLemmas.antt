-- The text that is written spells the game that is asked for.
use Rattle.std.proofs.Common.{◌≡◌, ℕ, zero, suc, ◌<◌, ◌≤◌, Bool, true, false, cond, length, List, [], ◌∷◌, ◌++◌, Option, Some, None, get_or}
use Rattle.std.proofs.Common.{refl, ap, sym, ◌∙◌, inl, inr, arith, nat_lt, ◌==◌, ◌||◌}
use Rattle.std.specs.Prelude.{nat_le, flat_map}
use Rattle.std.specs.List.{list_any}
use Rattle.std.proofs.lemmas.Bool.{cases_Bool, or_parts, ltb-false, eqb-false, le-ltb}
use Rattle.std.proofs.lemmas.List.Concat.{flat_map-append}
use Rattle.std.proofs.lemmas.List.{append-nil}
use Rattle.c8_game.specs.declared.text.field.Field.{Field}
use Rattle.c8_game.specs.declared.text.field.Field.TheVariants.{Players, Ipf, Frames, Delay, Window, Seed, Wire, Mask1, Mask2, Mask3, Mask4}
use Rattle.c8_game.specs.Fields.{fields, owner_of, least_of, greatest_of, IsWithin}
use Rattle.c8_game.specs.GameText.{number_in, numbers_for, code_in, code_of, rule_of, Spells}
use Rattle.c8_game.specs.Rules.{Rules, most_program}
use Rattle.c8_files.specs.Asked.{rules_of, masks_of, later_mask}
use Rattle.c8_files.specs.Faults.{fault_of, is_outside, has_stray, has_shared}
use Rattle.c8_files.specs.checked.Blocks.{fields_text, IsBlock, IsProgramText}
use Rattle.c8_files.specs.declared.error.ProgramError.{ProgramError}
use Rattle.c8_files.specs.declared.error.ProgramError.TheVariants.{Range, Missing, Twice}
use Rattle.c8_files.specs.declared.settings.Settings.{Settings}
use Rattle.c8_files.proofs.BlockLemmas.{block_both, block_lines}
use Rattle.c8_files.proofs.FieldLemmas.{field_items, fields_say, told_once, told_nowhere}

-- ---- what follows where there is no fault

passed : (test : Bool) (error : ProgramError) (rest : Option ProgramError) → cond test (Some error) rest ≡ None → (test ≡ false) × (rest ≡ None)
passed true error rest none = absurd (cc)
passed false error rest none = (refl, none)

pub record IsFine (settings : Settings) (program : List ℕ) : Type 0 where
  pub some : 0 < length program
  pub most : length program ≤ most_program
  pub inside : list_any (is_outside settings) fields ≡ false

pub fine : (settings : Settings) (program : List ℕ) → fault_of settings program ≡ None → IsFine settings program
fine settings program none =
    let range = cond (has_shared (masks_of settings)) (Some Twice) None in
    let first = passed (length program == 0) Missing
    (cond (nat_lt most_program (length program) || list_any (is_outside settings) fields || has_stray settings) (Some Range)
    (cond (has_shared (masks_of settings)) (Some Twice) None)) none in
    let second = passed (nat_lt most_program (length program) || list_any (is_outside settings) fields || has_stray settings) Range
    (cond (has_shared (masks_of settings)) (Some Twice) None) first.1 in
    let parts = or_parts (nat_lt most_program (length program) || list_any (is_outside settings) fields) (has_stray settings) second.0 in
    let both = or_parts (nat_lt most_program (length program)) (list_any (is_outside settings) fields) parts.0 in
    record {
      some = let other = eqb-false (length program) 0 first.0 in omega arith;
      most = ltb-false most_program (length program) both.0;
      inside = both.1;
    }

none_at : (test : Field → Bool) (some : List Field) (place : ℕ) → place < length some → list_any test some ≡ false
    → test (get_or some place Players) ≡ false
none_at test [] place within none = absurd (omega arith)
none_at test (field ∷ more) zero within none = (or_parts (test field) (list_any test more) none).0
none_at test (field ∷ more) (suc place) within none = none_at test more place (omega arith) (or_parts (test field) (list_any test more) none).1

each_inside : (test : Field → Bool) → list_any test fields ≡ false → (field : Field) → test field ≡ false
each_inside test none Players = none_at test fields 0 (omega arith) none
each_inside test none Ipf = none_at test fields 1 (omega arith) none
each_inside test none Frames = none_at test fields 2 (omega arith) none
each_inside test none Delay = none_at test fields 3 (omega arith) none
each_inside test none Window = none_at test fields 4 (omega arith) none
each_inside test none Seed = none_at test fields 5 (omega arith) none
each_inside test none Wire = none_at test fields 6 (omega arith) none
each_inside test none Mask1 = none_at test fields 7 (omega arith) none
each_inside test none Mask2 = none_at test fields 8 (omega arith) none
each_inside test none Mask3 = none_at test fields 9 (omega arith) none
each_inside test none Mask4 = none_at test fields 10 (omega arith) none

within : (settings : Settings) → list_any (is_outside settings) fields ≡ false → (field : Field)
    → IsWithin field (rule_of field (rules_of settings []))
within settings none field =
    let number = rule_of field (rules_of settings []) in
    let parts = or_parts (nat_lt (rule_of field (rules_of settings [])) (least_of field))
    (nat_lt (greatest_of field) (rule_of field (rules_of settings []))) (each_inside (is_outside settings) none field) in (
      ltb-false (rule_of field (rules_of settings [])) (least_of field) parts.0,
      ltb-false (greatest_of field) (rule_of field (rules_of settings [])) parts.1,
    )

-- ---- what the lines give

same_rule : (settings : Settings) (program : List ℕ) (field : Field)
    → rule_of field (rules_of settings []) ≡ rule_of field (rules_of settings program)
same_rule settings program Players = refl
same_rule settings program Ipf = refl
same_rule settings program Frames = refl
same_rule settings program Delay = refl
same_rule settings program Window = refl
same_rule settings program Seed = refl
same_rule settings program Wire = refl
same_rule settings program Mask1 = refl
same_rule settings program Mask2 = refl
same_rule settings program Mask3 = refl
same_rule settings program Mask4 = refl

absent_mask : (settings : Settings) (place : ℕ) → settings.players ≤ place → later_mask settings place ≡ 0
absent_mask settings place beyond = rw (le-ltb place settings.players beyond) refl

absent_rule : (settings : Settings) (field : Field) → 2 ≤ settings.players → settings.players < owner_of field
    → rule_of field (rules_of settings []) ≡ 0
absent_rule settings Players two beyond = absurd (omega arith)
absent_rule settings Ipf two beyond = absurd (omega arith)
absent_rule settings Frames two beyond = absurd (omega arith)
absent_rule settings Delay two beyond = absurd (omega arith)
absent_rule settings Window two beyond = absurd (omega arith)
absent_rule settings Seed two beyond = absurd (omega arith)
absent_rule settings Wire two beyond = absurd (omega arith)
absent_rule settings Mask1 two beyond = absurd (omega arith)
absent_rule settings Mask2 two beyond = absurd (omega arith)
absent_rule settings Mask3 two beyond = absent_mask settings 2 (omega arith)
absent_rule settings Mask4 two beyond = absent_mask settings 3 (omega arith)

no_code : (rules : Rules) (some : List Field) → code_of (flat_map (field_items rules) some) ≡ []
no_code rules [] = refl
no_code rules (field ∷ more) =
    flat_map-append code_in (field_items rules field) (flat_map (field_items rules) more)
    ∙ elim (cases_Bool (nat_le (owner_of field) rules.players)) [
      | inl there ↦ rw there (no_code rules more)
      | inr absent ↦ rw absent (no_code rules more)
    ]

pub game_spelled : (settings : Settings) (program text code : List ℕ) → fault_of settings program ≡ None
    → text ≡ fields_text (rules_of settings []) ++ code → IsProgramText code program → Spells text (rules_of settings program)
game_spelled settings program text code none is written =
    let good = fine settings program none in
    let lies = within settings good.inside in
    let two : 2 ≤ settings.players = (lies Players).0 in
    let rules = rules_of settings [] in
    let told = flat_map (field_items (rules_of settings [])) fields in
    let block : IsBlock text (flat_map (field_items (rules_of settings [])) fields ++ written.items) =
    rw is (block_both (fields_text (rules_of settings [])) code (flat_map (field_items (rules_of settings [])) fields) written.items
    (fields_say (rules_of settings []) fields lies) written.block) in
    let numbers : (field : Field) → numbers_for field (flat_map (field_items (rules_of settings [])) fields ++ written.items)
    ≡ numbers_for field (flat_map (field_items (rules_of settings [])) fields) =
    λ field. flat_map-append (number_in field) (flat_map (field_items (rules_of settings [])) fields) written.items
    ∙ ap (λ end. numbers_for field (flat_map (field_items (rules_of settings [])) fields) ++ end) (written.numberless field)
    ∙ append-nil (numbers_for field (flat_map (field_items (rules_of settings [])) fields)) in
    let bytes : code_of (flat_map (field_items (rules_of settings [])) fields ++ written.items) ≡ program =
    flat_map-append code_in (flat_map (field_items (rules_of settings [])) fields) written.items
    ∙ ap (λ front. front ++ code_of written.items) (no_code (rules_of settings []) fields) ∙ written.code in (
      flat_map (field_items (rules_of settings [])) fields ++ written.items,
      block_lines text (flat_map (field_items (rules_of settings [])) fields ++ written.items) block,
      record {
        once = λ field there. inl (numbers field ∙ told_once (rules_of settings []) two field there
            ∙ ap (λ number. number ∷ []) (same_rule settings program field));
        nowhere = λ field beyond. (
          numbers field ∙ told_nowhere (rules_of settings []) two field beyond,
          sym (same_rule settings program field) ∙ absent_rule settings field two beyond,
        );
        masks = refl;
        program = sym bytes;
        some_code = omega (arith, good.some);
        most_code = good.most;
      },
    )
