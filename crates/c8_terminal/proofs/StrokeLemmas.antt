-- How many frames a key counts as held.
use Rattle.std.proofs.Common.{◌≡◌, ℕ, zero, suc, ◌-◌, ◌≤◌, Bool, true, false, cond, max, refl, ap, ◌∙◌, inl, inr, arith}
use Rattle.std.specs.Prelude.{◌||◌, nat_lt, nat_le}
use Rattle.std.proofs.lemmas.Bool.{cases_Bool}
use Rattle.std.proofs.lemmas.Bool.Decides.{nat_tests}
use Rattle.c8_terminal.specs.Strokes.{Press, after_frame, after_frames, is_held, no_press, pressed, released, struck}

one_fewer : (n left : ℕ) → nat_lt n (left - 1) ≡ nat_lt (suc n) left
one_fewer n left = grind (arith, nat_tests)

counted : (n : ℕ) (p : Press) → is_held (after_frames n p) ≡ (p.down || nat_lt n p.left)
counted zero p = refl
counted (suc n) p = counted n (after_frame p) ∙ ap (λ (b : Bool). p.down || b) (one_fewer n p.left)

-- a key that is not down is held for the frames that are left
when_up : (n : ℕ) (p : Press) → p.down ≡ false → is_held (after_frames n p) ≡ nat_lt n p.left
when_up n p up = counted n p ∙ ap (λ (b : Bool). b || nat_lt n p.left) up

pub first_stroke : (hold n : ℕ) → is_held (after_frames n (struck hold no_press)) ≡ nat_lt n hold
first_stroke hold n =
    let all : max 0 hold ≡ hold = omega arith in
    when_up n (struck hold no_press) refl ∙ ap (nat_lt n) all

pub repeated_stroke : (hold n : ℕ) (p : Press) → p.down ≡ false → p.since ≤ 45 → is_held (after_frames n (struck hold p)) ≡ nat_lt n (max p.left 6)
repeated_stroke hold n p up soon =
    let late : nat_le p.since 45 ≡ true = grind (arith, nat_tests) in
    when_up n (struck hold p) up ∙ ap (λ (b : Bool). nat_lt n (max p.left (cond b 6 hold))) late

held_down : (n : ℕ) (p : Press) → p.down ≡ true → is_held (after_frames n p) ≡ true
held_down n p down = counted n p ∙ ap (λ (b : Bool). b || nat_lt n p.left) down

pub down_is_held : (n : ℕ) (p : Press) → is_held (after_frames n (pressed p)) ≡ true
down_is_held n p =
    elim (cases_Bool p.down) [
      | inl down ↦ held_down n (pressed p) (ap (λ (b : Bool).
          (cond b p (record { down = true; unseen = true; left = max p.left 1; since = p.since })).down) down ∙ down)
      | inr up ↦ held_down n (pressed p) (ap (λ (b : Bool).
          (cond b p (record { down = true; unseen = true; left = max p.left 1; since = p.since })).down) up)
    ]

none_before_zero : (n : ℕ) → nat_lt n 0 ≡ false
none_before_zero n = grind (arith, nat_tests)

pub up_is_not_held : (n : ℕ) (p : Press) → p.unseen ≡ false → is_held (after_frames n (released p)) ≡ false
up_is_not_held n p seen = when_up n (released p) refl ∙ ap (λ (b : Bool). nat_lt n (cond b 1 0)) seen ∙ none_before_zero n

pub tap_is_held : (n : ℕ) (p : Press) → p.down ≡ false → is_held (after_frames n (released (pressed p))) ≡ nat_lt n 1
tap_is_held n p up =
    let unseen : (pressed p).unseen ≡ true = ap
    (λ (b : Bool). (cond b p (record { down = true; unseen = true; left = max p.left 1; since = p.since })).unseen) up in
    when_up n (released (pressed p)) refl ∙ ap (λ (b : Bool). nat_lt n (cond b 1 0)) unseen
