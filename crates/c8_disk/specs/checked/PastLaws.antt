-- Checked, not believed: the laws of the trait, for a disk that keeps what it held at first and each call.
use Rattle.std.proofs.Common.{◌≡◌, inl, inr, ◌≤◌, nat_le, nat_lt, ◌&&◌, ℕ, suc, true, List, [], ◌∷◌, ◌++◌, length, take, drop, refl, sym}
use Rattle.std.proofs.Common.{◌∙◌, ap, subst, arith, length-take-le}
use Rattle.std.proofs.lemmas.Bool.{cases_Bool, and_parts, and_from, leb-true, ltb-false, cond-true, cond-false}
use Rattle.std.proofs.lemmas.List.{take_all}
use Rattle.c8_disk.specs.Disk.{overwritten, Torn}
use Rattle.c8_disk.specs.Past.{content, Leaves, IsImage, LeftSince, synced_count, are_lawful}
use Rattle.c8_disk.specs.checked.TornLaws.{overwritten_is_torn, length-overwritten}
use Rattle.c8_disk.specs.declared.call.Call.{Call}
use Rattle.c8_disk.specs.declared.call.Call.TheVariants.{Write, Sync}

-- what a read gives is an image
pub reads : (images : List ℕ → Type 0) (bytes : List ℕ) (calls : List Call) → are_lawful bytes calls ≡ true → images bytes
    → Leaves images bytes calls (content bytes calls)
reads images bytes [] lawful here = here
reads images bytes (Write at count written ∷ calls) lawful here =
    let parts = and_parts (nat_le at (length bytes) && nat_le count (length written))
    (are_lawful (overwritten bytes at (take count written)) calls) lawful in
    let places = and_parts (nat_le at (length bytes)) (nat_le count (length written)) parts.0 in
    let size : length (take count written) ≡ count = length-take-le count written (leb-true _ _ places.1) in
    let torn = overwritten_is_torn bytes at (take count written) (leb-true _ _ places.0) in
    reads _ (overwritten bytes at (take count written)) calls parts.1
    (bytes, here, subst (λ (n : ℕ). Torn at n bytes (overwritten bytes at (take count written))) size torn)
reads images bytes (Sync ∷ calls) lawful here = reads _ bytes calls lawful refl

pub reads_image : (first : List ℕ) (calls : List Call) (bytes : List ℕ) → are_lawful first calls ≡ true → bytes ≡ content first calls
    → IsImage first calls bytes
reads_image first calls bytes lawful same = subst (IsImage first calls) (sym same) (reads (λ image. image ≡ first) first calls lawful refl)

-- the moments since t
pub counts : (first : List ℕ) (calls : List Call) (t : ℕ) (image : List ℕ) → t ≤ length calls → IsImage first calls image
    → LeftSince first calls t image
counts first calls t image le left =
    let size = length calls in
    (size, le, omega arith, subst (λ (l : List Call). IsImage first l image) (sym (take_all size calls (omega arith))) left)

pub only : (first : List ℕ) (calls : List Call) (image : List ℕ) → LeftSince first calls (length calls) image → IsImage first calls image
only first calls image left = subst (λ (l : List Call). IsImage first l image) (take_all left.0 calls left.1) left.3

-- earlier calls, and later ones
pub content-append : (bytes : List ℕ) (xs ys : List Call) → content bytes (xs ++ ys) ≡ content (content bytes xs) ys
content-append bytes [] ys = refl
content-append bytes (Write at count written ∷ xs) ys = content-append (overwritten bytes at (take count written)) xs ys
content-append bytes (Sync ∷ xs) ys = content-append bytes xs ys

pub split_leaves : (images : List ℕ → Type 0) (bytes : List ℕ) (xs ys : List Call) (image : List ℕ) → Leaves images bytes (xs ++ ys) image
    → Leaves (Leaves images bytes xs) (content bytes xs) ys image
split_leaves images bytes [] ys image left = left
split_leaves images bytes (Write at count written ∷ xs) ys image left = split_leaves _ (overwritten bytes at (take count written)) xs ys image left
split_leaves images bytes (Sync ∷ xs) ys image left = split_leaves _ bytes xs ys image left

pub join_leaves : (images : List ℕ → Type 0) (bytes : List ℕ) (xs ys : List Call) (image : List ℕ)
    → Leaves (Leaves images bytes xs) (content bytes xs) ys image → Leaves images bytes (xs ++ ys) image
join_leaves images bytes [] ys image left = left
join_leaves images bytes (Write at count written ∷ xs) ys image left = join_leaves _ (overwritten bytes at (take count written)) xs ys image left
join_leaves images bytes (Sync ∷ xs) ys image left = join_leaves _ bytes xs ys image left

pub lawful_back : (bytes : List ℕ) (xs ys : List Call) → are_lawful bytes (xs ++ ys) ≡ true → are_lawful (content bytes xs) ys ≡ true
lawful_back bytes [] ys lawful = lawful
lawful_back bytes (Write at count written ∷ xs) ys lawful =
    let parts = and_parts (nat_le at (length bytes) && nat_le count (length written))
    (are_lawful (overwritten bytes at (take count written)) (xs ++ ys)) lawful in
    lawful_back (overwritten bytes at (take count written)) xs ys parts.1
lawful_back bytes (Sync ∷ xs) ys lawful = lawful_back bytes xs ys lawful

pub lawful_front : (bytes : List ℕ) (xs ys : List Call) → are_lawful bytes (xs ++ ys) ≡ true → are_lawful bytes xs ≡ true
lawful_front bytes [] ys lawful = refl
lawful_front bytes (Write at count written ∷ xs) ys lawful =
    let parts = and_parts (nat_le at (length bytes) && nat_le count (length written))
    (are_lawful (overwritten bytes at (take count written)) (xs ++ ys)) lawful in
    and_from _ _ parts.0 (lawful_front (overwritten bytes at (take count written)) xs ys parts.1)
lawful_front bytes (Sync ∷ xs) ys lawful = lawful_front bytes xs ys lawful

-- there is no call after the last sync
abbrev pub none_synced : List Call → Type 0
none_synced [] = Unit {0}
none_synced (Write at count written ∷ calls) = none_synced calls
none_synced (Sync ∷ calls) = ⊥

none_from_count : (calls : List Call) → synced_count calls ≡ 0 → none_synced calls
none_from_count [] none = tt
none_from_count (Write at count written ∷ calls) none = elim (cases_Bool (nat_lt 0 (synced_count calls))) [
  | inl some ↦ absurd (let is : suc (synced_count calls) ≡ 0 =
      sym (cond-true (nat_lt 0 (synced_count calls)) (suc (synced_count calls)) 0 some) ∙ none in omega arith)
  | inr nothing ↦ none_from_count calls (let le : synced_count calls ≤ 0 = ltb-false _ _ nothing in omega arith)
]
none_from_count (Sync ∷ calls) none = absurd (omega arith)

pub none_behind : (calls : List Call) → none_synced (drop (synced_count calls) calls)
none_behind [] = tt
none_behind (Write at count written ∷ calls) = elim (cases_Bool (nat_lt 0 (synced_count calls))) [
  | inl some ↦
      let is = cond-true (nat_lt 0 (synced_count calls)) (suc (synced_count calls)) 0 some in
      subst (λ (k : ℕ). none_synced (drop k (Write at count written ∷ calls))) (sym is) (none_behind calls)
  | inr nothing ↦
      let is = cond-false (nat_lt 0 (synced_count calls)) (suc (synced_count calls)) 0 nothing in
      let le : synced_count calls ≤ 0 = ltb-false _ _ nothing in
      subst (λ (k : ℕ). none_synced (drop k (Write at count written ∷ calls))) (sym is) (none_from_count calls (omega arith))
]
none_behind (Sync ∷ calls) = none_behind calls

-- no image is longer than what a read gives
leaves_within : (images : List ℕ → Type 0) (bytes : List ℕ) (calls : List Call) (image : List ℕ) → are_lawful bytes calls ≡ true
    → ((l : List ℕ) → images l → length l ≤ length bytes) → Leaves images bytes calls image → length image ≤ length (content bytes calls)
leaves_within images bytes [] image lawful within left = within image left
leaves_within images bytes (Write at count written ∷ calls) image lawful within left =
    let parts = and_parts (nat_le at (length bytes) && nat_le count (length written))
    (are_lawful (overwritten bytes at (take count written)) calls) lawful in
    let places = and_parts (nat_le at (length bytes)) (nat_le count (length written)) parts.0 in
    let size : length (take count written) ≡ count = length-take-le count written (leb-true _ _ places.1) in
    let grown = length-overwritten bytes at (take count written) (leb-true _ _ places.0) in
    leaves_within _ (overwritten bytes at (take count written)) calls image parts.1
    (λ l torn. let less = within torn.0 torn.1 in let longest = torn.2.no_longer in omega (arith, less, longest, grown, size)) left
leaves_within images bytes (Sync ∷ calls) image lawful within left =
    leaves_within _ bytes calls image lawful (λ l is. let same = ap length is in omega (arith, same)) left

pub image_within : (first : List ℕ) (calls : List Call) (image : List ℕ) → are_lawful first calls ≡ true → IsImage first calls image
    → length image ≤ length (content first calls)
image_within first calls image lawful left = leaves_within _ first calls image lawful (λ l is. let same = ap length is in omega (arith, same)) left
