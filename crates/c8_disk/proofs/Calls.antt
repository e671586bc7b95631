-- One call of a list.
use Rattle.std.proofs.Common.{◌≡◌, inl, inr, if◌then◌else◌, length-take-le, take-append-drop, ◌≤◌, ◌<◌, ℕ, suc, ◌+◌, nat_le, nat_lt, ◌&&◌}
use Rattle.std.proofs.Common.{true, List, [], ◌∷◌, ◌++◌, length, take, drop, get_or, refl, sym, ◌∙◌, ap, subst, arith}
use Rattle.std.proofs.lemmas.Bool.{cases_Bool, and_parts, and_from, leb-true, le-leb, cond-true, cond-false, lt-ltb}
use Rattle.std.proofs.lemmas.List.{drop_more, take_more}
use Rattle.c8_disk.specs.Disk.{overwritten}
use Rattle.c8_disk.specs.Past.{content, Leaves, IsImage, synced_count, synced, are_lawful, fit, TornBy}
use Rattle.c8_disk.specs.checked.PastLaws.{reads, join_leaves, lawful_front, none_synced, none_behind}
use Rattle.c8_disk.specs.checked.TornLaws.{untouched}
use Rattle.c8_disk.specs.declared.call.Call.{Call}
use Rattle.c8_disk.specs.declared.call.Call.TheVariants.{Write, Sync}

-- the list from a call on
pub rest : (calls : List Call) (i : ℕ) (call : Call) → i < length calls → get_or calls i (Write 0 0 []) ≡ call
    → drop i calls ≡ call ∷ drop (i + 1) calls
rest calls i call lt is = drop_more calls i (Write 0 0 []) lt ∙ ap (λ (c : Call). c ∷ drop (i + 1) calls) is

pub others_fit : (capacity : ℕ) (call : Call) (calls : List Call) → fit capacity (call ∷ calls) ≡ true → fit capacity calls ≡ true
others_fit capacity (Write at count written) calls fits = (and_parts (nat_le count 144 && nat_le (at + count) capacity) (fit capacity calls) fits).1
others_fit capacity Sync calls fits = fits

pub fit_more : (less more : ℕ) (calls : List Call) → less ≤ more → fit less calls ≡ true → fit more calls ≡ true
fit_more less more [] le fits = refl
fit_more less more (Write at count written ∷ calls) le fits =
    let parts = and_parts (nat_le count 144 && nat_le (at + count) less) (fit less calls) fits in
    let places = and_parts (nat_le count 144) (nat_le (at + count) less) parts.0 in
    and_from _ _ (and_from _ _ places.0 (le-leb _ _ (omega (arith, leb-true _ _ places.1)))) (fit_more less more calls le parts.1)
fit_more less more (Sync ∷ calls) le fits = fit_more less more calls le fits

pub torn_cons : (call : Call) (calls : List Call) (old mid new : List ℕ) → TornBy (call ∷ []) old mid → TornBy calls mid new
    → TornBy (call ∷ calls) old new
torn_cons (Write at count written) calls old mid new one others = (one.0, one.1, subst (λ (l : List ℕ). TornBy calls l new) one.2 others)
torn_cons Sync calls old mid new one others = subst (λ (l : List ℕ). TornBy calls l new) one others

-- how many calls there are up to the last sync, with one more call
synced_count-write : (calls : List Call) (at count : ℕ) (written : List ℕ) → synced_count (calls ++ Write at count written ∷ []) ≡ synced_count calls
synced_count-write [] at count written = refl
synced_count-write (Write a n w ∷ calls) at count written =
    ap (λ (k : ℕ). if nat_lt 0 k then suc k else 0) (synced_count-write calls at count written)
synced_count-write (Sync ∷ calls) at count written = ap (λ (k : ℕ). suc k) (synced_count-write calls at count written)

synced_count-sync : (calls : List Call) → synced_count (calls ++ Sync ∷ []) ≡ length calls + 1
synced_count-sync [] = refl
synced_count-sync (Write a n w ∷ calls) =
    let more = length calls + 1 in
    let some : 0 < length calls + 1 = omega arith in
    let last : suc (length calls + 1) ≡ suc (length calls) + 1 = omega arith in
    ap (λ (k : ℕ). if nat_lt 0 k then suc k else 0) (synced_count-sync calls)
    ∙ cond-true (nat_lt 0 (length calls + 1)) (suc (length calls + 1)) 0 (lt-ltb _ _ some) ∙ last
synced_count-sync (Sync ∷ calls) = let last : suc (length calls + 1) ≡ suc (length calls) + 1 = omega arith in
    ap (λ (k : ℕ). suc k) (synced_count-sync calls) ∙ last

one_more : (calls : List Call) (i : ℕ) (call : Call) → i < length calls → get_or calls i (Write 0 0 []) ≡ call
    → take (i + 1) calls ≡ take i calls ++ call ∷ []
one_more calls i call lt is = take_more calls i (Write 0 0 []) lt ∙ ap (λ (c : Call). take i calls ++ c ∷ []) is

pub passed_write : (calls : List Call) (i at count : ℕ) (written : List ℕ) → i < length calls
    → get_or calls i (Write 0 0 []) ≡ Write at count written → synced_count (take (i + 1) calls) ≡ synced_count (take i calls)
passed_write calls i at count written lt is =
    ap synced_count (one_more calls i (Write at count written) lt is) ∙ synced_count-write (take i calls) at count written

pub passed_sync : (calls : List Call) (i : ℕ) → i < length calls → get_or calls i (Write 0 0 []) ≡ Sync → synced_count (take (i + 1) calls) ≡ i + 1
passed_sync calls i lt is =
    ap synced_count (one_more calls i Sync lt is) ∙ synced_count-sync (take i calls) ∙ ap (λ (k : ℕ). k + 1) (length-take-le i calls (omega arith))

torn_leaves : (images : List ℕ → Type 0) (bytes : List ℕ) (calls : List Call) (old new : List ℕ) → none_synced calls → images old
    → TornBy calls old new → Leaves images bytes calls new
torn_leaves images bytes [] old new none here torn = subst images (sym torn) here
torn_leaves images bytes (Write at count written ∷ calls) old new none here torn =
    torn_leaves _ (overwritten bytes at (take count written)) calls torn.0 new none (old, here, torn.1) torn.2
torn_leaves images bytes (Sync ∷ calls) old new none here torn = absurd none

untorn : (calls : List Call) (bytes : List ℕ) → TornBy calls bytes bytes
untorn [] bytes = refl
untorn (Write at count written ∷ calls) bytes = (bytes, untouched at count bytes, untorn calls bytes)
untorn (Sync ∷ calls) bytes = untorn calls bytes

module _ (first : List ℕ) (calls : List Call) (lawful : are_lawful first calls ≡ true) where
  parts_of : take (synced_count calls) calls ++ drop (synced_count calls) calls ≡ calls
  parts_of = take-append-drop (synced_count calls) calls

  pub synced_lawful : are_lawful first (take (synced_count calls) calls) ≡ true
  synced_lawful = lawful_front first (take (synced_count calls) calls) (drop (synced_count calls) calls) (ap (are_lawful first) parts_of ∙ lawful)

  -- what was last synced, after the later writes, torn, is an image
  pub torn_is_image : (new : List ℕ) → TornBy (drop (synced_count calls) calls) (synced first calls) new → IsImage first calls new
  torn_is_image new torn =
      let front = take (synced_count calls) calls in
      let here = reads (λ image. image ≡ first) first front synced_lawful refl in
      let later = torn_leaves (IsImage first front) (content first front) (drop (synced_count calls) calls) (content first front) new
      (none_behind calls) here torn in
      subst (λ (l : List Call). IsImage first l new) parts_of
      (join_leaves (λ image. image ≡ first) first front (drop (synced_count calls) calls) new later)

  pub synced_is_image : IsImage first calls (synced first calls)
  synced_is_image = torn_is_image (synced first calls) (untorn (drop (synced_count calls) calls) (synced first calls))

pub synced_within : (calls : List Call) → synced_count calls ≤ length calls
synced_within [] = omega arith
synced_within (Write at count written ∷ calls) = elim (cases_Bool (nat_lt 0 (synced_count calls))) [
  | inl some ↦ let is = cond-true (nat_lt 0 (synced_count calls)) (suc (synced_count calls)) 0 some in omega (arith, is, synced_within calls)
  | inr nothing ↦ let is = cond-false (nat_lt 0 (synced_count calls)) (suc (synced_count calls)) 0 nothing in omega (arith, is)
]
synced_within (Sync ∷ calls) = omega (arith, synced_within calls)

fit_parts : (capacity : ℕ) (xs ys : List Call) → fit capacity (xs ++ ys) ≡ true → (fit capacity xs ≡ true) × (fit capacity ys ≡ true)
fit_parts capacity [] ys fits = (refl, fits)
fit_parts capacity (Write at count written ∷ xs) ys fits =
    let parts = and_parts (nat_le count 144 && nat_le (at + count) capacity) (fit capacity (xs ++ ys)) fits in
    let others = fit_parts capacity xs ys parts.1 in
    (and_from _ _ parts.0 others.0, others.1)
fit_parts capacity (Sync ∷ xs) ys fits = fit_parts capacity xs ys fits

pub fit_front : (capacity n : ℕ) (calls : List Call) → fit capacity calls ≡ true → fit capacity (take n calls) ≡ true
fit_front capacity n calls fits = (fit_parts capacity (take n calls) (drop n calls) (ap (fit capacity) (take-append-drop n calls) ∙ fits)).0

pub fit_back : (capacity n : ℕ) (calls : List Call) → fit capacity calls ≡ true → fit capacity (drop n calls) ≡ true
fit_back capacity n calls fits = (fit_parts capacity (take n calls) (drop n calls) (ap (fit capacity) (take-append-drop n calls) ∙ fits)).1
