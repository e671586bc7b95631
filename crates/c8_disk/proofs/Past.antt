-- One more call.
use Rattle.std.proofs.Common.{◌≡◌, inl, inr, ◌≤◌, ℕ, ◌+◌, nat_le, ◌&&◌, true, List, [], ◌∷◌, ◌++◌, length, take, refl, sym, ◌∙◌, ap, subst}
use Rattle.std.proofs.Common.{arith, length-take}
use Rattle.std.proofs.lemmas.Bool.{cases_lt, and_parts, and_from, le-leb}
use Rattle.std.proofs.lemmas.List.{take_all, take-append-le, length_push}
use Rattle.c8_disk.specs.Disk.{overwritten, Torn, Tears, AddsNone, Only, Elapses}
use Rattle.c8_disk.specs.Past.{content, Leaves, IsImage, LeftSince, are_lawful, fit, IsWriteOf}
use Rattle.c8_disk.specs.checked.PastLaws.{reads, content-append, split_leaves}
use Rattle.c8_disk.specs.declared.call.Call.{Call}
use Rattle.c8_disk.specs.declared.call.Call.TheVariants.{Write, Sync}

pub lawful_more : (bytes : List ℕ) (xs ys : List Call) → are_lawful bytes xs ≡ true → are_lawful (content bytes xs) ys ≡ true
    → are_lawful bytes (xs ++ ys) ≡ true
lawful_more bytes [] ys one other = other
lawful_more bytes (Write at count written ∷ xs) ys one other =
    let parts = and_parts (nat_le at (length bytes) && nat_le count (length written))
    (are_lawful (overwritten bytes at (take count written)) xs) one in
    and_from _ _ parts.0 (lawful_more (overwritten bytes at (take count written)) xs ys parts.1 other)
lawful_more bytes (Sync ∷ xs) ys one other = lawful_more bytes xs ys one other

fit_push : (capacity : ℕ) (calls : List Call) (call : Call) → fit capacity calls ≡ true → fit capacity (call ∷ []) ≡ true
    → fit capacity (calls ++ call ∷ []) ≡ true
fit_push capacity [] call fits one = one
fit_push capacity (Write at count written ∷ calls) call fits one =
    let parts = and_parts (nat_le count 144 && nat_le (at + count) capacity) (fit capacity calls) fits in
    and_from _ _ parts.0 (fit_push capacity calls call parts.1 one)
fit_push capacity (Sync ∷ calls) call fits one = fit_push capacity calls call fits one

pub elapses_push : (first : List ℕ) (calls : List Call) (call : Call)
    → Elapses (length calls) (length (calls ++ call ∷ [])) (LeftSince first calls) (LeftSince first (calls ++ call ∷ []))
    (IsImage first (calls ++ call ∷ []))
elapses_push first calls call = record {
  later = omega (arith, size);
  nothing_else = λ t image le left. elim (cases_lt (length calls) left.0) [
    | inl all ↦ inr (subst (λ (l : List Call). IsImage first l image) (take_all left.0 (calls ++ call ∷ []) (omega (arith, size, all))) left.3)
    | inr some ↦ inl (left.0, left.1, some, subst (λ (l : List Call). IsImage first l image) (take-append-le left.0 calls (call ∷ []) some) left.3)
  ];
  keeps = λ t image le left. (
    left.0,
    left.1,
    omega (arith, size, left.2),
    subst (λ (l : List Call). IsImage first l image) (sym (take-append-le left.0 calls (call ∷ []) left.2)) left.3,
  );
}
  where
    size : length (calls ++ call ∷ []) ≡ length calls + 1
    size = length_push calls call

module _ (first : List ℕ) (calls : List Call) where
  -- one more write
  module _ (at : ℕ) (bytes : List ℕ) (call : Call) (is : IsWriteOf at bytes call) where
    pub content_write : content first (calls ++ call ∷ []) ≡ overwritten (content first calls) at bytes
    content_write = content-append first calls (call ∷ []) ∙ written (content first calls) call is
      where
        written : (old : List ℕ) (c : Call) → IsWriteOf at bytes c → content old (c ∷ []) ≡ overwritten old at bytes
        written old (Write place count kept) so = ap (λ (l : List ℕ). overwritten old place l) so.2 ∙ ap (λ (n : ℕ). overwritten old n bytes) so.0
        written old Sync so = absurd so

    pub tears_write : Tears at (length bytes) (IsImage first calls) (IsImage first (calls ++ call ∷ []))
    tears_write image left = torn call is (split_leaves (λ l. l ≡ first) first calls (call ∷ []) image left)
      where
        torn : (c : Call) → IsWriteOf at bytes c → Leaves (IsImage first calls) (content first calls) (c ∷ []) image
            → (earlier : List ℕ) × IsImage first calls earlier × Torn at (length bytes) earlier image
        torn (Write place count kept) so here =
            (here.0, here.1, subst (λ (n : ℕ). Torn n (length bytes) here.0 image) so.0 (subst (λ (n : ℕ). Torn place n here.0 image) so.1 here.2))
        torn Sync so here = absurd so

    pub lawful_write : are_lawful first calls ≡ true → at ≤ length (content first calls) → are_lawful first (calls ++ call ∷ []) ≡ true
    lawful_write lawful within = lawful_more first calls (call ∷ []) lawful (one call is)
      where
        one : (c : Call) → IsWriteOf at bytes c → are_lawful (content first calls) (c ∷ []) ≡ true
        one (Write place count kept) so =
            let has : length (take count kept) ≡ length bytes = ap length so.2 in
            let place_is : place ≡ at = so.0 in
            let count_is : count ≡ length bytes = so.1 in
            let begins : place ≤ length (content first calls) = omega (arith, place_is, within) in
            let enough : count ≤ length kept = omega (arith, has, count_is, length-take count kept) in
            and_from _ _ (and_from _ _ (le-leb _ _ begins) (le-leb _ _ enough)) refl
        one Sync so = absurd so

    pub fit_write : (capacity : ℕ) → fit capacity calls ≡ true → length bytes ≤ 144 → at + length bytes ≤ capacity
        → fit capacity (calls ++ call ∷ []) ≡ true
    fit_write capacity fits short within = fit_push capacity calls call fits (one call is)
      where
        one : (c : Call) → IsWriteOf at bytes c → fit capacity (c ∷ []) ≡ true
        one (Write place count kept) so =
            let place_is : place ≡ at = so.0 in
            let count_is : count ≡ length bytes = so.1 in
            let few : count ≤ 144 = omega (arith, count_is, short) in
            let ends : place + count ≤ capacity = omega (arith, place_is, count_is, within) in
            and_from _ _ (and_from _ _ (le-leb _ _ few) (le-leb _ _ ends)) refl
        one Sync so = absurd so

  -- one more sync
  pub content_sync : content first (calls ++ Sync ∷ []) ≡ content first calls
  content_sync = content-append first calls (Sync ∷ [])

  pub only_synced : Only (content first calls) (IsImage first (calls ++ Sync ∷ []))
  only_synced image left = split_leaves (λ l. l ≡ first) first calls (Sync ∷ []) image left

  pub sync_adds_none : are_lawful first calls ≡ true → AddsNone (IsImage first calls) (IsImage first (calls ++ Sync ∷ []))
  sync_adds_none lawful image left = subst (IsImage first calls) (sym (only_synced image left)) (reads (λ l. l ≡ first) first calls lawful refl)

  pub lawful_sync : are_lawful first calls ≡ true → are_lawful first (calls ++ Sync ∷ []) ≡ true
  lawful_sync lawful = lawful_more first calls (Sync ∷ []) lawful refl

  pub fit_sync : (capacity : ℕ) → fit capacity calls ≡ true → fit capacity (calls ++ Sync ∷ []) ≡ true
  fit_sync capacity fits = fit_push capacity calls Sync fits refl
