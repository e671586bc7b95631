-- Checked, not believed: the images are exactly those that `AtOnce.antt` gives.
use Rattle.std.proofs.Common.{◌≡◌, inl, inr, ◌≤◌, ◌<◌, ℕ, suc, ◌+◌, ◌-◌, min, max, nat_le, nat_lt, ◌&&◌, ◌||◌, Bool, true, false, List, []}
use Rattle.std.proofs.Common.{◌∷◌, ◌++◌, length, take, drop, get_or, slice_index, refl, sym, ◌∙◌, ap, subst, arith, take-append-drop}
use Rattle.std.proofs.Common.{length-take, length-take-le, length-drop}
use Rattle.std.proofs.lemmas.Bool.{cases_Bool, cases_lt, cond-true, cond-false, leb-true, ltb-true, ltb-false, or_parts, and_from}
use Rattle.std.proofs.lemmas.Bool.{and_parts, le-leb, lt-ltb, true≢false}
use Rattle.std.proofs.lemmas.List.{get_or-take, get_or-drop, get_or_append_left, ext_get_or}
use Rattle.c8_disk.specs.Disk.{overwritten, Torn}
use Rattle.c8_disk.specs.Past.{content, Leaves, IsImage, synced, synced_count, are_lawful}
use Rattle.c8_disk.specs.AtOnce.{is_in_range, is_touched, IsBetweenSyncs}
use Rattle.c8_disk.specs.checked.PastLaws.{reads, content-append, split_leaves, join_leaves, lawful_front, lawful_back, none_synced}
use Rattle.c8_disk.specs.checked.PastLaws.{none_behind, image_within}
use Rattle.c8_disk.specs.checked.TornLaws.{overwritten_is, length-overwritten, torn_wider, untouched}
use Rattle.c8_disk.specs.declared.call.Call.{Call}
use Rattle.c8_disk.specs.declared.call.Call.TheVariants.{Write, Sync}

-- a torn write changes nothing outside its range
outside : (at count : ℕ) (old new : List ℕ) (i : ℕ) → Torn at count old new → is_in_range at count i ≡ false → slice_index new i ≡ slice_index old i
outside at count old new i torn out = elim (cases_lt i at) [
  | inl before ↦ sym (get_or-take at new i 0 before) ∙ ap (λ (l : List ℕ). get_or l i 0) torn.before ∙ get_or-take at old i 0 before
  | inr from ↦ elim (cases_lt i (at + count)) [
    | inl within ↦ absurd (true≢false (sym (and_from _ _ (le-leb _ _ from) (lt-ltb _ _ within)) ∙ out))
    | inr past ↦
        let k = i - (at + count) in
        let here : i ≡ at + count + (i - (at + count)) = omega arith in
        let there : at + count + (i - (at + count)) ≡ i = sym here in
        ap (λ (j : ℕ). get_or new j 0) here ∙ sym (get_or-drop (at + count) new k 0) ∙ ap (λ (l : List ℕ). get_or l k 0) torn.after
        ∙ get_or-drop (at + count) old k 0
        ∙ ap (λ (j : ℕ). get_or old j 0) there
  ]
]

both_false : (a b : Bool) → a ≡ false → b ≡ false → (a || b) ≡ false
both_false false b p q = q
both_false true b p q = absurd (true≢false p)

-- the image has the bytes of the last sync wherever no write touched it
record Agrees (base : List ℕ) (touched : ℕ → Bool) (image : List ℕ) : Type 0 where
  no_shorter : length base ≤ length image
  same : (i : ℕ) → i < length base → touched i ≡ false → slice_index image i ≡ slice_index base i

one_write : (base : List ℕ) (touched : ℕ → Bool) (at count : ℕ) (old new : List ℕ) → Agrees base touched old → Torn at count old new
    → Agrees base (λ i. touched i || is_in_range at count i) new
one_write base touched at count old new so torn = record {
  no_shorter = omega (arith, so.no_shorter, torn.no_shorter);
  same = λ i lt none. let parts = or_parts (touched i) (is_in_range at count i) none in
      outside at count old new i torn parts.1 ∙ so.same i lt parts.0;
}

agrees : (base bytes : List ℕ) (touched : ℕ → Bool) (images : List ℕ → Type 0) (calls : List Call) (image : List ℕ) → none_synced calls
    → ((l : List ℕ) → images l → Agrees base touched l) → Leaves images bytes calls image
    → Agrees base (λ i. touched i || is_touched calls i) image
agrees base bytes touched images [] image none so left =
    let here = so image left in record {
      no_shorter = here.no_shorter;
      same = λ i lt untouched. here.same i lt (or_parts (touched i) false untouched).0;
    }
agrees base bytes touched images (Write at count written ∷ calls) image none so left =
    let rest = agrees base (overwritten bytes at (take count written)) (λ i. touched i || is_in_range at count i) _ calls image none
    (λ l torn. one_write base touched at count torn.0 l (so torn.0 torn.1) torn.2) left in
    record {
      no_shorter = rest.no_shorter;
      same = λ i lt untouched.
          let outer = or_parts (touched i) (is_in_range at count i || is_touched calls i) untouched in
          let inner = or_parts (is_in_range at count i) (is_touched calls i) outer.1 in
          rest.same i lt (both_false (touched i || is_in_range at count i) (is_touched calls i)
          (both_false (touched i) (is_in_range at count i) outer.0 inner.0) inner.1);
    }
agrees base bytes touched images (Sync ∷ calls) image none so left = absurd none

-- after the last sync there is only one image
after_sync : (images : List ℕ → Type 0) (bytes : List ℕ) (calls : List Call) (image : List ℕ) → 0 < synced_count calls
    → Leaves images bytes (take (synced_count calls) calls) image → image ≡ content bytes (take (synced_count calls) calls)
after_sync images bytes [] image some left = absurd (omega arith)
after_sync images bytes (Write at count written ∷ calls) image some left = elim (cases_Bool (nat_lt 0 (synced_count calls))) [
  | inl more ↦
      let is = cond-true (nat_lt 0 (synced_count calls)) (suc (synced_count calls)) 0 more in
      let rest = subst (λ (k : ℕ). Leaves images bytes (take k (Write at count written ∷ calls)) image) is left in
      subst (λ (k : ℕ). image ≡ content bytes (take k (Write at count written ∷ calls))) (sym is)
      (after_sync _ (overwritten bytes at (take count written)) calls image (ltb-true _ _ more) rest)
  | inr nothing ↦ absurd (let is = cond-false (nat_lt 0 (synced_count calls)) (suc (synced_count calls)) 0 nothing in omega (arith, is, some))
]
after_sync images bytes (Sync ∷ calls) image some left = elim (cases_Bool (nat_lt 0 (synced_count calls))) [
  | inl more ↦ after_sync _ bytes calls image (ltb-true _ _ more) left
  | inr nothing ↦
      let le : synced_count calls ≤ 0 = ltb-false _ _ nothing in
      let zero : synced_count calls ≡ 0 = omega arith in
      let same : image ≡ bytes = subst (λ (k : ℕ). Leaves (λ l. l ≡ bytes) bytes (take k calls) image) zero left in
      subst (λ (k : ℕ). image ≡ content bytes (take k calls)) (sym zero) same
]

at_sync : (first : List ℕ) (calls : List Call) (image : List ℕ) → IsImage first (take (synced_count calls) calls) image → image ≡ synced first calls
at_sync first calls image left = elim (cases_Bool (nat_lt 0 (synced_count calls))) [
  | inl some ↦ after_sync (λ l. l ≡ first) first calls image (ltb-true _ _ some) left
  | inr nothing ↦
      let le : synced_count calls ≤ 0 = ltb-false _ _ nothing in
      let zero : synced_count calls ≡ 0 = omega arith in
      let same : image ≡ first = subst (λ (k : ℕ). IsImage first (take k calls) image) zero left in
      subst (λ (k : ℕ). image ≡ content first (take k calls)) (sym zero) same
]

pub between : (first : List ℕ) (calls : List Call) (image : List ℕ) → are_lawful first calls ≡ true → IsImage first calls image
    → IsBetweenSyncs first calls image
between first calls image lawful left =
    let front = take (synced_count calls) calls in
    let back = drop (synced_count calls) calls in
    let parts : front ++ back ≡ calls = take-append-drop (synced_count calls) calls in
    let split = split_leaves (λ l. l ≡ first) first front back image (subst (λ (l : List Call). IsImage first l image) (sym parts) left) in
    let here = agrees (synced first calls) (content first front) (λ i. false) (Leaves (λ l. l ≡ first) first front) back image
    (none_behind calls) (λ l old.
    let is = at_sync first calls l old in record {
      no_shorter = omega (arith, ap length is);
      same = λ i lt none. ap (λ (b : List ℕ). slice_index b i) is;
    }) split in
    record { no_shorter = here.no_shorter; no_longer = image_within first calls image lawful left; same = here.same }

-- The other direction: from what was last synced, each write is torn so that its range becomes the image's.

-- what is torn so far has the length of the image or of what a read gives, whichever is less, and the image's bytes
-- wherever no later write touches it
record IsTornTo (image bytes : List ℕ) (touched : ℕ → Bool) (base : List ℕ) : Type 0 where
  size : length base ≡ min (length image) (length bytes)
  same : (i : ℕ) → i < length base → touched i ≡ false → slice_index image i ≡ slice_index base i

record TornOn (image bytes : List ℕ) (touched : ℕ → Bool) (at count : ℕ) (base : List ℕ) : Type 0 where
  next : List ℕ
  torn : Torn at count base next
  is : IsTornTo image bytes touched next

not_before : (at count i : ℕ) → i < at → is_in_range at count i ≡ false
not_before at count i lt = elim (cases_Bool (is_in_range at count i)) [
  | inl is ↦ absurd (let le = leb-true at i (and_parts (nat_le at i) (nat_lt i (at + count)) is).0 in omega (arith, le, lt))
  | inr out ↦ out
]

-- a write that begins beyond the end so far changes nothing
nothing_torn : (image bytes new base : List ℕ) (touched : ℕ → Bool) (at count : ℕ) → at ≤ length bytes
    → length new ≡ max (length bytes) (at + count) → length base < at
    → IsTornTo image bytes (λ i. is_in_range at count i || touched i) base → TornOn image new touched at count base
nothing_torn image bytes new base touched at count begins grown past so = record {
  next = base;
  torn = untouched at count base;
  is = record {
    size = omega (arith, so.size, begins, grown, past);
    same = λ i lt none. so.same i lt (both_false (is_in_range at count i) (touched i) (not_before at count i (omega (arith, lt, past))) none);
  };
}

-- any other write writes what the image has in its range
image_torn : (image bytes new base : List ℕ) (touched : ℕ → Bool) (at count : ℕ) → at ≤ length bytes
    → length new ≡ max (length bytes) (at + count) → at ≤ length base
    → IsTornTo image bytes (λ i. is_in_range at count i || touched i) base → TornOn image new touched at count base
image_torn image bytes new base touched at count begins grown within so =
    let there = take count (drop at image) in
    let next = overwritten base at there in
    let made = overwritten_is base at there within in
    let size : length there ≡ min count (length image - at) =
    length-take count (drop at image) ∙ ap (λ (n : ℕ). min count n) (length-drop at image) in
    let few : length there ≤ count = omega (arith, size) in
    let torn = torn_wider at (length there) count base next few made.torn in
    let long : length next ≡ min (length image) (length new) = omega (arith, made.size, size, so.size, grown, begins, within) in
    record {
      next = next;
      torn = torn;
      is = record {
        size = long;
        same = λ i lt none. elim (cases_Bool (is_in_range at count i)) [
          | inl is ↦
              let parts = and_parts (nat_le at i) (nat_lt i (at + count)) is in
              let from = leb-true at i parts.0 in
              let before = ltb-true i (at + count) parts.1 in
              let k = i - at in
              let here : i ≡ at + (i - at) = omega (arith, from) in
              let in_count : i - at < count = omega (arith, from, before) in
              let in_there : i - at < length there = omega (arith, from, before, size, lt, long) in
              ap (λ (j : ℕ). get_or image j 0) here ∙ sym (get_or-drop at image k 0) ∙ sym (get_or-take count (drop at image) k 0 in_count)
              ∙ sym (get_or_append_left there (drop (at + length there) base) 0 k in_there) ∙ ap (λ (l : List ℕ). get_or l k 0) (sym made.here)
              ∙ get_or-drop at next k 0 ∙ ap (λ (j : ℕ). get_or next j 0) (sym here)
          | inr out ↦ elim (cases_lt i (length base)) [
            | inl old ↦ so.same i old (both_false (is_in_range at count i) (touched i) out none) ∙ sym (outside at count base next i torn out)
            | inr past ↦
                let from : at ≤ i = omega (arith, within, past) in
                let before : i < at + count = omega (arith, lt, past, made.size, few) in
                absurd (true≢false (sym (and_from _ _ (le-leb _ _ from) (lt-ltb _ _ before)) ∙ out))
          ]
        ];
      };
    }

one_torn : (image bytes new base : List ℕ) (touched : ℕ → Bool) (at count : ℕ) → at ≤ length bytes → length new ≡ max (length bytes) (at + count)
    → IsTornTo image bytes (λ i. is_in_range at count i || touched i) base → TornOn image new touched at count base
one_torn image bytes new base touched at count begins grown so = elim (cases_lt (length base) at) [
  | inl past ↦ nothing_torn image bytes new base touched at count begins grown past so
  | inr within ↦ image_torn image bytes new base touched at count begins grown within so
]

torn_to_image : (images : List ℕ → Type 0) (bytes : List ℕ) (calls : List Call) (image base : List ℕ) → none_synced calls
    → are_lawful bytes calls ≡ true → length image ≤ length (content bytes calls) → images base
    → IsTornTo image bytes (is_touched calls) base → Leaves images bytes calls image
torn_to_image images bytes [] image base none lawful within here so =
    let size : length base ≡ length image = omega (arith, so.size, within) in
    subst images (ext_get_or 0 base image size (λ i lt. sym (so.same i lt refl))) here
torn_to_image images bytes (Write at count written ∷ calls) image base none lawful within here so =
    let new = overwritten bytes at (take count written) in
    let parts = and_parts (nat_le at (length bytes) && nat_le count (length written)) (are_lawful new calls) lawful in
    let places = and_parts (nat_le at (length bytes)) (nat_le count (length written)) parts.0 in
    let begins = leb-true at (length bytes) places.0 in
    let size : length (take count written) ≡ count = length-take-le count written (leb-true _ _ places.1) in
    let grown : length new ≡ max (length bytes) (at + count) =
    length-overwritten bytes at (take count written) begins ∙ ap (λ (n : ℕ). max (length bytes) (at + n)) size in
    let torn = one_torn image bytes new base (is_touched calls) at count begins grown so in
    torn_to_image _ new calls image torn.next none parts.1 within (base, here, torn.torn) torn.is
torn_to_image images bytes (Sync ∷ calls) image base none lawful within here so = absurd none

pub each_between : (first : List ℕ) (calls : List Call) (image : List ℕ) → are_lawful first calls ≡ true → IsBetweenSyncs first calls image
    → IsImage first calls image
each_between first calls image lawful so =
    let front = take (synced_count calls) calls in
    let back = drop (synced_count calls) calls in
    let parts : front ++ back ≡ calls = take-append-drop (synced_count calls) calls in
    let base = synced first calls in
    let whole = ap (are_lawful first) parts ∙ lawful in
    let here = reads (λ l. l ≡ first) first front (lawful_front first front back whole) refl in
    let grown : content base back ≡ content first calls = sym (content-append first front back) ∙ ap (content first) parts in
    let within : length image ≤ length (content base back) = omega (arith, so.no_longer, ap length grown) in
    let left = torn_to_image (Leaves (λ l. l ≡ first) first front) base back image base (none_behind calls)
    (lawful_back first front back whole) within here
    (record { size = omega (arith, so.no_shorter); same = so.same }) in
    subst (λ (l : List Call). IsImage first l image) parts (join_leaves (λ l. l ≡ first) first front back image left)
