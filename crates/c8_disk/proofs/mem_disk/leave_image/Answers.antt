-- What a read gives, what was last synced, and this with the later writes torn are images no longer than a read's.
use Rattle.std.proofs.Common.{◌≡◌, ◌≤◌, List, ℕ, length, take, drop, vec_capacity, true, sym, ◌∙◌, ap, subst, arith}
use Rattle.c8_disk.specs.Past.{content, synced, synced_count, are_lawful, fit, IsImage, TornBy}
use Rattle.c8_disk.specs.checked.PastLaws.{reads_image, image_within}
use Rattle.c8_disk.specs.declared.call.Call.{Call}
use Rattle.c8_disk.proofs.Calls.{synced_within, synced_lawful, synced_is_image, torn_is_image, fit_front, fit_back, fit_more}
use Rattle.c8_disk.proofs.mem_disk.leave_image.Goals as goal

pub returns-then-pick-eq1-clause-image : goal.returns-then-pick-eq1-clause-image
returns-then-pick-eq1-clause-image c = reads_image c.args.first.now.items c.args.calls.now c.args.bytes.now.items c.requires.lawful
    c.requires.replayed

pub split_at-requires : goal.split_at-requires
split_at-requires c = omega (arith, c.count_synced.ensures, synced_within c.args.calls.now)

pub replay-requires-clause-lawful : goal.replay-requires-clause-lawful
replay-requires-clause-lawful c =
    let calls = c.args.calls.now in
    let front = c.split_at.ensures.front ∙ ap (λ (n : ℕ). take n calls) c.count_synced.ensures in
    ap (are_lawful c.args.first.now.items) front ∙ synced_lawful c.args.first.now.items calls c.requires.lawful

pub replay-requires-clause-fits : goal.replay-requires-clause-fits
replay-requires-clause-fits c =
    let room = vec_capacity c.args.first.now in
    ap (fit room) c.split_at.ensures.front ∙ fit_front room c.count_synced.result c.args.calls.now c.requires.fits_first

pub replace-requires : goal.replace-requires
replace-requires c =
    let calls = c.args.calls.now in
    let first = c.args.first.now.items in
    let front = c.split_at.ensures.front ∙ ap (λ (n : ℕ). take n calls) c.count_synced.ensures in
    let is : c.deref.result.now ≡ synced first calls = c.deref.ensures.value ∙ c.replay.ensures.content ∙ ap (content first) front in
    let less = image_within first calls (synced first calls) c.requires.lawful (synced_is_image first calls c.requires.lawful) in
    omega (arith, ap length is, less, ap length c.requires.replayed)

pub tear_all-requires : goal.tear_all-requires
tear_all-requires c =
    let calls = c.args.calls.now in
    let room = vec_capacity c.replace.new.file in
    ap (fit room) c.split_at.ensures.back
    ∙ fit_more (vec_capacity c.args.bytes.now) room (drop c.count_synced.result calls) c.replace.ensures.capacity
    (fit_back (vec_capacity c.args.bytes.now) c.count_synced.result calls c.requires.fits_bytes)

pub returns-then-pick-ne0-clause-image : goal.returns-then-pick-ne0-clause-image
returns-then-pick-ne0-clause-image c =
    let calls = c.args.calls.now in
    let first = c.args.first.now.items in
    let front = c.split_at.ensures.front ∙ ap (λ (n : ℕ). take n calls) c.count_synced.ensures in
    let back = c.split_at.ensures.back ∙ ap (λ (n : ℕ). drop n calls) c.count_synced.ensures in
    let is : c.replace.new.file.items ≡ synced first calls =
    c.replace.ensures.items ∙ c.deref.ensures.value ∙ c.replay.ensures.content ∙ ap (content first) front in
    let torn = subst (λ (l : List Call). TornBy l c.replace.new.file.items c.tear_all.new.file.items) back c.tear_all.ensures.torn in
    torn_is_image first calls c.requires.lawful c.tear_all.new.file.items
    (subst (λ (l : List ℕ). TornBy (drop (synced_count calls) calls) l c.tear_all.new.file.items) is torn)

pub returns-else-pick-ne0-clause-image : goal.returns-else-pick-ne0-clause-image
returns-else-pick-ne0-clause-image c =
    let calls = c.args.calls.now in
    let first = c.args.first.now.items in
    let front = c.split_at.ensures.front ∙ ap (λ (n : ℕ). take n calls) c.count_synced.ensures in
    let is : c.replace.new.file.items ≡ synced first calls =
    c.replace.ensures.items ∙ c.deref.ensures.value ∙ c.replay.ensures.content ∙ ap (content first) front in
    subst (IsImage first calls) (sym is) (synced_is_image first calls c.requires.lawful)

-- an image is no longer than what a read gives
within : (first : List ℕ) (calls : List Call) (bytes image : List ℕ) → are_lawful first calls ≡ true → bytes ≡ content first calls
    → IsImage first calls image → length image ≤ length bytes
within first calls bytes image lawful same left = let less = image_within first calls image lawful left in omega (arith, less, ap length same)

pub returns-then-pick-ne0-clause-no_longer : goal.returns-then-pick-ne0-clause-no_longer
returns-then-pick-ne0-clause-no_longer c =
    let less = within c.args.first.now.items c.args.calls.now c.args.bytes.now.items c.tear_all.new.file.items c.requires.lawful
    c.requires.replayed (returns-then-pick-ne0-clause-image c) in
    omega (arith, less)

pub returns-else-pick-ne0-clause-no_longer : goal.returns-else-pick-ne0-clause-no_longer
returns-else-pick-ne0-clause-no_longer c =
    let less = within c.args.first.now.items c.args.calls.now c.args.bytes.now.items c.replace.new.file.items c.requires.lawful
    c.requires.replayed (returns-else-pick-ne0-clause-image c) in
    omega (arith, less)
