-- A counter has 8 bytes and a tag 16, so a packet is the sealing of one counter and one datagram at most.
use Rattle.std.proofs.Common.{◌≡◌, ℕ, List, ◌++◌, ◌+◌, length, take, drop, replicate, ◌-◌, ◌<◌, ◌≤◌, ◌^◌, zero, suc, ◌∷◌, [], bit_xor}
use Rattle.std.proofs.Common.{slice_set, slice_index_or, refl, sym, ap, ◌∙◌, arith}
use Rattle.std.proofs.lemmas.List.{length-append, length-take-le, drop-replicate}
use Rattle.std.proofs.lemmas.Slice.{take-put_mid, drop-put_mid, drop-append-drop}
use Rattle.std.proofs.Math.Seq.{take-append_seam, drop-append_seam}
use borrow.Rule.Slice.PartMut.{put_mid}
use Rattle.std.proofs.lemmas.Nat.{from_be_bytes-to_be_bytes_8}
use Rattle.std.specs.Int.{w64, to_be_bytes, from_be_bytes}
use Rattle.sha2.proofs.Facts256.{length-sha256}
use Rattle.c8_transport.specs.Hmac.{hmac, xor_each}
use Rattle.c8_transport.specs.Seal.{tag, tagged, counted, sealed}

hmac_length : (key message : List ℕ) → length (hmac key message) ≡ 32
unfolding hmac
hmac_length key message = length-sha256 _

pub tag_length : (key datagram : List ℕ) → length (tag key datagram) ≡ 16
tag_length key datagram = length-take-le 16 (hmac key datagram) (let is = hmac_length key datagram in omega (arith, is))

pub tagged_length : (key bytes : List ℕ) → length (tagged key bytes) ≡ length bytes + 16
tagged_length key bytes = length-append bytes (tag key bytes) ∙ ap (λ (n : ℕ). length bytes + n) (tag_length key bytes)

counted_length : (counter : ℕ) (datagram : List ℕ) → length (counted counter datagram) ≡ length datagram + 8
counted_length counter datagram = length-append datagram (to_be_bytes w64 counter) ∙ ap (λ (n : ℕ). length datagram + n) refl

pub sealed_length : (key : List ℕ) (counter : ℕ) (datagram : List ℕ) → length (sealed key counter datagram) ≡ length datagram + 24
sealed_length key counter datagram =
    let whole = tagged_length key (counted counter datagram) in let inner = counted_length counter datagram in omega (arith, whole, inner)

-- of two lists that begin with parts of one length, equal lists have equal parts
same_front : (one other behind after : List ℕ) → length one ≡ length other → one ++ behind ≡ other ++ after → one ≡ other
same_front one other behind after lengths same =
    sym (take-append_seam one behind) ∙ ap (take (length one)) same ∙ ap (λ (n : ℕ). take n (other ++ after)) lengths ∙ take-append_seam other after

same_back : (one other behind after : List ℕ) → length one ≡ length other → one ++ behind ≡ other ++ after → behind ≡ after
same_back one other behind after lengths same =
    sym (drop-append_seam one behind) ∙ ap (drop (length one)) same ∙ ap (λ (n : ℕ). drop n (other ++ after)) lengths ∙ drop-append_seam other after

one_untagging : (key one other : List ℕ) → tagged key one ≡ tagged key other → one ≡ other
one_untagging key one other same =
    let lengths : length one ≡ length other =
    let total = ap length same in
    let first = tagged_length key one in
    let last = tagged_length key other in
    omega (arith, total, first, last) in
    same_front one other (tag key one) (tag key other) lengths same

module _ (key one other : List ℕ) (first last : ℕ) (same : sealed key first one ≡ sealed key last other) where
  lengths : length one ≡ length other
  lengths =
      let total = ap length same in
      let whole = sealed_length key first one in
      let parts = sealed_length key last other in
      omega (arith, total, whole, parts)

  pub one_datagram : one ≡ other
  one_datagram = same_front one other (to_be_bytes w64 first) (to_be_bytes w64 last) lengths (one_untagging key _ _ same)

  pub one_counter : first < 2 ^ 64 → last < 2 ^ 64 → first ≡ last
  one_counter few fewer =
      sym (from_be_bytes-to_be_bytes_8 first few)
      ∙ ap (from_be_bytes w64) (same_back one other (to_be_bytes w64 first) (to_be_bytes w64 last) lengths (one_untagging key _ _ same))
      ∙ from_be_bytes-to_be_bytes_8 last fewer

pub zeros_behind : (m n : ℕ) → drop m (replicate {A = ℕ} n 0) ≡ replicate (n - m) 0
zeros_behind m n = drop-replicate m n 0

pub mapped_more : (pad i : ℕ) (block : List ℕ) → i < length block
    → slice_set (xor_each pad (take i block) ++ drop i block) i
    (bit_xor (slice_index_or (xor_each pad (take i block) ++ drop i block) i 0) pad) ≡ xor_each pad (take (suc i) block) ++ drop (suc i) block
mapped_more pad i [] few = absurd (omega arith)
mapped_more pad zero (byte ∷ bytes) few = refl
mapped_more pad (suc i) (byte ∷ bytes) few = ap (λ (rest : List ℕ). bit_xor byte pad ∷ rest) (mapped_more pad i bytes (omega arith))

-- the two parts of tagged bytes
pub parts : (key front back bytes : List ℕ) → length back ≡ 16 → front ++ back ≡ tagged key bytes → (front ≡ bytes) × (back ≡ tag key bytes)
parts key front back bytes last same =
    let size : length front ≡ length bytes =
    let total = ap length same in
    let whole = length-append front back in
    let told = tagged_length key bytes in
    omega (arith, total, whole, told, last) in
    (same_front front bytes back (tag key bytes) size same, same_back front bytes back (tag key bytes) size same)

-- ---- a packet that was written to the front of a buffer: the datagram, and 24 bytes behind it

pub behind_length : (key : List ℕ) (counter : ℕ) (bytes : List ℕ) → length (to_be_bytes w64 counter ++ tag key bytes) ≡ 24
behind_length key counter bytes = let whole = tag_length key bytes in
    length-append (to_be_bytes w64 counter) (tag key bytes) ∙ ap (λ (n : ℕ). 8 + n) whole

pub take_written : (datagram front rest behind : List ℕ) (k : ℕ) → front ≡ datagram → length behind ≡ 24
    → take (length datagram + 24) (put_mid (length datagram) k (front ++ rest) behind) ≡ datagram ++ behind
take_written datagram front rest behind k same size =
    let within : length datagram ≤ length (front ++ rest) = let whole = length-append front rest in let one = ap length same in
    omega (arith, whole, one) in
    take-put_mid (length datagram) k (front ++ rest) behind (length datagram + 24) (omega (arith, size)) within
    ∙ ap (λ (bytes : List ℕ). bytes ++ behind) (ap (λ (bytes : List ℕ). take (length datagram) (bytes ++ rest)) same ∙ take-append_seam datagram rest)

pub drop_written : (datagram front out behind : List ℕ) (k : ℕ) → front ≡ datagram → length behind ≡ 24 → k ≡ 24
    → drop (length datagram + 24) (put_mid (length datagram) k (front ++ drop (length datagram) out) behind) ≡ drop (length datagram + 24) out
drop_written datagram front out behind k same size few =
    let rest = drop (length datagram) out in
    let within : length datagram ≤ length (front ++ rest) = let whole = length-append front rest in let one = ap length same in
    omega (arith, whole, one) in
    drop-put_mid (length datagram) k (front ++ rest) behind (length datagram + 24) (omega (arith, few)) within (omega (arith, size, few))
    ∙ ap (λ (bytes : List ℕ). drop (length datagram + 24) (bytes ++ rest)) same
    ∙ drop-append-drop (length datagram) out datagram (length datagram + 24) (omega arith) refl
