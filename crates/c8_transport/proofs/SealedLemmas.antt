-- What is before the seal of a packet, and that what is sealed opens.
use Rattle.std.proofs.Common.{inl, inr, ◌≡◌, ◌≢◌, ◌≤◌, ◌<◌, ◌^◌, ℕ, ◌+◌, ◌-◌, Bool, true, List, [], ◌∷◌, ◌++◌, length, take, drop, bytes_eq}
use Rattle.std.proofs.Common.{Option, Some, if◌then◌else◌, sym, ap, ◌∙◌, append_assoc, arith}
use Rattle.std.proofs.lemmas.List.{append-nil}
use Rattle.std.proofs.lemmas.List.Concat.{flat_map-append}
use Rattle.std.proofs.lemmas.Nat.{from_be_bytes-to_be_bytes_8}
use Rattle.std.proofs.lemmas.Slice.Eq.{bytes_eq-Decides}
use Rattle.std.proofs.Math.Seq.{take-append_seam, drop-append_seam}
use Rattle.std.specs.Int.{w64, to_be_bytes, from_be_bytes}
use Rattle.c8_transport.specs.Seal.{counted, tag, sealed}
use Rattle.c8_transport.proofs.SealLemmas.{sealed_length}
use Rattle.c8_transport.specs.Wire.{MayTake}
use Rattle.c8_transport.specs.declared.keys.SealKeys.{SealKeys}
use Rattle.c8_transport.specs.Opened.{key_for, IsSealing, datagram_in, counter_in, opened_by, datagram_of, opened}

-- ---- the parts of a sealed packet

module _ (key : List ℕ) (counter : ℕ) (datagram : List ℕ) where
  behind : List ℕ
  behind = to_be_bytes w64 counter ++ tag key (counted counter datagram)

  in_two : sealed key counter datagram ≡ datagram ++ (to_be_bytes w64 counter ++ tag key (counted counter datagram))
  in_two = append_assoc datagram (to_be_bytes w64 counter) (tag key (counted counter datagram))

  front_size : length (sealed key counter datagram) - 24 ≡ length datagram
  front_size = let size = sealed_length key counter datagram in omega (arith, size)

  pub datagram_is : datagram_in (sealed key counter datagram) ≡ datagram
  datagram_is =
      ap (λ (n : ℕ). take n (sealed key counter datagram)) front_size ∙ ap (take (length datagram)) in_two
      ∙ take-append_seam datagram (to_be_bytes w64 counter ++ tag key (counted counter datagram))

  pub counter_is : counter < 2 ^ 64 → counter_in (sealed key counter datagram) ≡ counter
  counter_is few =
      ap (λ (n : ℕ). from_be_bytes w64 (take 8 (drop n (sealed key counter datagram)))) front_size
      ∙ ap (λ (bytes : List ℕ). from_be_bytes w64 (take 8 (drop (length datagram) bytes))) in_two
      ∙ ap (λ (bytes : List ℕ). from_be_bytes w64 (take 8 bytes))
      (drop-append_seam datagram (to_be_bytes w64 counter ++ tag key (counted counter datagram)))
      ∙ ap (from_be_bytes w64) (take-append_seam (to_be_bytes w64 counter) (tag key (counted counter datagram)))
      ∙ from_be_bytes-to_be_bytes_8 counter few

-- ---- one packet

module _ (keys : SealKeys) (packet : List ℕ) (counter : ℕ) (datagram : List ℕ) (is : IsSealing keys packet counter datagram) where
  pub packet_size : length packet ≡ length datagram + 24
  packet_size = ap length is.is ∙ sealed_length is.key counter datagram

  pub front_is : take (length packet - 24) packet ≡ datagram
  front_is = ap datagram_in is.is ∙ datagram_is is.key counter datagram

  pub has_key : key_for keys (take (length packet - 24) packet) ≡ Some is.key
  has_key = ap (key_for keys) front_is ∙ is.has

-- a packet is the sealing of one datagram
pub same_datagram : (keys : SealKeys) (packet : List ℕ) (first last : ℕ) (one other : List ℕ) → IsSealing keys packet first one
    → IsSealing keys packet last other → one ≡ other
same_datagram keys packet first last one other is also = sym (front_is keys packet first one is) ∙ front_is keys packet last other also

-- a packet that the key of its kind opened
pub found : (keys : SealKeys) (packet front key : List ℕ) (counter : ℕ) (datagram : List ℕ) → length packet ≤ 198
    → front ≡ take (length packet - 24) packet → key_for keys front ≡ Some key → packet ≡ sealed key counter datagram
    → IsSealing keys packet counter datagram
found keys packet front key counter datagram few front_is has is =
    let inner : front ≡ datagram = front_is ∙ ap datagram_in is ∙ datagram_is key counter datagram in
    record {
      key = key;
      has = ap (key_for keys) (sym inner) ∙ has;
      few = let size = ap length is in let whole = sealed_length key counter datagram in omega (arith, size, whole, few);
      is = is;
    }

-- and one that it did not
pub not_found : (keys : SealKeys) (packet front key : List ℕ) → front ≡ take (length packet - 24) packet → key_for keys front ≡ Some key
    → ((counter : ℕ) (datagram : List ℕ) → packet ≢ sealed key counter datagram)
    → (counter : ℕ) (datagram : List ℕ) → IsSealing keys packet counter datagram → ⊥
not_found keys packet front key front_is has none counter datagram is =
    let some : Some key ≡ Some is.key = sym has ∙ ap (key_for keys) front_is ∙ has_key keys packet counter datagram is in
    let same : is.key ≡ key = (cc) in
    none counter datagram (is.is ∙ ap (λ (k : List ℕ). sealed k counter datagram) same)

-- ---- the datagrams of packets

one_more : (keys : SealKeys) (before : List (List ℕ)) (packet : List ℕ)
    → opened keys (before ++ packet ∷ []) ≡ opened keys before ++ datagram_of keys packet
one_more keys before packet = flat_map-append (datagram_of keys) before (packet ∷ [])
    ∙ ap (λ (rest : List (List ℕ)). opened keys before ++ rest) (append-nil (datagram_of keys packet))

-- what is sealed opens
sealed_opens : (keys : SealKeys) (key : List ℕ) (counter : ℕ) (datagram : List ℕ) → key_for keys datagram ≡ Some key → counter < 2 ^ 64
    → datagram_of keys (sealed key counter datagram) ≡ datagram ∷ []
sealed_opens keys key counter datagram has few =
    let packet = sealed key counter datagram in
    let same : bytes_eq packet (sealed key (counter_in packet) (datagram_in packet)) ≡ true =
    (bytes_eq-Decides packet (sealed key (counter_in packet) (datagram_in packet))).1
    (sym (ap (λ (n : ℕ). sealed key n (datagram_in packet)) (counter_is key counter datagram few)
    ∙ ap (sealed key counter) (datagram_is key counter datagram))) in
    ap (λ (k : Option (List ℕ)). opened_by k packet) (ap (key_for keys) (datagram_is key counter datagram) ∙ has)
    ∙ ap (λ (b : Bool). if b then datagram_in packet ∷ [] else []) same
    ∙ ap (λ (d : List ℕ). d ∷ []) (datagram_is key counter datagram)

pub may_take : (keys : SealKeys) (before after : List (List ℕ)) (key : List ℕ) (counter : ℕ) (datagram packet : List ℕ)
    → key_for keys datagram ≡ Some key → counter < 2 ^ 64 → packet ≡ sealed key counter datagram
    → MayTake before packet after → MayTake (opened keys before) datagram (opened keys after)
may_take keys before after key counter datagram packet has few is (inl same) = inl (ap (opened keys) same)
may_take keys before after key counter datagram packet has few is (inr more) =
    inr (ap (opened keys) more ∙ one_more keys before packet
    ∙ ap (λ (rest : List (List ℕ)). opened keys before ++ rest) (ap (datagram_of keys) is ∙ sealed_opens keys key counter datagram has few))
