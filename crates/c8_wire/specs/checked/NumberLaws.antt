-- Checked, not believed: the bytes that a number was read from are its spelling.
use Rattle.std.proofs.Common.{◌≡◌, ℕ, zero, suc, ◌+◌, ◌*◌, ◌^◌, ◌<◌, ◌≤◌, List, [], ◌∷◌, ◌++◌, length, take, drop, sym, ap, ◌∙◌, inl, inr, arith}
use Rattle.std.specs.Int.{byte_at}
use Rattle.std.proofs.Math.Nat.{mod-lt, mod-eq_of_lt}
use Rattle.std.proofs.lemmas.Bool.{cases_lt}
use Rattle.std.proofs.lemmas.List.{append-nil, nil_from_length, take-append-drop, drop-drop, get_or-drop, get_or-take, get_or_past}
use Rattle.std.proofs.lemmas.List.{length-take, length-drop}
use Rattle.std.proofs.lemmas.Nat.{same_from_place}
use Rattle.byteorder.specs.Endian.{big_number, big_from, big_bytes}
use Rattle.byteorder.specs.Numbers.{big_from-cons, big_from-take, big_from-bytes, big_from-lt, length-bytes_high_first}
use Rattle.c8_wire.specs.Packet.{AreBytes}
use Rattle.c8_wire.specs.Reading.{number_at}

pub AreBytes-drop : (n : ℕ) (bytes : List ℕ) → AreBytes bytes → AreBytes (drop n bytes)
AreBytes-drop n bytes h i = rw get_or-drop (h (n + i))

pub AreBytes-take : (n : ℕ) (bytes : List ℕ) → AreBytes bytes → AreBytes (take n bytes)
AreBytes-take n bytes h i =
    elim (cases_lt i n) [
      | inl lt ↦ rw (get_or-take n bytes i 0 lt) (h i)
      | inr le ↦ rw (get_or_past (take n bytes) i 0 (omega (arith, length-take n bytes))) (omega arith)
    ]

AreBytes-rest : (byte : ℕ) (bytes : List ℕ) → AreBytes (byte ∷ bytes) → AreBytes bytes
AreBytes-rest byte bytes h i = h (suc i)

byte_at-lt : (k x : ℕ) → byte_at k x < 256
byte_at-lt zero x = mod-lt x (omega arith)
byte_at-lt (suc k) x = mod-lt _ (omega arith)

AreBytes-big_bytes : (n x : ℕ) → AreBytes (big_bytes n x)
AreBytes-big_bytes zero x i = omega arith
AreBytes-big_bytes (suc n) x zero = byte_at-lt n x
AreBytes-big_bytes (suc n) x (suc i) = AreBytes-big_bytes n x i

-- two lists of bytes with the same length and the same number are equal
same_from_number : (n : ℕ) (xs ys : List ℕ) → length xs ≡ n → length ys ≡ n → AreBytes xs → AreBytes ys → big_number n xs ≡ big_number n ys → xs ≡ ys
same_from_number zero xs ys p q f g e = nil_from_length xs p ∙ sym (nil_from_length ys q)
same_from_number (suc n) [] ys p q f g e = absurd (omega arith)
same_from_number (suc n) (x ∷ xs) [] p q f g e = absurd (omega arith)
same_from_number (suc n) (x ∷ xs) (y ∷ ys) p q f g e =
    let moved : x * 256 ^ n + big_number n xs ≡ y * 256 ^ n + big_number n ys =
    sym (ap (λ (r : ℕ). x * 256 ^ n + r) (big_from-cons 0 n x xs)) ∙ e ∙ ap (λ (r : ℕ). y * 256 ^ n + r) (big_from-cons 0 n y ys) in
    let both = same_from_place x (big_number n xs) y (big_number n ys) (256 ^ n) (big_from-lt 0 n xs (AreBytes-rest x xs f))
    (big_from-lt 0 n ys (AreBytes-rest y ys g)) moved in
    ap (λ (a : ℕ). a ∷ xs) both.0 ∙ ap (λ (r : List ℕ). y ∷ r)
    (same_from_number n xs ys (omega arith) (omega arith) (AreBytes-rest x xs f) (AreBytes-rest y ys g) both.1)

pub big_bytes-big_number : (n : ℕ) (bytes : List ℕ) → n ≤ length bytes → AreBytes bytes → big_bytes n (big_number n bytes) ≡ take n bytes
big_bytes-big_number n bytes long fits =
    let x : ℕ = big_number n bytes in
    let again : big_number n (big_bytes n x) ≡ big_number n (take n bytes) =
    ap (big_from 0 n) (sym (append-nil (big_bytes n x))) ∙ big_from-bytes n x [] ∙ mod-eq_of_lt (big_from-lt 0 n bytes fits)
    ∙ sym (big_from-take 0 n n bytes (omega arith)) in
    same_from_number n (big_bytes n x) (take n bytes) (length-bytes_high_first n x) (omega (arith, length-take n bytes))
    (AreBytes-big_bytes n x) (AreBytes-take n bytes fits) again

-- the bytes from a place on are those of the number there, followed by the rest
pub spelled_at : (place width next : ℕ) (bytes : List ℕ) → place + width ≡ next → next ≤ length bytes → AreBytes bytes
    → drop place bytes ≡ big_bytes width (number_at place width bytes) ++ drop next bytes
unfolding number_at
spelled_at place width next bytes ends long fits =
    let back = big_bytes-big_number width (drop place bytes) (omega (arith, length-drop place bytes)) (AreBytes-drop place bytes fits) in
    let after : drop width (drop place bytes) ≡ drop next bytes = drop-drop width place bytes ∙ ap (λ (k : ℕ). drop k bytes) ends in
    sym (take-append-drop width (drop place bytes)) ∙ ap (λ (front : List ℕ). front ++ drop width (drop place bytes)) (sym back)
    ∙ ap (λ (rest : List ℕ). big_bytes width (big_number width (drop place bytes)) ++ rest) after

-- a number of this many bytes is below its limit
pub number_at-lt : (place width : ℕ) (bytes : List ℕ) → AreBytes bytes → number_at place width bytes < 256 ^ width
unfolding number_at
number_at-lt place width bytes fits = big_from-lt 0 width (drop place bytes) (AreBytes-drop place bytes fits)
