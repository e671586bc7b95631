-- SHOW and SEEN: their bytes are those of what they say, and what they say is read again.
use Rattle.std.proofs.Common.{◌≡◌, ℕ, zero, suc, ◌+◌, ◌*◌, ◌^◌, ◌<◌, ◌≤◌, true, List, [], ◌∷◌, ◌++◌, length, drop, get_or, Some, refl, sym}
use Rattle.std.proofs.Common.{ap, subst, ◌∙◌, arith}
use Rattle.std.specs.Prelude.{IfSome}
use Rattle.std.specs.List.{slice_get, flat_map}
use Rattle.std.proofs.lemmas.List.{drop_all, drop-drop, length-append, get_or_past}
use Rattle.std.proofs.lemmas.Bool.Decides.{nat_tests}
use Rattle.byteorder.specs.Endian.{big_bytes, big_number}
use Rattle.byteorder.specs.Numbers.{big_number-reads_back}
use Rattle.c8_game.specs.Rules.{most_frames, set_at}
use Rattle.c8_game.specs.declared.row.Keys.{Keys}
use Rattle.c8_game.specs.declared.row.Row.{Row}
use Rattle.c8_game.specs.declared.wire.WireVersion.{WireVersion}
use Rattle.c8_wire.specs.declared.kinds.DatagramKind.TheVariants as kinds
use Rattle.c8_wire.specs.Seats.{are_seats}
use Rattle.c8_wire.specs.Packet.{AreBytes, HeadValue, ShowMessage, IsShowMessage, Show, Seen, IsRow, AreRows}
use Rattle.c8_wire.specs.Spelling.{header_bytes, row_bytes, rows_bytes, show_bytes, body_bytes}
use Rattle.c8_wire.specs.Reading.{number_at, size_at, row_at, rows_at, show_at}
use Rattle.c8_wire.specs.Refusal.{applies}
use Rattle.c8_wire.specs.checked.NumberLaws.{spelled_at, number_at-lt}
use Rattle.c8_wire.proofs.HeadLemmas.{then, HasHead, seated, front_accepted}
use Rattle.c8_wire.proofs.TableLemmas.{IsAccepted}

-- ---- rows, wherever they stand

pub length_of_rows : (count place : ℕ) (bytes : List ℕ) → length (rows_at count place bytes) ≡ count
unfolding rows_at
length_of_rows zero place bytes = refl
length_of_rows (suc count) place bytes = ap suc (length_of_rows count (8 + place) bytes)

pub get-rows_at : (count place i : ℕ) (bytes : List ℕ) → i < count → slice_get (rows_at count place bytes) i ≡ Some (row_at (place + 8 * i) bytes)
unfolding rows_at
get-rows_at zero place i bytes below = absurd (omega arith)
get-rows_at (suc count) place zero bytes below = let here : place ≡ place + 8 * 0 = omega arith in ap (λ (p : ℕ). Some (row_at p bytes)) here
get-rows_at (suc count) place (suc i) bytes below =
    let there : 8 + place + 8 * i ≡ place + 8 * suc i = omega arith in
    get-rows_at count (8 + place) i bytes (omega arith) ∙ ap (λ (p : ℕ). Some (row_at p bytes)) there

sets_fit : (place q : ℕ) (bytes : List ℕ) → AreBytes bytes → set_at (row_at place bytes) q < 2 ^ 16
sets_fit place zero bytes fits = number_at-lt place 2 bytes fits
sets_fit place (suc zero) bytes fits = number_at-lt (2 + place) 2 bytes fits
sets_fit place (suc (suc zero)) bytes fits = number_at-lt (4 + place) 2 bytes fits
sets_fit place (suc (suc (suc zero))) bytes fits = number_at-lt (6 + place) 2 bytes fits
sets_fit place (suc (suc (suc (suc q)))) bytes fits = omega arith

is_row : (place : ℕ) (bytes : List ℕ) → AreBytes bytes → IsRow (row_at place bytes)
is_row place bytes fits = record { four = refl; sets = λ q. sets_fit place q bytes fits }

within_four : (sets : List Keys) (q : ℕ) → length sets ≡ 4 → set_at (record { sets = sets }) 0 < 2 ^ 16
    → set_at (record { sets = sets }) 1 < 2 ^ 16 → set_at (record { sets = sets }) 2 < 2 ^ 16 → set_at (record { sets = sets }) 3 < 2 ^ 16
    → set_at (record { sets = sets }) q < 2 ^ 16
within_four sets zero four a b c d = a
within_four sets (suc zero) four a b c d = b
within_four sets (suc (suc zero)) four a b c d = c
within_four sets (suc (suc (suc zero))) four a b c d = d
within_four sets (suc (suc (suc (suc q)))) four a b c d =
    let past = ap (λ (k : Keys). k.0) (get_or_past sets (suc (suc (suc (suc q)))) (record { 0 = 0 }) (omega (arith, four))) in
    subst (λ (n : ℕ). n < 2 ^ 16) (sym past) (omega arith)

-- four sets that fit are all that a row has
pub row_of_four : (row : Row) → length row.sets ≡ 4 → set_at row 0 < 2 ^ 16 → set_at row 1 < 2 ^ 16 → set_at row 2 < 2 ^ 16
    → set_at row 3 < 2 ^ 16 → IsRow row
row_of_four row four a b c d = record { four = four; sets = λ q. within_four row.sets q four a b c d }

are_rows : (count place : ℕ) (bytes : List ℕ) → AreBytes bytes → AreRows (rows_at count place bytes)
unfolding rows_at
are_rows zero place bytes fits i = tt
are_rows (suc count) place bytes fits zero = is_row place bytes fits
are_rows (suc count) place bytes fits (suc i) = are_rows count (8 + place) bytes fits i

spelled_row : (place : ℕ) (bytes : List ℕ) → AreBytes bytes → place + 8 ≤ length bytes
    → drop place bytes ≡ row_bytes (row_at place bytes) ++ drop (8 + place) bytes
spelled_row place bytes fits long =
    then (big_bytes 2 (number_at place 2 bytes)) (spelled_at place 2 (2 + place) bytes (omega arith) (omega arith) fits)
    (then (big_bytes 2 (number_at (2 + place) 2 bytes)) (spelled_at (2 + place) 2 (4 + place) bytes (omega arith) (omega arith) fits)
    (then (big_bytes 2 (number_at (4 + place) 2 bytes)) (spelled_at (4 + place) 2 (6 + place) bytes (omega arith) (omega arith) fits)
    (spelled_at (6 + place) 2 (8 + place) bytes (omega arith) (omega arith) fits)))

spelled_rows : (count place : ℕ) (bytes : List ℕ) → AreBytes bytes → place + 8 * count ≡ length bytes
    → drop place bytes ≡ rows_bytes (rows_at count place bytes)
unfolding rows_at
spelled_rows zero place bytes fits ends = drop_all place bytes (omega arith)
spelled_rows (suc count) place bytes fits ends =
    then (row_bytes (row_at place bytes)) (spelled_row place bytes fits (omega arith)) (spelled_rows count (8 + place) bytes fits (omega arith))

length-row_bytes : (sets : List Keys) → length (flat_map (λ (keys : Keys). big_bytes 2 keys.0) sets) ≡ 2 * length sets
length-row_bytes [] = refl
length-row_bytes (keys ∷ sets) = omega (arith, length-row_bytes sets)

pub length-rows_bytes : (rows : List Row) → AreRows rows → length (rows_bytes rows) ≡ 8 * length rows
length-rows_bytes [] are = refl
length-rows_bytes (row ∷ rows) are =
    let first : IsRow row = are 0 in
    omega (arith, length-append (row_bytes row) (rows_bytes rows), length-row_bytes row.sets, first.four, length-rows_bytes rows (λ i. are (suc i)))

after : (n place : ℕ) (bytes here : List ℕ) → drop place bytes ≡ here → drop (n + place) bytes ≡ drop n here
after n place bytes here is = let moved : n + place ≡ place + n = omega arith in
    ap (λ (k : ℕ). drop k bytes) moved ∙ sym (drop-drop n place bytes) ∙ ap (drop n) is

-- one row more of those that fit
pub one_row_more : (rows : List Row) (row : Row) → AreRows rows → IsRow row → AreRows (rows ++ row ∷ [])
one_row_more [] row are is zero = is
one_row_more [] row are is (suc i) = tt
one_row_more (first ∷ rows) row are is zero = are 0
one_row_more (first ∷ rows) row are is (suc i) = one_row_more rows row (λ k. are (suc k)) is i

-- four key sets that are spelled are read again
record IsRowAgain (place : ℕ) (bytes rest : List ℕ) (row : Row) : Type 0 where
  same : row_at place bytes ≡ row
  after : drop (8 + place) bytes ≡ rest

row_again : (sets : List Keys) (place : ℕ) (bytes rest : List ℕ) → length sets ≡ 4 → ((q : ℕ) → set_at (record { sets = sets }) q < 2 ^ 16)
    → drop place bytes ≡ flat_map (λ (keys : Keys). big_bytes 2 keys.0) sets ++ rest
    → IsRowAgain place bytes rest (record { sets = sets })
unfolding number_at
row_again [] place bytes rest four fits here = absurd (omega arith)
row_again (a ∷ []) place bytes rest four fits here = absurd (omega arith)
row_again (a ∷ b ∷ []) place bytes rest four fits here = absurd (omega arith)
row_again (a ∷ b ∷ c ∷ []) place bytes rest four fits here = absurd (omega arith)
row_again (a ∷ b ∷ c ∷ d ∷ []) place bytes rest four fits here =
    let at_d : List ℕ = big_bytes 2 d.0 ++ rest in
    let at_c : List ℕ = big_bytes 2 c.0 ++ at_d in
    let at_b : List ℕ = big_bytes 2 b.0 ++ at_c in
    let second : drop (2 + place) bytes ≡ at_b = after 2 place bytes _ here in
    let third : drop (4 + place) bytes ≡ at_c = after 4 place bytes _ here in
    let fourth : drop (6 + place) bytes ≡ at_d = after 6 place bytes _ here in
    let is_a = ap (big_number 2) here ∙ big_number-reads_back 2 a.0 at_b (fits 0) in
    let is_b = ap (big_number 2) second ∙ big_number-reads_back 2 b.0 at_c (fits 1) in
    let is_c = ap (big_number 2) third ∙ big_number-reads_back 2 c.0 at_d (fits 2) in
    let is_d = ap (big_number 2) fourth ∙ big_number-reads_back 2 d.0 rest (fits 3) in
    record {
      same = λ i. record { sets = record { 0 = is_a i } ∷ record { 0 = is_b i } ∷ record { 0 = is_c i } ∷ record { 0 = is_d i } ∷ [] };
      after = after 8 place bytes _ here;
    }
row_again (a ∷ b ∷ c ∷ d ∷ e ∷ sets) place bytes rest four fits here = absurd (omega arith)

rows_again : (rows : List Row) (place : ℕ) (bytes : List ℕ) → AreRows rows → drop place bytes ≡ rows_bytes rows
    → rows_at (length rows) place bytes ≡ rows
unfolding rows_at
rows_again [] place bytes are here = refl
rows_again (row ∷ rows) place bytes are here =
    let first : IsRow row = are 0 in
    let is = row_again row.sets place bytes (rows_bytes rows) first.four first.sets here in
    let others = rows_again rows (8 + place) bytes (λ i. are (suc i)) is.after in
    λ i. is.same i ∷ others i

-- ---- what is not refused is spelled

pub record IsShowShaped (bytes : List ℕ) : Type 0 where
  pub size : length bytes ≡ 30 + 8 * number_at 28 2 bytes
  pub short : number_at 28 2 bytes ≤ 16
  pub within : number_at 24 4 bytes + number_at 28 2 bytes ≤ most_frames

pub show_shaped : (bytes : List ℕ) → length bytes ≡ 24 + size_at bytes → IsAccepted kinds.Show bytes → IsShowShaped bytes
unfolding applies
show_shaped bytes sized a =
    let count = a.count in
    let beyond = a.beyond in
    record { size = grind (arith, nat_tests); short = grind (arith, nat_tests); within = grind (arith, nat_tests) }

pub spelled_show : (version : WireVersion) (bytes : List ℕ) → AreBytes bytes → IsShowShaped bytes
    → drop 24 bytes ≡ body_bytes version (Show (show_at bytes))
spelled_show version bytes fits is =
    let count = number_at 28 2 bytes in
    let long : 30 ≤ length bytes = omega (arith, is.size) in
    let counted : drop 28 bytes ≡ big_bytes 2 (length (rows_at count 30 bytes)) ++ drop 30 bytes =
    spelled_at 28 2 30 bytes refl (omega arith) fits ∙ ap (λ (n : ℕ). big_bytes 2 n ++ drop 30 bytes) (sym (length_of_rows count 30 bytes)) in
    then (big_bytes 4 (number_at 24 4 bytes)) (spelled_at 24 4 28 bytes refl (omega arith) fits)
    (then (big_bytes 2 (length (rows_at count 30 bytes))) counted (spelled_rows count 30 bytes fits (sym is.size)))

pub is_show : (bytes : List ℕ) → AreBytes bytes → IsShowShaped bytes → IsShowMessage (show_at bytes) × AreRows (show_at bytes).rows
is_show bytes fits is =
    let count = length_of_rows (number_at 28 2 bytes) 30 bytes in
    (record { short = omega (arith, count, is.short); within = omega (arith, count, is.within) }, are_rows (number_at 28 2 bytes) 30 bytes fits)

pub record IsSeenShaped (bytes : List ℕ) : Type 0 where
  pub size : length bytes ≡ 28
  pub ack : number_at 24 4 bytes ≤ most_frames

pub seen_shaped : (bytes : List ℕ) → length bytes ≡ 24 + size_at bytes → IsAccepted kinds.Seen bytes → IsSeenShaped bytes
unfolding applies
seen_shaped bytes sized a =
    let fixed = a.length in
    let beyond = a.beyond in
    record { size = grind (arith, nat_tests); ack = grind (arith, nat_tests) }

pub spelled_seen : (version : WireVersion) (bytes : List ℕ) → AreBytes bytes → IsSeenShaped bytes
    → drop 24 bytes ≡ body_bytes version (Seen (number_at 24 4 bytes))
spelled_seen version bytes fits is = then (big_bytes 4 (number_at 24 4 bytes)) (spelled_at 24 4 28 bytes refl (omega (arith, is.size)) fits)
    (drop_all 28 bytes (omega (arith, is.size)))

-- ---- what is spelled is read again

pub record HasShow (bytes : List ℕ) (m : ShowMessage) : Type 0 where
  pub start : number_at 24 4 bytes ≡ m.start
  pub count : number_at 28 2 bytes ≡ length m.rows
  pub rows : rows_at (length m.rows) 30 bytes ≡ m.rows

pub show_again : (head : HeadValue) (size : ℕ) (m : ShowMessage) → IsShowMessage m → AreRows m.rows
    → HasShow (header_bytes head size ++ show_bytes m) m
unfolding number_at
show_again head size m is are =
    record {
      start = big_number-reads_back 4 m.start (big_bytes 2 (length m.rows) ++ rows_bytes m.rows) (omega (arith, is.within));
      count = big_number-reads_back 2 (length m.rows) (rows_bytes m.rows) (omega (arith, is.short));
      rows = rows_again m.rows 30 (header_bytes head size ++ show_bytes m) are refl;
    }

pub show_values : (bytes : List ℕ) (m : ShowMessage) → HasShow bytes m → show_at bytes ≡ m
show_values bytes m has = λ i. record { start = has.start i; rows = (ap (λ (n : ℕ). rows_at n 30 bytes) has.count ∙ has.rows) i }

pub length-show_bytes : (m : ShowMessage) → AreRows m.rows → length (show_bytes m) ≡ 6 + 8 * length m.rows
length-show_bytes m are = omega (arith, length-rows_bytes m.rows are)

pub seen_again : (head : HeadValue) (size ack : ℕ) → ack ≤ most_frames
    → number_at 24 4 (header_bytes head size ++ body_bytes head.version (Seen ack)) ≡ ack
unfolding number_at
seen_again head size ack few = big_number-reads_back 4 ack [] (omega arith)

-- no refusal applies to the spelling
pub show_accepted : (bytes : List ℕ) (head : HeadValue) (size : ℕ) (m : ShowMessage) → are_seats kinds.Show head.from head.to ≡ true
    → IsShowMessage m → HasHead bytes head size → length bytes ≡ 24 + size → size ≡ 6 + 8 * length m.rows → HasShow bytes m
    → IsAccepted kinds.Show bytes
unfolding applies
show_accepted bytes head size m seats message has long sized body =
    let front = front_accepted kinds.Show bytes head size has long in
    record {
      short = front.short;
      magic = front.magic;
      version = front.version;
      length = grind (arith, nat_tests, has.sized);
      player = seated kinds.Show bytes head size has seats;
      reserved = refl;
      count = grind (arith, nat_tests, has.sized, body.count, message.short);
      pairs = refl;
      beyond = grind (arith, nat_tests, body.start, body.count, message.within);
    }

pub seen_accepted : (bytes : List ℕ) (head : HeadValue) (ack : ℕ) → are_seats kinds.Seen head.from head.to ≡ true → ack ≤ most_frames
    → HasHead bytes head 4 → length bytes ≡ 28 → number_at 24 4 bytes ≡ ack → IsAccepted kinds.Seen bytes
unfolding applies
seen_accepted bytes head ack seats few has long body =
    let front = front_accepted kinds.Seen bytes head 4 has long in
    record {
      short = front.short;
      magic = front.magic;
      version = front.version;
      length = grind (arith, nat_tests, has.sized);
      player = seated kinds.Seen bytes head 4 has seats;
      reserved = refl;
      count = refl;
      pairs = refl;
      beyond = grind (arith, nat_tests);
    }
