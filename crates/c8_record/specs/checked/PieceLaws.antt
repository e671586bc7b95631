-- Checked, not believed: the pieces of a checkpoint, and the whole of them.
use Rattle.std.proofs.Common.{◌≡◌, inl, inr, ℕ, zero, suc, ◌+◌, ◌-◌, ◌*◌, ◌%◌, ◌^◌, ◌<◌, ◌≤◌, List, [], ◌∷◌, ◌++◌, length, map, take, drop}
use Rattle.std.proofs.Common.{true, Option, Some, None, refl, sym, ap, ◌∙◌, arith, length-append}
use Rattle.std.specs.Prelude.{replicate, slice_index, IfSome}
use Rattle.std.specs.List.{slice_get, flat_map, range_with_len}
use Rattle.std.specs.Int.{to_be_bytes, w16, w64}
use Rattle.std.proofs.lemmas.Bool.{cases_lt, cases_eq, le-leb, lt-leb, eq-eqb, ne_eqb}
use Rattle.std.proofs.lemmas.List.{length-take-le, length-drop, length-replicate, take-take, drop-take, take-append-le, drop-append-le}
use Rattle.std.proofs.lemmas.List.{take-append-drop, take_all, get_or-take, get_or-drop}
use Rattle.std.proofs.Math.Seq.{drop-append_seam}
use Rattle.sha2.specs.Sha256.{sha256}
use Rattle.c8_machine.specs.declared.machine.Stop.{Stop}
use Rattle.c8_machine.specs.declared.machine.Stop.TheVariants.{UnknownInstruction, StackFull, StackEmpty}
use Rattle.c8_machine.specs.State.{State, IsState}
use Rattle.c8_digest.specs.declared.marks.FrameMark.{FrameMark}
use Rattle.c8_digest.specs.StateBytes.{columns, places, waits_byte, stop_byte, rest_bytes, state_bytes}
use Rattle.c8_digest.specs.Reading.{state_in}
use Rattle.c8_digest.specs.Marks.{AreMarksAfter, IsMarkAt, forgotten_after, marks_bytes, marks_in, are_marks}
use Rattle.c8_digest.specs.Origin.{Origin, IsOrigin}
use Rattle.c8_digest.specs.checked.DigestLaws.{digest_length}
use Rattle.c8_digest.proofs.LengthLemmas.{state_long}
use Rattle.c8_digest.proofs.ReadLemmas.{state_again}
use Rattle.c8_digest.proofs.MarkBytesLemmas.{read_again, zeros_again}
use Rattle.c8_wire.specs.Packet.{AreBytes}
use Rattle.c8_record.specs.Checks.{save_bytes, save_length, all_pieces, before_piece, piece_length, piece_in, digest_of, Pieces, ChecksValue}
use Rattle.c8_record.specs.Checks.{origin_in, ends_well, has_shape, MayCheck}

-- ---- where the pieces are

-- where a piece begins and ends
pub piece_ends : (piece : ℕ) → piece < 36 → before_piece piece + piece_length piece ≡ before_piece (piece + 1)
unfolding before_piece piece_length
piece_ends piece within = elim (cases_lt piece 34) [
  | inl early ↦
      rw (le-leb piece 34 (omega (arith, early)))
      (rw (le-leb (piece + 1) 34 (omega (arith, early))) (rw (ne_eqb piece 34 (λ same. omega (arith, early, same))) (omega arith)))
  | inr late ↦ elim (cases_eq piece 34) [
    | inl last ↦ rw last refl
    | inr marks ↦ let is : piece ≡ 35 = omega (arith, within, late, marks) in rw is refl
  ]
]

pub before_within : (piece : ℕ) → piece ≤ 36 → before_piece piece ≤ 4548
unfolding before_piece
before_within piece within = elim (cases_lt 34 piece) [
  | inl late ↦ rw (lt-leb piece 34 late) (omega (arith, within))
  | inr early ↦ rw (le-leb piece 34 early) (omega (arith, early))
]

pub none_before : before_piece 0 ≡ 0
unfolding before_piece
none_before = refl

pub all_before : before_piece 36 ≡ 4548
unfolding before_piece
all_before = refl

record IsSize (size : ℕ) : Type 0 where
  few : size ≤ 128
  even : size % 2 ≡ 0

sized : (piece : ℕ) → IsSize (piece_length piece)
unfolding piece_length
sized piece = elim (cases_eq piece 34) [
  | inl last ↦ rw (eq-eqb piece 34 last) (record { few = omega arith; even = refl })
  | inr other ↦ rw (ne_eqb piece 34 other) (record { few = omega arith; even = refl })
]

-- the length of a piece
pub piece_whole : (piece : ℕ) (bytes : List ℕ) → length bytes ≡ save_length → piece < all_pieces → length (piece_in piece bytes) ≡ piece_length piece
piece_whole piece bytes long within =
    let place : ℕ = before_piece piece in
    let size : ℕ = piece_length piece in
    let left = length-drop place bytes in
    let ends = piece_ends piece within in
    let fits = before_within (piece + 1) (omega (arith, within)) in
    length-take-le size (drop place bytes) (omega (arith, left, long, ends, fits))

take_parts : (a b : ℕ) (xs : List ℕ) → take a xs ++ take b (drop a xs) ≡ take (a + b) xs
take_parts a b xs =
    let whole : List ℕ = take (a + b) xs in
    ap (λ (front : List ℕ). front ++ take b (drop a xs)) (sym (take-take a (a + b) xs (omega arith)))
    ∙ ap (λ (rest : List ℕ). take a whole ++ rest) (sym (drop-take a b xs)) ∙ take-append-drop a whole

-- with the next piece there are as many bytes as come before the piece after it
pub pieces_more : (piece : ℕ) (bytes : List ℕ) → length bytes ≡ save_length → piece < all_pieces
    → take (before_piece piece) bytes ++ piece_in piece bytes ≡ take (before_piece (piece + 1)) bytes
pieces_more piece bytes long within =
    take_parts (before_piece piece) (piece_length piece) bytes ∙ ap (λ (n : ℕ). take n bytes) (piece_ends piece within)

-- ---- each is a byte

record AreLow (bytes : List ℕ) : Type 0 where
  low : AreBytes bytes

none_low : AreLow []
none_low = record { low = λ i. omega arith }

more_bytes : (byte : ℕ) (bytes : List ℕ) → byte < 2 ^ 8 → AreBytes bytes → AreBytes (byte ∷ bytes)
more_bytes byte bytes low rest zero = low
more_bytes byte bytes low rest (suc i) = rest i

more_low : {byte : ℕ} {bytes : List ℕ} → byte < 2 ^ 8 → AreLow bytes → AreLow (byte ∷ bytes)
more_low {byte} {bytes} low rest = record { low = more_bytes byte bytes low rest.low }

both_bytes : (xs ys : List ℕ) → AreBytes xs → AreBytes ys → AreBytes (xs ++ ys)
both_bytes [] ys one two i = two i
both_bytes (x ∷ xs) ys one two zero = one zero
both_bytes (x ∷ xs) ys one two (suc i) = both_bytes xs ys (λ j. one (suc j)) two i

both_low : {xs ys : List ℕ} → AreLow xs → AreLow ys → AreLow (xs ++ ys)
both_low {xs} {ys} one two = record { low = both_bytes xs ys one.low two.low }

two_low : (n : ℕ) → AreLow (to_be_bytes w16 n)
two_low n = more_low (omega arith) (more_low (omega arith) none_low)

eight_low : (n : ℕ) → AreLow (to_be_bytes w64 n)
eight_low n =
    more_low (omega arith)
    (more_low (omega arith) (more_low (omega arith)
    (more_low (omega arith) (more_low (omega arith) (more_low (omega arith) (more_low (omega arith) (more_low (omega arith) none_low)))))))

memory_low : (f : ℕ → ℕ) (from n : ℕ) → ((at : ℕ) → f at < 2 ^ 8) → AreLow (map f (range_with_len from n))
memory_low f from zero low = none_low
memory_low f from (suc n) low = more_low (low from) (memory_low f (from + 1) n low)

places_low : (xs : List ℕ) → AreLow (flat_map (to_be_bytes w16) xs)
places_low [] = none_low
places_low (x ∷ xs) = both_low (two_low x) (places_low xs)

rows_low : (f : ℕ → ℕ) (from n : ℕ) → AreLow (flat_map (λ y. to_be_bytes w64 (f y)) (range_with_len from n))
rows_low f from zero = none_low
rows_low f from (suc n) = both_low (eight_low (f from)) (rows_low f (from + 1) n)

zeros_low : (n : ℕ) → AreLow (replicate n 0)
zeros_low zero = none_low
zeros_low (suc n) = more_low (omega arith) (zeros_low n)

waits_low : (waits : Option ℕ) → IfSome waits (λ x. x < 16) → waits_byte waits < 2 ^ 8
waits_low None low = omega arith
waits_low (Some x) low = omega (arith, low)

stop_low : (stop : Option Stop) → stop_byte stop < 2 ^ 8
stop_low None = omega arith
stop_low (Some UnknownInstruction) = omega arith
stop_low (Some StackFull) = omega arith
stop_low (Some StackEmpty) = omega arith

rest_low : (s : State) → IsState s → AreLow (rest_bytes s)
rest_low s is =
    let last = more_low (stop_low s.stop) none_low in
    let waits = more_low (waits_low s.waits is.waits) (both_low (eight_low s.draws) last) in
    more_low is.timer (more_low is.tone (both_low (two_low s.keys) waits))

state_low : (s : State) → IsState s → AreLow (state_bytes s)
unfolding state_bytes
state_low s is =
    let depth : length s.stack < 2 ^ 8 = omega (arith, is.depth) in
    let registers : AreLow s.registers = record { low = is.values } in
    let front = both_low (memory_low s.memory 0 4096 is.bytes) registers in
    let numbers = both_low (both_low front (two_low s.address)) (two_low s.counter) in
    let stack = both_low (both_low numbers (more_low depth none_low)) (places_low (places s.stack)) in
    both_low (both_low stack (rows_low (λ y. columns s.screen y 64) 0 32)) (rest_low s is)

-- marks of eight bytes each
record AreLong (marks : List FrameMark) : Type 0 where
  long : length (flat_map (λ m. m.mark) marks) ≡ 8 * length marks
  bytes : AreLow (flat_map (λ m. m.mark) marks)

are_long : (marks : List FrameMark) (at : ℕ → ℕ) → ((k : ℕ) (m : FrameMark) → slice_get marks k ≡ Some m → IsMarkAt (at k) m) → AreLong marks
are_long [] at each = record { long = refl; bytes = none_low }
are_long (m ∷ marks) at each =
    let here = each 0 m refl in
    let rest = are_long marks (λ k. at (suc k)) (λ k one there. each (suc k) one there) in
    let mark : AreLow m.mark = record { low = here.bytes } in
    record { long = omega (arith, length-append m.mark (flat_map (λ one. one.mark) marks), here.long, rest.long); bytes = both_low mark rest.bytes }

record IsRoom (marks : List FrameMark) : Type 0 where
  long : length (marks_bytes marks) ≡ 128
  bytes : AreLow (marks_bytes marks)

marks_room : (frames : ℕ) (marks : List FrameMark) → AreMarksAfter frames marks → IsRoom marks
unfolding marks_bytes
marks_room frames marks are =
    let all = are_long marks (λ k. 32 * (forgotten_after frames + k)) are.each in
    let front : List ℕ = flat_map (λ m. m.mark) marks in
    let room : ℕ = 128 - 8 * length marks in
    record {
      long = omega (arith, length-append front (replicate room 0), all.long, are.count, length-replicate room zero);
      bytes = both_low all.bytes (zeros_low room);
    }

-- ---- the bytes of a checkpoint

record IsSave (from : Origin) : Type 0 where
  long : length (save_bytes from) ≡ 4548
  machine : take 4419 (save_bytes from) ≡ state_bytes from.machine
  zero_byte : slice_index (save_bytes from) 4419 ≡ 0
  marks : drop 4420 (save_bytes from) ≡ marks_bytes from.marks

saved : (from : Origin) → IsOrigin from → IsSave from
unfolding save_bytes
saved from is =
    let machine : List ℕ = state_bytes from.machine in
    let one : List ℕ = replicate 1 0 in
    let front : List ℕ = machine ++ one in
    let marks : List ℕ = marks_bytes from.marks in
    let size = state_long from.machine is.machine_is in
    let front_long : length front ≡ 4420 = omega (arith, length-append machine one, size) in
    let ends : drop 4419 (front ++ marks) ≡ one ++ marks =
    drop-append-le 4419 front marks (omega (arith, front_long)) ∙ ap (λ (n : ℕ). drop n front ++ marks) (sym size)
    ∙ ap (λ (rest : List ℕ). rest ++ marks) (drop-append_seam machine one) in
    record {
      long = omega (arith, length-append front marks, front_long, (marks_room from.frames from.marks is.marks_are).long);
      machine = take-append-le 4419 front marks (omega (arith, front_long)) ∙ take-append-le 4419 machine one (omega (arith, size))
          ∙ take_all 4419 machine (omega (arith, size));
      zero_byte = sym (get_or-drop 4419 (front ++ marks) 0 0) ∙ ap (λ (bytes : List ℕ). slice_index bytes 0) ends;
      marks = ap (λ (n : ℕ). drop n (front ++ marks)) (sym front_long) ∙ drop-append_seam front marks;
    }

pub saved_long : (from : Origin) → IsOrigin from → length (save_bytes from) ≡ save_length
saved_long from is = (saved from is).long

-- all bytes of a checkpoint are bytes
pub saved_low : (from : Origin) → IsOrigin from → AreBytes (save_bytes from)
unfolding save_bytes
saved_low from is = (both_low (both_low (state_low from.machine is.machine_is) (zeros_low 1))
    (marks_room from.frames from.marks is.marks_are).bytes).low

-- ---- its pieces

pub piece_long : (from : Origin) (piece : ℕ) → IsOrigin from → piece < all_pieces → length (piece_in piece (save_bytes from)) ≡ piece_length piece
piece_long from piece is within = piece_whole piece (save_bytes from) (saved_long from is) within

before_last : before_piece 34 ≡ 4352
unfolding before_piece
before_last = refl

length_last : piece_length 34 ≡ 68
unfolding piece_length
length_last = refl

before_marks : before_piece 35 ≡ 4420
unfolding before_piece
before_marks = refl

length_marks : piece_length 35 ≡ 128
unfolding piece_length
length_marks = refl

last_ends : (from : Origin) → IsOrigin from → slice_index (piece_in 34 (save_bytes from)) 67 ≡ 0
last_ends from is =
    let bytes : List ℕ = save_bytes from in
    ap (λ (n : ℕ). slice_index (take n (drop (before_piece 34) bytes)) 67) length_last
    ∙ ap (λ (n : ℕ). slice_index (take 68 (drop n bytes)) 67) before_last
    ∙ get_or-take 68 (drop 4352 bytes) 67 0 (omega arith) ∙ get_or-drop 4352 bytes 67 0 ∙ (saved from is).zero_byte

marks_piece : (from : Origin) → IsOrigin from → piece_in 35 (save_bytes from) ≡ marks_bytes from.marks
marks_piece from is =
    let bytes : List ℕ = save_bytes from in
    let all = (marks_room from.frames from.marks is.marks_are).long in
    ap (λ (n : ℕ). take n (drop (before_piece 35) bytes)) length_marks ∙ ap (λ (n : ℕ). take 128 (drop n bytes)) before_marks
    ∙ ap (take 128) (saved from is).marks ∙ take_all 128 (marks_bytes from.marks) (omega (arith, all))

piece_ends_well : (from : Origin) (piece : ℕ) → IsOrigin from → ends_well from.frames piece (piece_in piece (save_bytes from)) ≡ true
piece_ends_well from piece is = elim (cases_eq piece 34) [
  | inl last ↦ rw last (eq-eqb (slice_index (piece_in 34 (save_bytes from)) 67) 0 (last_ends from is))
  | inr other ↦ rw (ne_eqb piece 34 other) (elim (cases_eq piece 35) [
    | inl marks ↦ rw marks (ap (are_marks from.frames) (marks_piece from is) ∙ zeros_again from.frames from.marks is.marks_are)
    | inr neither ↦ rw (ne_eqb piece 35 neither) refl
  ])
]

-- each piece has the right shape
pub piece_fits : (from : Origin) (piece : ℕ) → IsOrigin from → piece < all_pieces
    → has_shape from.frames piece (piece_in piece (save_bytes from)) ≡ true
piece_fits from piece is within =
    rw (eq-eqb (length (piece_in piece (save_bytes from))) (piece_length piece) (piece_long from piece is within)) (piece_ends_well from piece is)

-- ---- all of them

-- all pieces together are the bytes of the checkpoint
pub whole_bytes : (from : Origin) (p : Pieces) → IsOrigin from → p.count ≡ all_pieces
    → p.bytes ≡ take (before_piece p.count) (save_bytes from) → p.bytes ≡ save_bytes from
whole_bytes from p is all so_far =
    so_far ∙ take_all (before_piece p.count) (save_bytes from) (omega (arith, ap before_piece all, all_before, saved_long from is))

-- and give its frames, machine and marks
pub whole_origin : (from : Origin) (p : Pieces) → IsOrigin from → p.frames ≡ from.frames → p.count ≡ all_pieces
    → p.bytes ≡ take (before_piece p.count) (save_bytes from) → origin_in (Some p) ≡ Some from
whole_origin from p is same all so_far =
    let whole = whole_bytes from p is all so_far in
    let save = saved from is in
    let machine : state_in (take 4419 p.bytes) ≡ from.machine =
    ap state_in (ap (take 4419) whole ∙ save.machine) ∙ state_again from.machine is.machine_is in
    let marks : marks_in p.frames (drop 4420 p.bytes) ≡ from.marks =
    ap (λ (n : ℕ). marks_in n (drop 4420 p.bytes)) same ∙ ap (marks_in from.frames) (ap (drop 4420) whole ∙ save.marks)
    ∙ read_again from.frames from.marks is.marks_are in
    λ i. Some (record { frames = same i; machine = machine i; marks = marks i })

-- and their digest is allowed
pub whole_may_check : (c : ChecksValue) (from : Origin) (p : Pieces) → IsOrigin from → c.under_way ≡ Some p → p.frames ≡ from.frames
    → p.count ≡ all_pieces → p.bytes ≡ take (before_piece p.count) (save_bytes from) → MayCheck c p.frames (digest_of p.bytes)
whole_may_check c from p is under_way same all so_far = record {
  pieces = p;
  under_way = under_way;
  all = all;
  same = refl;
  digest_is = refl;
  machine = from.machine;
  machine_is = is.machine_is;
  spelled = sym (ap (take 4419) (whole_bytes from p is all so_far) ∙ (saved from is).machine);
}

-- ---- in a record

-- a piece has an even number of bytes, at most 128
pub saved_even : (from : Origin) (piece : ℕ) → IsOrigin from → piece < all_pieces → length (piece_in piece (save_bytes from)) % 2 ≡ 0
saved_even from piece is within = ap (λ (n : ℕ). n % 2) (piece_long from piece is within) ∙ (sized piece).even

pub saved_few : (from : Origin) (piece : ℕ) → IsOrigin from → piece < all_pieces → length (piece_in piece (save_bytes from)) ≤ 128
saved_few from piece is within = omega (arith, piece_long from piece is within, (sized piece).few)

pub digest_long : (bytes : List ℕ) → length (digest_of bytes) ≡ 8
digest_long bytes = let whole : List ℕ = take 4419 bytes ++ drop 4420 bytes in length-take-le 8 (sha256 whole) (omega (arith, digest_length whole))
