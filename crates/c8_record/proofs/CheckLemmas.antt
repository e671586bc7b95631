-- A piece that may stand, and the bytes with it.
use Rattle.std.proofs.Common.{◌≡◌, inl, inr, ℕ, ◌+◌, ◌<◌, List, ◌++◌, length, take, drop, Bool, true, cond, Option, Some, None, refl, sym}
use Rattle.std.proofs.Common.{ap, subst, ◌∙◌, arith, length-append}
use Rattle.std.specs.Prelude.{◌==◌, option_map, is_some, IfSome}
use Rattle.std.proofs.lemmas.Bool.{cases_eq, and_parts, eqb-true, ltb-true, eq-eqb, ne_eqb}
use Rattle.std.proofs.lemmas.List.{length-take-le, take-append-le, take-append-drop, take_all, drop-drop, append_assoc}
use Rattle.c8_machine.specs.declared.machine.Machine.{Machine}
use Rattle.c8_machine.specs.State.{State, IsState, state}
use Rattle.c8_digest.specs.StateBytes.{state_bytes}
use Rattle.c8_digest.specs.Reading.{state_in}
use Rattle.c8_digest.specs.Marks.{marks_in}
use Rattle.c8_digest.specs.Origin.{origin_of}
use Rattle.c8_record.specs.declared.checks.Checks.{Checks}
use Rattle.c8_record.specs.Checks.{piece_in, before_piece, piece_length, Pieces, bytes_so_far, frames_of, is_next_after, may_take, digest_of}
use Rattle.c8_record.specs.Checks.{MayCheck, origin_in, with_whole}
use Rattle.c8_record.specs.Read.{HasBytes}
use Rattle.c8_record.specs.Seen.{pieces_of, value_of}
use Rattle.c8_record.specs.checked.PieceLaws.{piece_ends, before_within, none_before, all_before, piece_whole}

-- ---- a piece that may stand

abbrev pieces_at : ℕ → ℕ → List ℕ → Option Pieces
pieces_at frames count bytes = Some (record { frames = frames; count = count; bytes = bytes })

next_at : (count started : ℕ) (so_far : List ℕ) (last sure frames piece : ℕ)
    → is_next_after (cond (count == 0) None (pieces_at started count so_far)) last sure frames piece ≡ true
    → (piece < 36) × (piece ≡ count)
next_at count started so_far last sure frames piece may = elim (cases_eq count 0) [
  | inl none ↦
      let first = and_parts _ _ (and_parts _ _ (subst
      (λ (b : Bool). is_next_after (cond b None (pieces_at started count so_far)) last sure frames piece ≡ true) (eq-eqb count 0 none) may)).0 in
      let zero_piece = eqb-true piece 0 first.0 in
      (omega (arith, zero_piece), omega (arith, zero_piece, none))
  | inr some ↦
      let later = and_parts _ _ (and_parts _ _ (subst
      (λ (b : Bool). is_next_after (cond b None (pieces_at started count so_far)) last sure frames piece ≡ true) (ne_eqb count 0 some) may)).0 in
      (ltb-true piece 36 later.0, eqb-true piece count later.1)
]

-- what is so of it
pub record Next (c : Checks) (piece : ℕ) (bytes : List ℕ) : Type 0 where
  pub within : piece < 36
  pub count : piece ≡ c.count
  pub long : length bytes ≡ piece_length piece

pub is_next : (c : Checks) (sure frames piece : ℕ) (bytes : List ℕ) → may_take (value_of c) sure frames piece bytes ≡ true → Next c piece bytes
is_next c sure frames piece bytes may =
    let all = and_parts _ _ may in
    let front = and_parts _ _ all.0 in
    let shape = and_parts _ _ all.1 in
    let place = next_at c.count c.frames (take (before_piece c.count) c.bytes) (frames_of (option_map origin_of c.last)) sure frames piece front.1 in
    record { within = place.0; count = place.1; long = eqb-true (length bytes) (piece_length piece) shape.0 }

so_far_is : (count started : ℕ) (bytes : List ℕ)
    → bytes_so_far (cond (count == 0) None (pieces_at started count (take (before_piece count) bytes))) ≡ take (before_piece count) bytes
so_far_is count started bytes = elim (cases_eq count 0) [
  | inl none ↦ rw (eq-eqb count 0 none) (ap (λ (n : ℕ). take n bytes) (sym (ap before_piece none ∙ none_before)))
  | inr some ↦ rw (ne_eqb count 0 some) refl
]

front_of : (n : ℕ) (xs ys : List ℕ) → length xs ≡ n → take n (xs ++ ys) ≡ xs
front_of n xs ys long = take-append-le n xs ys (omega (arith, long)) ∙ take_all n xs (omega (arith, long))

pub piece_taken : (c : Checks) (frames piece : ℕ) (bytes out : List ℕ) → Next c piece bytes → length c.bytes ≡ 4548
    → out ≡ take (before_piece piece) c.bytes ++ bytes ++ drop (before_piece piece + length bytes) c.bytes
    → cond (piece + 1 == 0) None (pieces_at frames (piece + 1) (take (before_piece (piece + 1)) out))
    ≡ pieces_at frames (piece + 1) (bytes_so_far (pieces_of c) ++ bytes)
piece_taken c frames piece bytes out next long put =
    let before : List ℕ = take (before_piece piece) c.bytes in
    let fits = before_within piece (omega (arith, next.within)) in
    let front = length-take-le (before_piece piece) c.bytes (omega (arith, fits, long)) in
    let all : length (before ++ bytes) ≡ before_piece (piece + 1) =
    omega (arith, length-append before bytes, front, next.long, piece_ends piece next.within) in
    let whole : take (before_piece (piece + 1)) out ≡ before ++ bytes =
    ap (take (before_piece (piece + 1))) put ∙ front_of (before_piece (piece + 1)) (before ++ bytes)
    (drop (before_piece piece + length bytes) c.bytes) all in
    let so_far : before ≡ bytes_so_far (pieces_of c) =
    ap (λ (n : ℕ). take (before_piece n) c.bytes) next.count ∙ sym (so_far_is c.count c.frames c.bytes) in
    rw (ne_eqb (piece + 1) 0 (λ same. omega (arith, same))) (ap (pieces_at frames (piece + 1)) (whole ∙ ap (λ (b : List ℕ). b ++ bytes) so_far))

parted : (a b : ℕ) (xs : List ℕ) → xs ≡ take a xs ++ take b (drop a xs) ++ drop (a + b) xs
parted a b xs =
    sym (take-append-drop a xs) ∙ ap (λ (rest : List ℕ). take a xs ++ rest)
    (sym (take-append-drop b (drop a xs)) ∙ ap (λ (rest : List ℕ). take b (drop a xs) ++ rest) (drop-drop b a xs))
    ∙ sym (append_assoc (take a xs) (take b (drop a xs)) (drop (a + b) xs))

-- a piece that was cut before
pub piece_cut : (c : Checks) → c.count < 36 → length c.bytes ≡ 4548
    → cond (c.count + 1 == 0) None (pieces_at c.frames (c.count + 1) (take (before_piece (c.count + 1)) c.bytes))
    ≡ pieces_at c.frames (c.count + 1) (bytes_so_far (pieces_of c) ++ piece_in c.count c.bytes)
piece_cut c more long =
    let place : ℕ = before_piece c.count in
    let size : ℕ = piece_length c.count in
    let whole : length (take size (drop place c.bytes)) ≡ size = piece_whole c.count c.bytes long more in
    piece_taken c c.frames c.count (piece_in c.count c.bytes) c.bytes (record { within = more; count = refl; long = whole }) long
    (parted place size c.bytes ∙ ap (λ (n : ℕ). take place c.bytes ++ take size (drop place c.bytes) ++ drop (place + n) c.bytes) (sym whole))

-- ---- a whole checkpoint

pub machine_read : (found : Option Machine) (bytes whole : List ℕ) → bytes ≡ whole → IfSome found (λ m. IsState (state m))
    → IfSome found (λ m. state_bytes (state m) ≡ bytes) → IfSome found (λ m. state m ≡ state_in bytes)
    → IfSome found (λ m. HasBytes whole (state m))
machine_read None bytes whole same is spelled told = tt
machine_read (Some m) bytes whole same is spelled told = record { is = is; spelled = spelled ∙ same; told = told ∙ ap state_in same }

-- once all pieces are there, what is under way has all bytes
pub all_bytes : (c : Checks) → c.count ≡ 36 → length c.bytes ≡ 4548 → pieces_of c ≡ pieces_at c.frames c.count c.bytes
all_bytes c all long =
    let whole : take (before_piece c.count) c.bytes ≡ c.bytes =
    take_all (before_piece c.count) c.bytes (omega (arith, ap before_piece all, all_before, long)) in
    rw (ne_eqb c.count 0 (λ none. omega (arith, all, none))) (ap (pieces_at c.frames c.count) whole)

pub may_check : (c : Checks) (frames : ℕ) (digest : List ℕ) (s : State) → c.count ≡ 36 → length c.bytes ≡ 4548 → frames ≡ c.frames
    → digest ≡ digest_of c.bytes → HasBytes (take 4419 c.bytes) s → MayCheck (value_of c) frames digest
may_check c frames digest s all long same is has = record {
  pieces = record { frames = c.frames; count = c.count; bytes = c.bytes };
  under_way = all_bytes c all long;
  all = all;
  same = same;
  digest_is = is;
  machine = s;
  machine_is = has.is;
  spelled = has.spelled;
}

-- what is under way where a digest may stand
pub record IsWhole (c : Checks) (frames : ℕ) (digest : List ℕ) : Type 0 where
  pub all : c.count ≡ 36
  pub same : frames ≡ c.frames
  pub digest_is : digest ≡ digest_of c.bytes
  pub machine : State
  pub machine_is : IsState machine
  pub spelled : state_bytes machine ≡ take 4419 c.bytes

pieces_some : (count started : ℕ) (bytes : List ℕ) (p : Pieces) → cond (count == 0) None (pieces_at started count bytes) ≡ Some p
    → (p.frames ≡ started) × (p.count ≡ count)
pieces_some count started bytes p some = elim (cases_eq count 0) [
  | inl none ↦ let is : None ≡ Some p = subst (λ (b : Bool). cond b None (pieces_at started count bytes) ≡ Some p) (eq-eqb count 0 none)
      some in absurd cc
  | inr more ↦ let is : pieces_at started count bytes ≡ Some p =
      subst (λ (b : Bool). cond b None (pieces_at started count bytes) ≡ Some p) (ne_eqb count 0 more) some in
      let same : record { frames = started; count = count; bytes = bytes } ≡ p = cc in
      (sym (ap (λ (x : Pieces). x.frames) same), sym (ap (λ (x : Pieces). x.count) same))
]

pub is_whole : (c : Checks) (frames : ℕ) (digest : List ℕ) → length c.bytes ≡ 4548 → MayCheck (value_of c) frames digest → IsWhole c frames digest
is_whole c frames digest long may =
    let parts = pieces_some c.count c.frames (take (before_piece c.count) c.bytes) may.pieces may.under_way in
    let all : c.count ≡ 36 = sym parts.1 ∙ may.all in
    let some : pieces_at c.frames c.count c.bytes ≡ Some may.pieces = sym (all_bytes c all long) ∙ may.under_way in
    let pieces : record { frames = c.frames; count = c.count; bytes = c.bytes } ≡ may.pieces = cc in
    let bytes : c.bytes ≡ may.pieces.bytes = ap (λ (x : Pieces). x.bytes) pieces in
    record {
      all = all;
      same = may.same ∙ parts.0;
      digest_is = may.digest_is ∙ ap digest_of (sym bytes);
      machine = may.machine;
      machine_is = may.machine_is;
      spelled = may.spelled ∙ ap (take 4419) (sym bytes);
    }

-- the last one, once it is whole
pub whole_noted : (c : Checks) (machine : Machine) (marks : List ℕ) → c.count ≡ 36 → length c.bytes ≡ 4548
    → HasBytes (take 4419 c.bytes) (state machine) → marks ≡ drop 4420 c.bytes
    → record {
      form = c.form;
      under_way = None;
      last = Some (record { frames = c.frames; machine = state machine; marks = marks_in c.frames marks });
    } ≡ with_whole (value_of c)
whole_noted c machine marks all long has is =
    let some = all_bytes c all long in
    λ i. record {
      form = c.form;
      under_way = None;
      last = (ap Some (λ j. record { frames = c.frames; machine = has.told j; marks = marks_in c.frames (is j) }) ∙ ap origin_in (sym some)) i;
    }

pub some_machine : (found : Option Machine) (bytes : List ℕ) (r : Bool) → r ≡ is_some found → r ≡ true
    → IfSome found (λ m. HasBytes bytes (state m)) → (s : State) × HasBytes bytes s
some_machine None bytes r is some has = absurd cc
some_machine (Some m) bytes r is some has = (state m, has)

pub not_none : (found : Option Machine) (r : Bool) → r ≡ is_some found → (found ≡ None → ⊥) → r ≡ true
not_none None r is some = absurd (some refl)
not_none (Some m) r is some = is
