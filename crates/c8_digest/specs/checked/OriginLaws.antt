-- Checked, not believed: where a run of the machine begins.
use Rattle.std.proofs.Common.{◌≡◌, ℕ, zero, suc, ◌+◌, ◌*◌, ◌<◌, ◌^◌, List, [], ◌∷◌, length, map, take, drop, Some, refl, sym, subst, ◌∙◌, arith}
use Rattle.std.specs.Prelude.{slice_index}
use Rattle.std.specs.List.{slice_get, range_with_len}
use Rattle.std.proofs.lemmas.List.{length-take, length-drop}
use Rattle.std.proofs.lemmas.List.FromFn.{length-map-range_with_len, get_or-map-range_with_len}
use Rattle.std.proofs.lemmas.Option.{slice_get_within, get_or_from_slice_get}
use Rattle.sha2.specs.Sha256.{sha256}
use Rattle.c8_game.specs.Rules.{Rules, AreInRange}
use Rattle.c8_machine.specs.State.{State, first_state}
use Rattle.c8_machine.proofs.StateLemmas.{first_in}
use Rattle.c8_digest.specs.declared.marks.FrameMark.{FrameMark}
use Rattle.c8_digest.specs.StateBytes.{state_bytes, mark_of}
use Rattle.c8_digest.specs.Marks.{marks_after, forgotten_after, marks_in, IsMarkAt, AreMarksAfter}
use Rattle.c8_digest.specs.Origin.{IsOrigin, first_origin}
use Rattle.c8_digest.specs.checked.DigestLaws.{digest_length, digest_bytes_fit}

-- ---- bytes below a bound

pub take_low : (xs : List ℕ) (n bound : ℕ) → ((i : ℕ) → slice_index xs i < bound) → (i : ℕ) → slice_index (take n xs) i < bound
take_low xs zero bound low i = let one = low 0 in omega (arith, one)
take_low [] (suc n) bound low i = low i
take_low (x ∷ xs) (suc n) bound low zero = low 0
take_low (x ∷ xs) (suc n) bound low (suc i) = take_low xs n bound (λ j. low (suc j)) i

pub drop_low : (xs : List ℕ) (n bound : ℕ) → ((i : ℕ) → slice_index xs i < bound) → (i : ℕ) → slice_index (drop n xs) i < bound
drop_low xs zero bound low i = low i
drop_low [] (suc n) bound low i = low i
drop_low (x ∷ xs) (suc n) bound low i = drop_low xs n bound (λ j. low (suc j)) i

-- ---- marks

-- the mark of a machine, as a mark of a frame
pub mark_is_one : (frame : ℕ) (s : State) → IsMarkAt frame (record { frame = frame; mark = mark_of s })
mark_is_one frame s = record {
  frame_is = refl;
  long = omega (arith, length-take 8 (sha256 (state_bytes s)), digest_length (state_bytes s));
  bytes = take_low (sha256 (state_bytes s)) 8 (2 ^ 8) (digest_bytes_fit (state_bytes s));
}

-- 128 bytes read as marks give marks as they are kept
pub marks_read : (frames : ℕ) (bytes : List ℕ) → length bytes ≡ 128 → ((i : ℕ) → slice_index bytes i < 2 ^ 8)
    → AreMarksAfter frames (marks_in frames bytes)
unfolding marks_in
marks_read frames bytes long low =
    let one : ℕ → FrameMark = λ k. record { frame = 32 * (forgotten_after frames + k); mark = take 8 (drop (8 * k) bytes) } in
    let many = length-map-range_with_len one 0 (marks_after frames) in
    record {
      count = many;
      each = λ k m there.
          let within : k < marks_after frames = omega (arith, many, slice_get_within (map one (range_with_len 0 (marks_after frames))) k m there) in
          let is : one k ≡ m = sym (get_or-map-range_with_len one 0 (marks_after frames) k k m within (omega arith))
          ∙ get_or_from_slice_get (map one (range_with_len 0 (marks_after frames))) k m m there in
          subst (IsMarkAt (32 * (forgotten_after frames + k))) is (record {
            frame_is = refl;
            long = omega (arith, length-take 8 (drop (8 * k) bytes), length-drop (8 * k) bytes, long, within);
            bytes = take_low (drop (8 * k) bytes) 8 (2 ^ 8) (drop_low bytes (8 * k) (2 ^ 8) low);
          });
    }

-- ---- before the first frame

first_mark : (rules : Rules) (k : ℕ) (m : FrameMark) → slice_get (record { frame = 0; mark = mark_of (first_state rules) } ∷ []) k ≡ Some m
    → IsMarkAt (32 * (forgotten_after 0 + k)) m
first_mark rules zero m there = let is : record { frame = 0; mark = mark_of (first_state rules) } ≡ m = cc in
    subst (IsMarkAt 0) is (mark_is_one 0 (first_state rules))
first_mark rules (suc k) m there = absurd cc

pub first_is : (rules : Rules) → AreInRange rules → IsOrigin (first_origin rules)
first_is rules range = record { machine_is = first_in rules range; marks_are = record { count = refl; each = first_mark rules } }
