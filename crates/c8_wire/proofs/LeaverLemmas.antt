-- FREEZE, FROZEN and CUT: their bytes are those of what they say, and what they say is read again.
use Rattle.std.proofs.Common.{◌≡◌, true, false, ℕ, ◌+◌, ◌-◌, ◌≤◌, List, [], ◌∷◌, ◌++◌, length, drop, slice_index, refl, ap, ◌∙◌, arith}
use Rattle.std.specs.Prelude.{not}
use Rattle.std.proofs.lemmas.List.{drop_all}
use Rattle.std.proofs.lemmas.Bool.Decides.{nat_tests}
use Rattle.byteorder.specs.Endian.{big_bytes}
use Rattle.byteorder.specs.Numbers.{big_number-reads_back}
use Rattle.c8_game.specs.Rules.{most_inputs}
use Rattle.c8_game.specs.declared.wire.WireVersion.{WireVersion}
use Rattle.c8_wire.specs.declared.kinds.DatagramKind.TheVariants as kinds
use Rattle.c8_wire.specs.Seats.{is_within, are_seats}
use Rattle.c8_wire.specs.Packet.{AreBytes, HeadValue, FreezeMessage, IsFreezeMessage, LeaverMessage, IsLeaverMessage, Freeze, AreWords}
use Rattle.c8_wire.specs.Packet.{has_few_stretches}
use Rattle.c8_wire.specs.Spelling.{header_bytes, leaver_bytes, inputs_bytes, run_bytes, body_bytes}
use Rattle.c8_wire.specs.Reading.{number_at, version_at, size_at, run_at, freeze_at, leaver_at}
use Rattle.c8_wire.specs.Refusal.{applies}
use Rattle.c8_wire.specs.checked.NumberLaws.{spelled_at}
use Rattle.c8_wire.proofs.HeadLemmas.{then, byte_here, version_again, HasHead, seated, front_accepted}
use Rattle.c8_wire.proofs.RunLemmas.{IsRunAt, run_shaped, run_here, spelled_run, HasRun, run_again, or_false, counted, paired}
use Rattle.c8_wire.proofs.TableLemmas.{IsAccepted}

-- ---- what is not refused is spelled

-- what the table says of the first bytes of the body
pub record NamesLeaver (bytes : List ℕ) : Type 0 where
  pub from_two : 2 ≤ slice_index bytes 24
  pub to_four : slice_index bytes 24 ≤ 4
  pub reserved : slice_index bytes 25 ≡ 0
  pub inputs : number_at 26 4 bytes ≤ most_inputs

pub record IsFreezeShaped (bytes : List ℕ) : Type 0 where
  pub size : length bytes ≡ 30
  pub names : NamesLeaver bytes

pub record IsLeaverShaped (bytes : List ℕ) : Type 0 where
  pub run : IsRunAt 30 bytes
  pub names : NamesLeaver bytes
  pub within : number_at 30 4 bytes + number_at 34 2 bytes ≤ number_at 26 4 bytes

pub freeze_shaped : (bytes : List ℕ) → length bytes ≡ 24 + size_at bytes → IsAccepted kinds.Freeze bytes → IsFreezeShaped bytes
unfolding applies
freeze_shaped bytes sized a =
    let fixed = a.length in
    let player = a.player in
    let reserved = a.reserved in
    let beyond = a.beyond in
    record {
      size = grind (arith, nat_tests);
      names = record {
        from_two = grind (arith, nat_tests);
        to_four = grind (arith, nat_tests);
        reserved = grind (arith, nat_tests);
        inputs = grind (arith, nat_tests);
      };
    }

pub frozen_shaped : (bytes : List ℕ) → length bytes ≡ 24 + size_at bytes → IsAccepted kinds.Frozen bytes → IsLeaverShaped bytes
unfolding applies
frozen_shaped bytes sized a =
    let misfit = a.length in
    let fixed : 12 ≤ size_at bytes = grind (arith, nat_tests) in
    let player = a.player in
    let reserved = a.reserved in
    let beyond = a.beyond in
    record {
      run = run_shaped 30 (size_at bytes - 12) bytes (omega (arith, sized, fixed)) a.count a.pairs;
      names = record {
        from_two = grind (arith, nat_tests);
        to_four = grind (arith, nat_tests);
        reserved = grind (arith, nat_tests);
        inputs = grind (arith, nat_tests);
      };
      within = grind (arith, nat_tests);
    }

pub cut_shaped : (bytes : List ℕ) → length bytes ≡ 24 + size_at bytes → IsAccepted kinds.Cut bytes → IsLeaverShaped bytes
unfolding applies
cut_shaped bytes sized a =
    let misfit = a.length in
    let fixed : 12 ≤ size_at bytes = grind (arith, nat_tests) in
    let player = a.player in
    let reserved = a.reserved in
    let beyond = a.beyond in
    record {
      run = run_shaped 30 (size_at bytes - 12) bytes (omega (arith, sized, fixed)) a.count a.pairs;
      names = record {
        from_two = grind (arith, nat_tests);
        to_four = grind (arith, nat_tests);
        reserved = grind (arith, nat_tests);
        inputs = grind (arith, nat_tests);
      };
      within = grind (arith, nat_tests);
    }

-- the leaver, the byte 0 and a number of inputs
spelled_leaver : (bytes : List ℕ) (rest : List ℕ) → AreBytes bytes → 30 ≤ length bytes → slice_index bytes 25 ≡ 0 → drop 30 bytes ≡ rest
    → drop 24 bytes ≡ slice_index bytes 24 ∷ 0 ∷ [] ++ (big_bytes 4 (number_at 26 4 bytes) ++ rest)
spelled_leaver bytes rest fits long reserved after =
    let second : drop 25 bytes ≡ 0 ∷ [] ++ drop 26 bytes = byte_here 25 26 bytes refl (omega arith) ∙ ap (λ (n : ℕ). n ∷ drop 26 bytes) reserved in
    then (slice_index bytes 24 ∷ []) (byte_here 24 25 bytes refl (omega arith))
    (then (0 ∷ []) second
    (then (big_bytes 4 (number_at 26 4 bytes)) (spelled_at 26 4 30 bytes refl (omega arith) fits) after))

pub spelled_freeze : (bytes : List ℕ) → AreBytes bytes → IsFreezeShaped bytes
    → drop 24 bytes ≡ body_bytes (version_at bytes) (Freeze (freeze_at bytes))
spelled_freeze bytes fits is = spelled_leaver bytes [] fits (omega (arith, is.size)) is.names.reserved (drop_all 30 bytes (omega (arith, is.size)))

pub spelled_run_of_leaver : (bytes : List ℕ) → AreBytes bytes → IsLeaverShaped bytes
    → drop 24 bytes ≡ leaver_bytes (version_at bytes) (leaver_at bytes)
spelled_run_of_leaver bytes fits is =
    spelled_leaver bytes (run_bytes (version_at bytes) (number_at 30 4 bytes) (run_at 36 bytes)) fits (omega (arith, is.run.long))
    is.names.reserved (spelled_run 30 bytes fits is.run)

pub is_freeze : (bytes : List ℕ) → IsFreezeShaped bytes → IsFreezeMessage (freeze_at bytes)
is_freeze bytes is = record { leaver_from_two = is.names.from_two; leaver_to_four = is.names.to_four; have = is.names.inputs }

pub is_leaver : (bytes : List ℕ) → AreBytes bytes → IsLeaverShaped bytes → IsLeaverMessage (leaver_at bytes)
is_leaver bytes fits is =
    let run = run_here 30 bytes fits is.run in
    record {
      leaver_from_two = is.names.from_two;
      leaver_to_four = is.names.to_four;
      length = is.names.inputs;
      run = record { short = omega (arith, run.many, is.run.short); within = omega (arith, run.many, is.within) };
    }

-- ---- what is spelled is read again

pub record HasFreeze (bytes : List ℕ) (m : FreezeMessage) : Type 0 where
  pub leaver : slice_index bytes 24 ≡ m.leaver
  pub reserved : slice_index bytes 25 ≡ 0
  pub have : number_at 26 4 bytes ≡ m.have

pub freeze_again : (head : HeadValue) (size : ℕ) (m : FreezeMessage) → IsFreezeMessage m
    → HasFreeze (header_bytes head size ++ body_bytes head.version (Freeze m)) m
unfolding number_at
freeze_again head size m is = record { leaver = refl; reserved = refl; have = big_number-reads_back 4 m.have [] (omega (arith, is.have)) }

pub record HasLeaver (bytes : List ℕ) (version : WireVersion) (m : LeaverMessage) : Type 0 where
  pub leaver : slice_index bytes 24 ≡ m.leaver
  pub reserved : slice_index bytes 25 ≡ 0
  pub inputs : number_at 26 4 bytes ≡ m.length
  pub run : HasRun 30 bytes version m.start m.words

pub leaver_again : (head : HeadValue) (size : ℕ) (m : LeaverMessage) → IsLeaverMessage m → AreWords m.words
    → HasLeaver (header_bytes head size ++ leaver_bytes head.version m) head.version m
unfolding number_at
leaver_again head size m is fits =
    let bytes : List ℕ = header_bytes head size ++ leaver_bytes head.version m in
    record {
      leaver = refl;
      reserved = refl;
      inputs = big_number-reads_back 4 m.length (run_bytes head.version m.start m.words) (omega (arith, is.length));
      run = run_again 30 bytes head.version m.start m.words (version_again head.version) refl (omega (arith, is.length, is.run.within))
          (omega (arith, is.run.short)) fits;
    }

pub freeze_values : (bytes : List ℕ) (m : FreezeMessage) → HasFreeze bytes m → freeze_at bytes ≡ m
freeze_values bytes m has = λ i. record { leaver = has.leaver i; have = has.have i }

pub leaver_values : (bytes : List ℕ) (version : WireVersion) (m : LeaverMessage) → HasLeaver bytes version m → leaver_at bytes ≡ m
leaver_values bytes version m has = λ i. record { leaver = has.leaver i; length = has.inputs i; start = has.run.from i; words = has.run.inputs i }

pub length-leaver_bytes : (version : WireVersion) (m : LeaverMessage) → length (leaver_bytes version m) ≡ 12 + length (inputs_bytes version m.words)
length-leaver_bytes version m = omega arith

may_leave : (seat leaver : ℕ) → seat ≡ leaver → 2 ≤ leaver → leaver ≤ 4 → not (is_within 2 4 seat) ≡ false
may_leave seat leaver same from to = grind (arith, nat_tests)

-- no refusal applies to the spelling
pub freeze_accepted : (bytes : List ℕ) (head : HeadValue) (m : FreezeMessage) → are_seats kinds.Freeze head.from head.to ≡ true
    → IsFreezeMessage m → HasHead bytes head 6 → length bytes ≡ 30 → HasFreeze bytes m → IsAccepted kinds.Freeze bytes
unfolding applies
freeze_accepted bytes head m seats message has long body =
    let front = front_accepted kinds.Freeze bytes head 6 has long in
    record {
      short = front.short;
      magic = front.magic;
      version = front.version;
      length = grind (arith, nat_tests, has.sized);
      player = or_false _ _ (may_leave (slice_index bytes 24) m.leaver body.leaver message.leaver_from_two message.leaver_to_four)
          (seated kinds.Freeze bytes head 6 has seats);
      reserved = grind (arith, nat_tests, body.reserved);
      count = refl;
      pairs = refl;
      beyond = grind (arith, nat_tests, body.have, message.have);
    }

pub frozen_accepted : (bytes : List ℕ) (head : HeadValue) (size : ℕ) (m : LeaverMessage) → are_seats kinds.Frozen head.from head.to ≡ true
    → IsLeaverMessage m → AreWords m.words → has_few_stretches head.version m.words ≡ true → HasHead bytes head size
    → length bytes ≡ 24 + size → size ≡ 12 + length (inputs_bytes head.version m.words) → HasLeaver bytes head.version m
    → IsAccepted kinds.Frozen bytes
unfolding applies
frozen_accepted bytes head size m seats message fits room has long sized body =
    let front = front_accepted kinds.Frozen bytes head size has long in
    record {
      short = front.short;
      magic = front.magic;
      version = front.version;
      length = grind (arith, nat_tests, has.sized);
      player = or_false _ _ (may_leave (slice_index bytes 24) m.leaver body.leaver message.leaver_from_two message.leaver_to_four)
          (seated kinds.Frozen bytes head size has seats);
      reserved = grind (arith, nat_tests, body.reserved);
      count = counted kinds.Frozen bytes head.version m.words has.version body.run.count (has.sized ∙ sized) message.run.short room refl;
      pairs = paired kinds.Frozen bytes head.version m.words has.version body.run.count body.run.spelled fits;
      beyond = grind (arith, nat_tests, body.inputs, body.run.from, body.run.count, message.length, message.run.within);
    }

pub cut_accepted : (bytes : List ℕ) (head : HeadValue) (size : ℕ) (m : LeaverMessage) → are_seats kinds.Cut head.from head.to ≡ true
    → IsLeaverMessage m → AreWords m.words → has_few_stretches head.version m.words ≡ true → HasHead bytes head size
    → length bytes ≡ 24 + size → size ≡ 12 + length (inputs_bytes head.version m.words) → HasLeaver bytes head.version m → IsAccepted kinds.Cut bytes
unfolding applies
cut_accepted bytes head size m seats message fits room has long sized body =
    let front = front_accepted kinds.Cut bytes head size has long in
    record {
      short = front.short;
      magic = front.magic;
      version = front.version;
      length = grind (arith, nat_tests, has.sized);
      player = or_false _ _ (may_leave (slice_index bytes 24) m.leaver body.leaver message.leaver_from_two message.leaver_to_four)
          (seated kinds.Cut bytes head size has seats);
      reserved = grind (arith, nat_tests, body.reserved);
      count = counted kinds.Cut bytes head.version m.words has.version body.run.count (has.sized ∙ sized) message.run.short room refl;
      pairs = paired kinds.Cut bytes head.version m.words has.version body.run.count body.run.spelled fits;
      beyond = grind (arith, nat_tests, body.inputs, body.run.from, body.run.count, message.length, message.run.within);
    }
