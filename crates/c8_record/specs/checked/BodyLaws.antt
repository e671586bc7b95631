-- Checked, not believed: the spelling of a record reads back, and so do lists of bodies and records.
use Rattle.std.proofs.Common.{◌≡◌, ℕ, zero, suc, ◌*◌, ◌-◌, ◌/◌, ◌%◌, ◌^◌, ◌<◌, ◌≤◌, List, [], ◌∷◌, ◌++◌, length, map, take, drop, ⊎_elim}
use Rattle.std.proofs.Common.{refl, sym, ap, subst, ◌∙◌, arith}
use Rattle.std.specs.Prelude.{slice_index, replicate}
use Rattle.std.specs.List.{All}
use Rattle.std.proofs.Math.Seq.{take-append_seam, drop-append_seam}
use Rattle.std.proofs.lemmas.List.{append_assoc, length-append, length-replicate}
use Rattle.byteorder.specs.Endian.{big_bytes, big_number}
use Rattle.byteorder.specs.Numbers.{big_number-reads_back}
use Rattle.c8_wire.specs.Packet.{AreBytes, AreWords}
use Rattle.c8_wire.specs.Reading.{number_at, words_of}
use Rattle.c8_wire.specs.Spelling.{words_bytes}
use Rattle.c8_wire.specs.checked.WordLaws.{length-spelled_words, words_of-spelled}
use Rattle.c8_known.specs.Journal.{Record, Head, Epoch, Own, Got, Freeze, Leave, Cut, State, Check}
use Rattle.c8_record.specs.declared.record.Record.{Record as Lent}
use Rattle.c8_record.specs.declared.record.Record.TheVariants as lents
use Rattle.c8_wire.specs.Lent.{words}
use Rattle.c8_record.specs.Lent.{value_of, IsComplete}
use Rattle.c8_record.specs.Body.{IsForm, records_of, run_room, Fields, fields_of, field_bytes, body_of, HasSpelling, Spells, run_at}
use Rattle.c8_record.specs.Body.{bytes_at, record_of}
use Rattle.c8_record.specs.checked.CheckLaws.{words_low}

-- ---- fields

zeros_of : List ℕ → List ℕ
zeros_of run = replicate (run_room - length run) 0

after_start : Fields → List ℕ
after_start f = big_bytes 2 (length f.run / 2) ++ f.run ++ zeros_of f.run

number_is : (f : Fields) → f.number < 2 ^ 32 → number_at 2 4 (field_bytes f) ≡ f.number
unfolding number_at after_start zeros_of
number_is f low = big_number-reads_back 4 f.number (big_bytes 4 f.start ++ after_start f) (omega (arith, low))

start_is : (f : Fields) → f.start < 2 ^ 32 → number_at 6 4 (field_bytes f) ≡ f.start
unfolding number_at after_start zeros_of
start_is f low = big_number-reads_back 4 f.start (after_start f) (omega (arith, low))

count_is : (f : Fields) → length f.run ≤ 128 → number_at 10 2 (field_bytes f) ≡ length f.run / 2
unfolding number_at after_start zeros_of
count_is f short = big_number-reads_back 2 (length f.run / 2) (f.run ++ zeros_of f.run) (omega (arith, short))

-- the words of the run
run_is : (f : Fields) (words : List ℕ) → f.run ≡ words_bytes words → length f.run ≤ 128 → AreWords words → run_at (field_bytes f) ≡ words
unfolding zeros_of
run_is f words is short fits =
    let bytes : List ℕ = words_bytes words in
    let long : length bytes ≡ 2 * length words = length-spelled_words words in
    let all : 2 * number_at 10 2 (field_bytes f) ≡ length bytes = omega (arith, count_is f short, ap length is, long) in
    ap (λ (n : ℕ). words_of (take n (f.run ++ zeros_of f.run))) all
    ∙ ap (λ (run : List ℕ). words_of (take (length bytes) (run ++ zeros_of f.run))) is
    ∙ ap words_of (take-append_seam bytes (zeros_of f.run)) ∙ words_of-spelled words fits

-- the bytes of the run
bytes_are : (f : Fields) → length f.run ≤ 128 → length f.run % 2 ≡ 0 → bytes_at (field_bytes f) ≡ f.run
unfolding zeros_of
bytes_are f short even =
    let all : 2 * number_at 10 2 (field_bytes f) ≡ length f.run = omega (arith, count_is f short, even) in
    ap (λ (n : ℕ). take n (f.run ++ zeros_of f.run)) all ∙ take-append_seam f.run (zeros_of f.run)

-- ---- records

room_is : (player form : ℕ) (id : List ℕ) (room : ℕ) → length id ≡ 32 → room < 2 ^ 64
    → number_at 44 8 (field_bytes (fields_of (Head player form id room))) ≡ room
unfolding number_at after_start zeros_of
room_is player form id room long low =
    let rest : List ℕ = zeros_of (id ++ big_bytes 8 room) in
    let there : drop 32 ((id ++ big_bytes 8 room) ++ rest) ≡ big_bytes 8 room ++ rest =
    ap (λ (n : ℕ). drop n ((id ++ big_bytes 8 room) ++ rest)) (sym long) ∙ ap (drop (length id)) (append_assoc id (big_bytes 8 room) rest)
    ∙ drop-append_seam id (big_bytes 8 room ++ rest) in
    ap (big_number 8) there ∙ big_number-reads_back 8 room rest (omega (arith, low))

id_is : (id more : List ℕ) (rest : List ℕ) → length id ≡ 32 → take 32 ((id ++ more) ++ rest) ≡ id
id_is id more rest long = ap (λ (n : ℕ). take n ((id ++ more) ++ rest)) (sym long) ∙ ap (take (length id)) (append_assoc id more rest)
    ∙ take-append_seam id (more ++ rest)

word_is : (player start word : ℕ) → word < 2 ^ 16 → number_at 12 2 (field_bytes (fields_of (Own player start word))) ≡ word
unfolding number_at zeros_of
word_is player start word low = big_number-reads_back 2 word (zeros_of (words_bytes (word ∷ []))) (omega (arith, low))

pub read_again : (r : Record) → HasSpelling r → record_of (body_of r) ≡ r
unfolding record_of body_of
read_again (Head player form id room) has =
    let f : Fields = fields_of (Head player form id room) in
    let first = start_is f has.start in
    let same = id_is id (big_bytes 8 room) (replicate (run_room - length f.run) 0) has.parts.1 in
    let there = room_is player form id room has.parts.1 has.parts.3 in
    λ i. Head player (first i) (same i) (there i)
read_again (Epoch player number form) has =
    let f : Fields = fields_of (Epoch player number form) in
    let counted = number_is f has.number in
    let first = start_is f has.start in
    λ i. Epoch player (counted i) (first i)
read_again (Own player start word) has =
    let from = start_is (fields_of (Own player start word)) has.start in
    let input = word_is player start word has.parts in
    λ i. Own player (from i) (input i)
read_again (Got player start words) has =
    let f : Fields = fields_of (Got player start words) in
    let from = start_is f has.start in
    let inputs = run_is f words refl has.short has.parts.1 in
    λ i. Got player (from i) (inputs i)
read_again (Freeze player) has = refl
read_again (Leave player) has = refl
read_again (Cut player cut start words) has =
    let f : Fields = fields_of (Cut player cut start words) in
    let ends = number_is f has.number in
    let from = start_is f has.start in
    let inputs = run_is f words refl has.short has.parts in
    λ i. Cut player (ends i) (from i) (inputs i)
read_again (State player frames piece bytes) has =
    let f : Fields = fields_of (State player frames piece bytes) in
    let at = number_is f has.number in
    let place = start_is f has.start in
    let bytes = bytes_are f has.short has.parts.0 in
    λ i. State player (at i) (place i) (bytes i)
read_again (Check player frames digest) has =
    let f : Fields = fields_of (Check player frames digest) in
    let at = number_is f has.number in
    let digest = bytes_are f has.short (omega (arith, has.parts.0)) in
    λ i. Check player (at i) (digest i)

pub reads_back : (bytes : List ℕ) (r : Record) → Spells bytes r → record_of bytes ≡ r
reads_back bytes r spells = ap record_of spells.is ∙ read_again r spells.has

pub one_record : (bytes : List ℕ) (r s : Record) → Spells bytes r → Spells bytes s → r ≡ s
one_record bytes r s one other = sym (reads_back bytes r one) ∙ reads_back bytes s other

-- ---- what bytes that spell a record have

kind_of : (r : Record) → (1 ≤ (fields_of r).kind) × ((fields_of r).kind ≤ 9)
kind_of (Head player form id room) = (omega arith, omega arith)
kind_of (Epoch player number form) = (omega arith, omega arith)
kind_of (Own player start word) = (omega arith, omega arith)
kind_of (Got player start words) = (omega arith, omega arith)
kind_of (Freeze player) = (omega arith, omega arith)
kind_of (Leave player) = (omega arith, omega arith)
kind_of (Cut player cut start words) = (omega arith, omega arith)
kind_of (State player frames piece bytes) = (omega arith, omega arith)
kind_of (Check player frames digest) = (omega arith, omega arith)

pub record IsShaped (bytes : List ℕ) : Type 0 where
  pub kind_from : 1 ≤ slice_index bytes 0
  pub kind_to : slice_index bytes 0 ≤ 9
  pub player_from : 1 ≤ slice_index bytes 1
  pub player_to : slice_index bytes 1 ≤ 4
  pub short : number_at 10 2 bytes ≤ 64

pub shaped : (bytes : List ℕ) (r : Record) → Spells bytes r → IsShaped bytes
unfolding body_of
shaped bytes r spells =
    let kind : slice_index bytes 0 ≡ (fields_of r).kind = ap (λ (bs : List ℕ). slice_index bs 0) spells.is in
    let player : slice_index bytes 1 ≡ (fields_of r).player = ap (λ (bs : List ℕ). slice_index bs 1) spells.is in
    let count : number_at 10 2 bytes ≡ length (fields_of r).run / 2 = ap (number_at 10 2) spells.is ∙ count_is (fields_of r) spells.has.short in
    let range = kind_of r in
    record {
      kind_from = omega (arith, kind, range.0);
      kind_to = omega (arith, kind, range.1);
      player_from = omega (arith, player, spells.has.from_one);
      player_to = omega (arith, player, spells.has.to_four);
      short = omega (arith, count, spells.has.short);
    }

-- ---- the spelling of borrowed parts

small_form : (form : ℕ) → IsForm form → form < 2 ^ 32
small_form form is = ⊎_elim (λ (first : form ≡ 0). omega (arith, first)) (λ (second : form ≡ 2). omega (arith, second)) is

pub head_spells : (bytes : List ℕ) (player form : ℕ) (id : List ℕ) (room : ℕ) → bytes ≡ body_of (Head player form id room)
    → 1 ≤ player → player ≤ 4 → IsForm form → length id ≡ 32 → AreBytes id → room < 2 ^ 64 → Spells bytes (Head player form id room)
head_spells bytes player form id room is from to of long fits low = record {
  has = record {
    from_one = from;
    to_four = to;
    number = omega arith;
    start = small_form form of;
    short = omega (arith, long, length-append id (big_bytes 8 room));
    parts = (of, long, fits, low);
  };
  is = is;
}

pub epoch_spells : (bytes : List ℕ) (player number form : ℕ) → bytes ≡ body_of (Epoch player number form) → 1 ≤ player → player ≤ 4
    → number < 2 ^ 32 → IsForm form → Spells bytes (Epoch player number form)
epoch_spells bytes player number form is from to low of = record {
  has = record { from_one = from; to_four = to; number = low; start = small_form form of; short = omega arith; parts = of };
  is = is;
}

pub own_spells : (bytes : List ℕ) (player start word : ℕ) → bytes ≡ body_of (Own player start word)
    → 1 ≤ player → player ≤ 4 → start < 2 ^ 32 → word < 2 ^ 16 → Spells bytes (Own player start word)
own_spells bytes player start word is from to low fits = record {
  has = record { from_one = from; to_four = to; number = omega arith; start = low; short = omega arith; parts = fits };
  is = is;
}

-- the spelling of a run's words
pub got_spells : (bytes : List ℕ) (player start : ℕ) (words : List ℕ) → bytes ≡ body_of (Got player start words)
    → 1 ≤ player → player ≤ 4 → start < 2 ^ 32 → AreWords words → length words ≤ 64 → 1 ≤ length words → Spells bytes (Got player start words)
got_spells bytes player start words is from to low sets few some = record {
  has = record {
    from_one = from;
    to_four = to;
    number = omega arith;
    start = low;
    short = omega (arith, few, length-spelled_words words);
    parts = (some, sets);
  };
  is = is;
}

pub cut_spells : (bytes : List ℕ) (player cut start : ℕ) (words : List ℕ) → bytes ≡ body_of (Cut player cut start words)
    → 1 ≤ player → player ≤ 4 → cut < 2 ^ 32 → start < 2 ^ 32 → AreWords words → length words ≤ 64 → Spells bytes (Cut player cut start words)
cut_spells bytes player cut start words is from to low first sets few = record {
  has = record { from_one = from; to_four = to; number = low; start = first; short = omega (arith, few, length-spelled_words words); parts = sets };
  is = is;
}

pub state_spells : (bytes : List ℕ) (player frames piece : ℕ) (words : List ℕ) → bytes ≡ body_of (State player frames piece (words_bytes words))
    → 1 ≤ player → player ≤ 4 → frames < 2 ^ 32 → piece < 2 ^ 32 → AreWords words → length words ≤ 64
    → Spells bytes (State player frames piece (words_bytes words))
state_spells bytes player frames piece words is from to low place sets few = record {
  has = record {
    from_one = from;
    to_four = to;
    number = low;
    start = place;
    short = omega (arith, few, length-spelled_words words);
    parts = (omega (arith, length-spelled_words words), words_low words);
  };
  is = is;
}

pub check_spells : (bytes : List ℕ) (player frames : ℕ) (words : List ℕ) → bytes ≡ body_of (Check player frames (words_bytes words))
    → 1 ≤ player → player ≤ 4 → frames < 2 ^ 32 → AreWords words → length words ≡ 4 → Spells bytes (Check player frames (words_bytes words))
check_spells bytes player frames words is from to low sets four = record {
  has = record {
    from_one = from;
    to_four = to;
    number = low;
    start = omega arith;
    short = omega (arith, four, length-spelled_words words);
    parts = (omega (arith, four, length-spelled_words words), words_low words);
  };
  is = is;
}

-- the value of a borrowed record with a spelling has what a spelling needs
pub complete : (lent : Lent) → HasSpelling (value_of lent) → IsComplete lent
complete (lents.Head player form id room) has = has.parts.0
complete (lents.Epoch player number form) has = has.parts
complete (lents.Own player start keys) has = tt
complete (lents.Got player start run) has = has.parts.0
complete (lents.Freeze player) has = tt
complete (lents.Leave player) has = tt
complete (lents.Cut player cut start run) has = tt
complete (lents.State player frames piece run) has = tt
complete (lents.Check player frames run) has = let long = has.parts.0 in omega (arith, long, length-spelled_words (words run))

-- if a body spells a record, that record is the value of its borrowed parts
pub spells_lent : (bytes : List ℕ) (lent : Lent) (r : Record) → value_of lent ≡ record_of bytes → Spells bytes r → Spells bytes (value_of lent)
spells_lent bytes lent r is spells = subst (λ (s : Record). Spells bytes s) (sym (is ∙ reads_back bytes r spells)) spells

-- ---- lists of bodies, and of records

pub length_body : (r : Record) → HasSpelling r → length (body_of r) ≡ 143
unfolding body_of zeros_of
length_body r has =
    let f : Fields = fields_of r in
    omega (arith, length-append f.run (zeros_of f.run), length-replicate {A = ℕ} (run_room - length f.run) 0, has.short)

pub bodies_back : (bodies : List (List ℕ)) → All (λ body. Spells body (record_of body)) bodies → map body_of (records_of bodies) ≡ bodies
bodies_back [] all = refl
bodies_back (body ∷ bodies) all =
    let first : body_of (record_of body) ≡ body = sym (all 0 [] (omega arith)).is in
    let rest = bodies_back bodies (λ k d within. all (suc k) d (omega (arith, within))) in
    λ i. first i ∷ rest i

pub records_back : (records : List Record) → All HasSpelling records → records_of (map body_of records) ≡ records
records_back [] all = refl
records_back (r ∷ records) all =
    let first = read_again r (all 0 r (omega arith)) in
    let rest = records_back records (λ k d within. all (suc k) d (omega (arith, within))) in
    λ i. first i ∷ rest i

pub bodies_spell : (records : List Record) → All HasSpelling records → All (λ body. Spells body (record_of body)) (map body_of records)
bodies_spell [] all k d within = absurd (omega (arith, within))
bodies_spell (r ∷ records) all zero d within =
    let has = all 0 r (omega arith) in
    subst (λ (one : Record). Spells (body_of r) one) (sym (read_again r has)) (record { has = has; is = refl })
bodies_spell (r ∷ records) all (suc k) d within =
    bodies_spell records (λ k d within. all (suc k) d (omega (arith, within))) k d (omega (arith, within))
