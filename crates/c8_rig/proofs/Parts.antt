-- Where a note of a log stands in its player's part.
use Rattle.std.proofs.Common.{◌≡◌, ◌<◌, ◌≤◌, ◌+◌, ℕ, zero, suc, List, [], ◌∷◌, length, take, set, Some, inl, inr, refl, sym, ap, subst, ◌∙◌, arith}
use Rattle.std.specs.Prelude.{slice_index_or}
use Rattle.std.specs.List.{slice_get}
use Rattle.std.proofs.lemmas.List.{set-get_or}
use Rattle.std.proofs.lemmas.Bool.{cases_eq, eq-eqb, ne_eqb}
use Rattle.c8_world.specs.World.{player_of}
use Rattle.c8_rig.specs.Log.{NoteValue, part_of}
use Rattle.c8_rig.specs.Tokens.{EntryValue}

abbrev place : ℕ → List NoteValue → ℕ → ℕ
place p log i = length (part_of p (take i log))

pub part_at : (p : ℕ) (log : List NoteValue) (i : ℕ) (note : NoteValue) → slice_get log i ≡ Some note → player_of note.act ≡ p
    → slice_get (part_of p log) (place p log i) ≡ Some note
part_at p [] i note e own = absurd cc
part_at p (n ∷ log) zero note e own = rw (eq-eqb (player_of n.act) p
    (let same : n ≡ note = cc in ap (λ (x : NoteValue). player_of x.act) same ∙ own)) e
part_at p (n ∷ log) (suc i) note e own =
    elim (cases_eq (player_of n.act) p) [
      | inl same ↦ rw (eq-eqb (player_of n.act) p same) (part_at p log i note e own)
      | inr apart ↦ rw (ne_eqb (player_of n.act) p apart) (part_at p log i note e own)
    ]

-- ---- the entries, one after another

abbrev pub ArePartsBelow : List NoteValue → List EntryValue → ℕ → Type 0
ArePartsBelow log entries place = (i : ℕ) (e : EntryValue) → i < place → slice_get entries i ≡ Some e → e.notes ≡ part_of e.player log

pub parts_more : (log : List NoteValue) (entries : List EntryValue) (place : ℕ) (entry : EntryValue) → slice_get entries place ≡ Some entry
    → entry.notes ≡ part_of entry.player log
    → ArePartsBelow log entries place → ArePartsBelow log entries (place + 1)
parts_more log entries place entry there is before i e within at =
    elim (cases_eq i place) [
      | inl same ↦
          let both : Some entry ≡ Some e = sym there ∙ ap (λ (k : ℕ). slice_get entries k) (sym same) ∙ at in
          let this : entry ≡ e = cc in
          subst (λ (x : EntryValue). x.notes ≡ part_of x.player log) this is
      | inr apart ↦ before i e (omega (arith, within, apart)) at
    ]

-- an entry that is written back unchanged
pub written_back : (entries : List EntryValue) (place : ℕ) (entry new : EntryValue) → entry ≡ slice_index_or entries place entry
    → new ≡ entry → set entries place new ≡ entries
written_back entries place entry new at same = ap (λ (e : EntryValue). set entries place e) (same ∙ at) ∙ set-get_or entries place entry

pub take_all : {A : Type 0} (xs : List A) (n : ℕ) → length xs ≤ n → take n xs ≡ xs
take_all [] zero few = refl
take_all [] (suc n) few = refl
take_all (x ∷ xs) zero few = absurd (omega (arith, few))
take_all (x ∷ xs) (suc n) few = ap (λ more. x ∷ more) (take_all xs n (omega (arith, few)))
