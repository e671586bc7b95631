-- Joined bytes and decoded bytes are bytes.
use Rattle.std.proofs.Common.{◌≡◌, ℕ, ◌-◌, ◌<◌, ◌^◌, Bool, true, false, cond, List, ◌++◌, length, slice_index, Ok, inl, inr}
use Rattle.std.proofs.lemmas.Bool.{cases_lt}
use Rattle.std.proofs.Math.ListN.{get_or-append}
use Rattle.std.proofs.Math.Seq.{get_or-append_right}
use Rattle.hex.specs.Hex.{decode_of}
use Rattle.hex.proofs.HexLemmas.{decode_of-ok}

bytes_joined : (some more : List ℕ) → ((place : ℕ) → slice_index some place < 2 ^ 8) → ((place : ℕ) → slice_index more place < 2 ^ 8)
    → (place : ℕ) → slice_index (some ++ more) place < 2 ^ 8
bytes_joined some more first second place =
    elim (cases_lt place (length some)) [
      | inl within ↦ rw (get_or-append some more 0 place within) (first place)
      | inr past ↦ rw (get_or-append_right some more place 0 past) (second (place - length some))
    ]

-- the bytes are joined, or what was there stays
pub bytes_grown : (joined : Bool) (some more : List ℕ) → ((place : ℕ) → slice_index some place < 2 ^ 8)
    → ((place : ℕ) → slice_index more place < 2 ^ 8) → (place : ℕ) → slice_index (cond joined (some ++ more) some) place < 2 ^ 8
bytes_grown true some more first second = bytes_joined some more first second
bytes_grown false some more first second = first

pub bytes_decoded : (text bytes : List ℕ) → decode_of text ≡ Ok bytes → (place : ℕ) → slice_index bytes place < 2 ^ 8
bytes_decoded text bytes decoded = (decode_of-ok text bytes decoded).3
