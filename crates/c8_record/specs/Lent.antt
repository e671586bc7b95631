-- What a caller sees of a record that borrows from a body.
use Rattle.std.specs.Prelude.{ℕ, ◌≡◌, ◌<◌, List, length, take, drop}
use Rattle.c8_game.specs.declared.wire.WireVersion.TheVariants as versions
use Rattle.c8_wire.specs.Lent.{version_of, words, spelled}
use Rattle.c8_wire.specs.Spelling.{words_bytes}
use Rattle.c8_known.specs.Journal as journals
use Rattle.c8_record.specs.declared.record.Record.{Record}
use Rattle.c8_record.specs.declared.record.Record.TheVariants as lent
use Rattle.c8_record.specs.Body.{run_place, IsForm, digest_words}

-- the value of the record
abbrev pub value_of : Record → journals.Record
value_of (lent.Head player form id room) = journals.Head player.number form id.now room
value_of (lent.Epoch player number form) = journals.Epoch player.number number form
value_of (lent.Own player start keys) = journals.Own player.number start keys.0
value_of (lent.Got player start run) = journals.Got player.number start (words run)
value_of (lent.Freeze player) = journals.Freeze player.number
value_of (lent.Leave player) = journals.Leave player.number
value_of (lent.Cut player cut start run) = journals.Cut player.number cut start (words run)
value_of (lent.State player frames piece run) = journals.State player.number frames piece (words_bytes (words run))
value_of (lent.Check player frames run) = journals.Check player.number frames (words_bytes (words run))

-- the borrowed parts are slices of the body
abbrev pub IsSliceOf : List ℕ → Record → Type 0
IsSliceOf body (lent.Head player form id room) = id.now ≡ take 32 (drop run_place body)
IsSliceOf body (lent.Epoch player number form) = Unit {0}
IsSliceOf body (lent.Own player start keys) = Unit {0}
IsSliceOf body (lent.Got player start run) = spelled run ≡ take (length (spelled run)) (drop run_place body)
IsSliceOf body (lent.Freeze player) = Unit {0}
IsSliceOf body (lent.Leave player) = Unit {0}
IsSliceOf body (lent.Cut player cut start run) = spelled run ≡ take (length (spelled run)) (drop run_place body)
IsSliceOf body (lent.State player frames piece run) = spelled run ≡ take (length (spelled run)) (drop run_place body)
IsSliceOf body (lent.Check player frames run) = spelled run ≡ take (length (spelled run)) (drop run_place body)

-- its inputs, if it has some, borrow from bytes in version 1, as in every body
abbrev pub IsOfWords : Record → Type 0
IsOfWords (lent.Head player form id room) = Unit {0}
IsOfWords (lent.Epoch player number form) = Unit {0}
IsOfWords (lent.Own player start keys) = Unit {0}
IsOfWords (lent.Got player start run) = version_of run ≡ versions.One
IsOfWords (lent.Freeze player) = Unit {0}
IsOfWords (lent.Leave player) = Unit {0}
IsOfWords (lent.Cut player cut start run) = version_of run ≡ versions.One
IsOfWords (lent.State player frames piece run) = version_of run ≡ versions.One
IsOfWords (lent.Check player frames run) = version_of run ≡ versions.One

-- What a spelling needs: a form is the first or the second, a Got has at least one input, and a Check
-- has the words of a digest.
abbrev pub IsComplete : Record → Type 0
IsComplete (lent.Head player form id room) = IsForm form
IsComplete (lent.Epoch player number form) = IsForm form
IsComplete (lent.Own player start keys) = Unit {0}
IsComplete (lent.Got player start run) = 0 < length (words run)
IsComplete (lent.Freeze player) = Unit {0}
IsComplete (lent.Leave player) = Unit {0}
IsComplete (lent.Cut player cut start run) = Unit {0}
IsComplete (lent.State player frames piece run) = Unit {0}
IsComplete (lent.Check player frames run) = length (words run) ≡ digest_words
