-- The word stands in the text if it stands in what is still to be searched.
use Rattle.std.proofs.Common.{◌≡◌, drop}
use Rattle.c8_relay_web.specs.Paths.{contains}
use Rattle.c8_relay_web.proofs.page.contains.Given as goal

abbrev pub invariant-loop-place : goal.invariant-loop-place
invariant-loop-place l = contains l.text l.word ≡ contains (drop l.place l.text) l.word
