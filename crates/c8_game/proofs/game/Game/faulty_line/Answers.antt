-- Reading the lines fails at the first one with a fault, so without a failure no line has one.
use Rattle.std.proofs.Common.{inl, inr}
use Rattle.c8_game.proofs.game.Game.faulty_line.Goals.{in-Ok, in-Err+in-Memory, in-Err+in_default}
use Rattle.c8_game.proofs.game.Game.faulty_line.Goals as goal

pub returns : goal.returns
returns c = elim c.match-drafted.branch [
  | in-Ok w ↦ rw w.result-is w.in-Ok.ensures.faultless
  | in-Err+in-Memory w ↦ rw w.result-is tt
  | in-Err+in_default w ↦ rw w.result-is (elim w.in-Err.ensures
      [ inl memory ↦ absurd (w.in_default.not-Memory memory) | inr first ↦ (w.in-Err.error, first) ])
]
