-- The text spells the game that is asked for, so it is read as that game, or memory runs out.
use Rattle.std.proofs.Common.{inl, inr}
use Rattle.std.proofs.lemmas.Bool.{both_ways}
use Rattle.c8_files.specs.Asked.{rules_of}
use Rattle.c8_files.proofs.text.game_of.Goals.{in-Memory, in_default}
use Rattle.c8_files.proofs.text.game_of.Goals as goal

pub returns-in-Ok-clause-game : goal.returns-in-Ok-clause-game
returns-in-Ok-clause-game c =
    c.one_outcome.ensures.game c.deref.result.now c.in-Ok.game (rules_of c.args.settings.now c.args.program.now) c.in-Ok.ensures.game
    (rw c.deref.ensures.value c.in_ok-text.ensures.text)

pub prove-unreachable-requires : goal.prove-unreachable-requires
prove-unreachable-requires c =
    elim c.in-Err.ensures.refused [
      | inl memory ↦ elim c.match-matches.branch
          [ in-Memory w ↦ both_ways c.match-matches.matches c.if-prove.true w.matches-is | in_default w ↦ w.in_default.not-Memory memory ]
      | inr refused ↦ (c.spelled_or_refused.ensures c.deref.result.now).0
          (rules_of c.args.settings.now c.args.program.now, rw c.deref.ensures.value c.in_ok-text.ensures.text) c.in-Err.error refused
    ]
