-- What a journal tells besides inputs: the player's machine, which begins at the last checkpoint that the last opening
-- found, and the journal's checkpoints.
use Rattle.std.specs.Prelude.{ℕ, List}
use Rattle.c8_game.specs.Rules.{Rules}
use Rattle.c8_digest.specs.declared.marks.FrameMark.{FrameMark}
use Rattle.c8_digest.specs.Origin.{Origin}
use Rattle.c8_known.specs.Journal.{Record}
use Rattle.c8_known.specs.Known.{KnownValue, known_of}
use Rattle.c8_known.specs.Confirmed.{confirmed}
use Rattle.c8_record.specs.Checks.{ChecksValue, checks_of, save_bytes, begun_at}
use Rattle.c8_roll.specs.Roll.{marks_since, origin_at}

-- the marks, the checkpoints of the journal, and the bytes that a checkpoint after n confirmed frames saves
pub record Told : Type 0 where
  pub marks : List FrameMark
  pub checks : ChecksValue
  pub saved : ℕ → List ℕ

abbrev pub told_since : Rules → Origin → KnownValue → ChecksValue → Told
told_since rules from k checks = record {
  marks = marks_since rules from k (confirmed k);
  checks = checks;
  saved = λ n. save_bytes (origin_at rules from k n);
}

unfoldable pub told_of : Rules → ℕ → List Record → Told
told_of rules me journal = told_since rules (begun_at rules journal) (known_of rules me journal) (checks_of journal)
