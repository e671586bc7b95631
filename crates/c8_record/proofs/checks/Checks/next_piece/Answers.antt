-- Each piece ends where the next one begins, within the 4,548 bytes of the plan.
use Rattle.std.proofs.Common.{◌+◌, ◌∙◌, arith}
use Rattle.c8_record.specs.checked.PieceLaws.{piece_ends, before_within}
use Rattle.c8_record.proofs.checks.Checks.next_piece.Goals as goal

pub part_of-requires : goal.part_of-requires
part_of-requires c =
    omega (
      arith,
      c.before_piece.ensures,
      c.piece_length.ensures.value,
      piece_ends c.args.self.now.count c.requires,
      before_within (c.args.self.now.count + 1) (omega (arith, c.requires)),
    )

pub returns-clause-length : goal.returns-clause-length
returns-clause-length c = c.part_of.ensures.size ∙ c.piece_length.ensures.value
