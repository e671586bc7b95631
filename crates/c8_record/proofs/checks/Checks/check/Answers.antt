-- All pieces together are the bytes of a machine, so reading it cannot fail and gives the complete checkpoint.
use Rattle.std.proofs.Common.{arith}
use Rattle.c8_record.proofs.CheckLemmas.{is_whole, whole_noted}
use Rattle.c8_record.proofs.checks.Checks.check.Goals as goal

pub unreachable-requires : goal.unreachable-requires
unreachable-requires c =
    let whole = is_whole c.args.self.now c.requires.0 c.requires.1 (omega arith) c.requires.2 in
    c.machine_in.ensures.none c.in_default.is whole.machine whole.machine_is whole.spelled

pub returns-clause-value : goal.returns-clause-value
returns-clause-value c =
    let whole = is_whole c.args.self.now c.requires.0 c.requires.1 (omega arith) c.requires.2 in
    whole_noted c.args.self.now c.in-Some.machine c.marks_in-marks.result whole.all (omega arith) c.in-Some.ensures.found c.marks_in-marks.ensures
