-- Which refusal follows from the verdicts of an audit.
use Rattle.std.specs.Prelude.{Option, Some, None}
use Rattle.c8_game.specs.declared.row.Player.{Player}
use Rattle.c8_audit.specs.declared.error.AuditFault.{AuditFault}
use Rattle.c8_audit.specs.declared.error.AuditFault.TheVariants as faults
use Rattle.c8_audit.specs.declared.fault.Answer.{Answer}
use Rattle.c8_audit.specs.declared.fault.Answer.TheVariants.{Yes, Short, No}
use Rattle.c8_audit.specs.declared.verdict.Verdicts.{Verdicts}

-- The first verdict that is no, in the order of the lines. If none is no, whether one is short.
abbrev pub first_no : Answer → Option Player → Answer → Option AuditFault
first_no (No fault) untrue agree = Some faults.Entered
first_no Yes (Some player) agree = Some faults.Checks
first_no Yes None (No fault) = Some faults.Disagree
first_no Yes None (Short short) = Some faults.Short
first_no Yes None Yes = None
first_no (Short short) (Some player) agree = Some faults.Checks
first_no (Short short) None (No fault) = Some faults.Disagree
first_no (Short short) None (Short other) = Some faults.Short
first_no (Short short) None Yes = Some faults.Short

abbrev pub fault_in : Verdicts → Option AuditFault
fault_in verdicts = first_no verdicts.entered verdicts.untrue verdicts.agree
