-- The number of each refusal of a journal, and the part and the number of each refusal of `audit`, as they are printed.
use Rattle.std.specs.Prelude.{ℕ}
use Rattle.c8_audit.specs.declared.error.JournalError.{JournalError}
use Rattle.c8_audit.specs.declared.error.JournalError.TheVariants.{WrongGame, BadRecord, Memory}
use Rattle.c8_command.specs.declared.refusal.Part.{Part}
use Rattle.c8_command.specs.declared.refusal.Part.TheVariants as parts
use Rattle.c8_game.specs.Errors as games
use Rattle.c8_audit.specs.declared.error.AuditFault.{AuditFault}
use Rattle.c8_audit.specs.declared.error.AuditFault.TheVariants.{Game, Journal, Entered, Checks, Disagree, Journals, Short, Disk}

abbrev pub journal_error_number : JournalError → ℕ
journal_error_number WrongGame = 1
journal_error_number (BadRecord n why) = 3
journal_error_number Memory = 5

abbrev pub audit_part : AuditFault → Part
audit_part (Game error) = parts.Game
audit_part (Journal error) = parts.Open
audit_part Entered = parts.Audit
audit_part Checks = parts.Audit
audit_part Disagree = parts.Audit
audit_part (Journals why) = parts.Audit
audit_part Short = parts.Audit
audit_part (Disk why) = parts.Disk

abbrev pub audit_error_number : AuditFault → ℕ
audit_error_number (Game error) = games.number_of error
audit_error_number (Journal error) = journal_error_number error
audit_error_number Entered = 1
audit_error_number Checks = 2
audit_error_number Disagree = 3
audit_error_number (Journals why) = 4
audit_error_number Short = 5
audit_error_number (Disk why) = 1
