-- A SHOW to this seat is judged by its rows; one to the other seat, and every other kind, is NotMine.
use Rattle.std.proofs.Common.{rules}
use Rattle.c8_spectator.proofs.spectator.Spectator.hear_datagram.Goals as goal

-- with this answer a wrong body is refused at once
pub returns-in-Show-clause-answer : goal.returns-in-Show-clause-answer
returns-in-Show-clause-answer c = search rules

pub returns-in_default-clause-answer : goal.returns-in_default-clause-answer
returns-in_default-clause-answer c = search rules
