-- The digits of a sequence spell the numbers that were sent, and only its last byte gives the signal.
use Rattle.c8_terminal.proofs.SentLemmas.{sent_is_read}
use Rattle.c8_terminal.proofs.laws.what_is_sent_is_told.Goals as goal

pub returns : goal.returns
returns c = sent_is_read
