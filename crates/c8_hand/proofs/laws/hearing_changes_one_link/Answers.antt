-- Each of the four links is set alone, so a datagram changes the link to its sender and no other.
use Rattle.c8_hand.specs.checked.LinkLaws.{sender_link, other_link}
use Rattle.c8_hand.proofs.laws.hearing_changes_one_link.Goals as goal

pub returns-clause-sender : goal.returns-clause-sender
returns-clause-sender c = sender_link

pub returns-clause-others : goal.returns-clause-others
returns-clause-others c = other_link
