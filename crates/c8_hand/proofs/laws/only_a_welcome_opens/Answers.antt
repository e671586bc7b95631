-- A HELLO leaves or closes its link and later kinds leave it, so what is open was so before, or this is its WELCOME.
use Rattle.c8_hand.specs.checked.LinkLaws.{opens_by_welcome}
use Rattle.c8_hand.proofs.laws.only_a_welcome_opens.Goals as goal

pub returns : goal.returns
returns c = opens_by_welcome
