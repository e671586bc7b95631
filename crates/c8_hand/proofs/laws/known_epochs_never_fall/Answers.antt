-- A HELLO or WELCOME of an older epoch is refused, and no other kind changes a known epoch.
use Rattle.c8_hand.specs.checked.LinkLaws.{known_rises}
use Rattle.c8_hand.proofs.laws.known_epochs_never_fall.Goals as goal

pub returns : goal.returns
returns c = known_rises
