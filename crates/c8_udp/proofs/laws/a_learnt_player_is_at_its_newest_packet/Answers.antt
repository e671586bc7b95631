-- The newer place is kept at each packet, so after all of them it is the newest.
use Rattle.std.proofs.Common.{[], None, refl}
use Rattle.c8_udp.specs.declared.contacts.Contact.TheVariants.{Learnt}
use Rattle.c8_udp.proofs.ContactLemmas.{all_more}
use Rattle.c8_udp.proofs.laws.a_learnt_player_is_at_its_newest_packet.Goals as goal

pub returns : goal.returns
returns c places = all_more [] places (Learnt None) refl
