-- Only a WELCOME that was sent opens a link, and its sender had the epoch in it, so both epochs were named.
use Rattle.c8_world.proofs.Reached.{links_name}
use Rattle.c8_world.proofs.laws.open_links_name_both_epochs.Goals as goal

pub returns : goal.returns
returns c = links_name c.peers_are_lawful.ensures
