-- A peer counts the ticks of its journal, and these are the ticks that it knows.
use Rattle.std.proofs.Common.{sym, ◌∙◌, ap}
use Rattle.c8_known.specs.Known.{known_of}
use Rattle.c8_world.specs.declared.ends.Standing.{Standing}
use Rattle.c8_world.specs.Ends.{known_at}
use Rattle.c8_world.proofs.ends.Standing.now.Goals as goal

pub returns-in-Held : goal.returns-in-Held
unfolding known_of
returns-in-Held c = c.now.ensures ∙ sym (ap (λ (s : Standing). (known_at s).ticks) c.in-Held.is)
