-- Found is the oldest of the events at the places so far, if one waits there.
use Rattle.c8_embed.specs.Events.{FoundBelow}
use Rattle.c8_embed.proofs.events.Events.oldest.Given as goal

abbrev pub invariant-loop-place : goal.invariant-loop-place
invariant-loop-place l = record { found : FoundBelow l.self l.place l.found }
