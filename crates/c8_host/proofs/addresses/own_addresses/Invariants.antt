-- What follows the last address found is text, so it can be split there.
use denote.Text.{Utf8}
use denote.Shadow.{shadow}
use Rattle.c8_host.proofs.addresses.own_addresses.Given as goal

-- the last address is text
abbrev pub invariant-loop-line : goal.invariant-loop-line
invariant-loop-line l = (goal.iterator-loop-line).can_next l.line-iterator × (goal.iterator-loop-line).is_finite l.line-iterator
    × shadow (Utf8 l.address)
