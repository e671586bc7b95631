-- None of the players with a lower number is behind.
use Rattle.std.specs.Prelude.{ℕ, ◌<◌, ◌/◌}
use Rattle.c8_embed.specs.Lead.{IsBehind}
use Rattle.c8_embed.proofs.lead.is_ahead.Given as goal

abbrev pub invariant-loop-number : goal.invariant-loop-number
invariant-loop-number g l = record { none : (q : ℕ) → q < l.number → ¬ IsBehind (l.window / 2) l.peer q }
