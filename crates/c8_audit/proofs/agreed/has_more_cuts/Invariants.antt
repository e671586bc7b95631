-- Player 1's journal has each cut of a player with a lower number.
use Rattle.std.proofs.Common.{◌≡◌, ℕ, ◌<◌, ◌≤◌, Some, None}
use Rattle.c8_known.specs.Known.{player_in}
use Rattle.c8_audit.specs.Journals.{cut_in}
use Rattle.c8_audit.specs.Read.{all_seen}
use Rattle.c8_audit.proofs.agreed.has_more_cuts.Given as goal

abbrev pub invariant-loop-number : goal.invariant-loop-number
invariant-loop-number l = (q K : ℕ) → 1 ≤ q → q < l.number → (player_in l.known q).cut ≡ Some K → cut_in (all_seen l.journals) q ≡ None → ⊥
