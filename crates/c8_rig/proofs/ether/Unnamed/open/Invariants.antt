-- The first `number` players have an entry each, in order; the keeper knows of these and of an empty log.
use Rattle.std.proofs.Common.{◌≡◌, []}
use Rattle.c8_rig.specs.Tokens.{first_entries}
use Rattle.c8_rig.proofs.ether.Unnamed.open.Given as goal

abbrev pub invariant-loop-number : goal.invariant-loop-number
invariant-loop-number l =
    (l.keeper ≡ record { ether = l.initial.keeper.ether; players = l.number; log = [] })
    × (l.initial.keeper.ether ≡ l.tokens-inside.table.shared.table_id) × (l.tokens-inside.table.shared.table_id.words ≡ 1)
    × (l.entries.items ≡ first_entries l.initial.keeper.ether l.number)
