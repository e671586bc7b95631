-- The entry that the keeper makes next is that of the next player, without notes.
use Rattle.std.proofs.Common.{rules, ◌≡◌, ◌++◌, ◌∷◌, ◌+◌, [], sym, ◌∙◌, ap}
use Rattle.c8_rig.specs.Tokens.{EntryValue}
use Rattle.c8_rig.proofs.Openings.{entry_more}
use Rattle.c8_rig.proofs.ether.Unnamed.open.Goals as goal

pub loop-number-preserved : goal.loop-number-preserved
loop-number-preserved c =
    let new : EntryValue = record { ether = c.in_ok-tokens.keeper.ether; player = c.loop-number.number + 1; notes = [] } in
    let pushed : c.push.new.self.items ≡ c.loop-number.entries.items ++ new ∷ [] = search rules in (
      search rules,
      search rules,
      search rules,
      pushed ∙ ap (λ entries. entries ++ new ∷ []) c.loop-number.invariant.3 ∙ sym (entry_more c.in_ok-tokens.keeper.ether c.loop-number.number),
    )
