-- The least of the ticks and of all players' reaches is how many frames are confirmed.
use Rattle.std.proofs.Common.{◌≡◌, List, map, ap, subst, ◌∙◌}
use Rattle.c8_known.specs.declared.table.Table.{Table}
use Rattle.c8_known.specs.Known.{KnownValue}
use Rattle.c8_known.specs.Confirmed.{confirmed, IsConfirmed}
use Rattle.c8_known.specs.Tables.{table_value, least_of}
use Rattle.c8_known.proofs.ReachLemmas.{least_confirmed, least_is}
use Rattle.c8_known.proofs.TableLemmas.{all_within}
use Rattle.c8_known.proofs.known.Known.confirmed.Goals as goal

pub least_reach-requires : goal.least_reach-requires
least_reach-requires c = rw c.deref.ensures.value (all_within c.self.inside c.self.invariant.0)

pub returns-clause-value : goal.returns-clause-value
returns-clause-value c =
    subst (λ (k : KnownValue). c.least_reach.result ≡ confirmed k) c.self.view_is
    (c.least_reach.ensures ∙ ap (λ (tables : List Table). least_of (map table_value tables) c.self.inside.ticks) c.deref.ensures.value ∙ least_is _)

pub returns-clause-greatest : goal.returns-clause-greatest
returns-clause-greatest c =
    subst (λ (k : KnownValue). IsConfirmed k c.least_reach.result) c.self.view_is
    (rw (c.least_reach.ensures, c.deref.ensures.value) (least_confirmed _))
