-- Tables that hold only the empty sets of the delay are what an empty journal makes known.
use Rattle.c8_known.proofs.StartLemmas.{seen_at_start}
use Rattle.c8_known.proofs.known.Known.new.Goals as goal

pub returns-clause-value : goal.returns-clause-value
returns-clause-value c =
    let values = rw (c.players.ensures.value, c.delay-delay.ensures.value) at c.in_ok-tables_of.ensures.values in
    rw (c.delay-delay.ensures.value, c.limit-limit.ensures.value)
    (seen_at_start c.args.game.now c.args.me.number c.in_ok-tables_of.field-0.items values)
