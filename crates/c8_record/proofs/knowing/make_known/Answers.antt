-- A CUT makes known what its inputs and then the end of its player's list make known.
use Rattle.std.proofs.Common.{[], ◌∙◌, sym, ap, subst, rules}
use Rattle.c8_known.specs.Journal.{Cut}
use Rattle.c8_known.specs.Known.{KnownValue, with_record, Plays}
use Rattle.c8_record.specs.declared.record.Record.{Record as Lent}
use Rattle.c8_record.specs.Lent.{value_of}
use Rattle.c8_record.proofs.knowing.make_known.Goals as goal

-- the run and the end of the list are noted one after the other
pub returns-in-Cut-clause-value : goal.returns-in-Cut-clause-value
returns-in-Cut-clause-value c =
    let can = rw c.in-Cut.is at c.requires in
    let plays = subst (λ (k : KnownValue). Plays k c.in-Cut.player.number) can.known can.allowed.plays in
    let end = Cut c.in-Cut.player.number c.in-Cut.length c.in-Cut.length [] in
    c.cut.ensures.value ∙ ap (λ (k : KnownValue). with_record k end) c.take-in-Cut.ensures.value
    ∙ sym (c.a_cut_is_a_run_and_an_end.ensures c.args.known.now c.in-Cut.player.number c.in-Cut.length c.in-Cut.start c.in-Cut.length _ plays)
    ∙ ap (λ (lent : Lent). with_record c.args.known.now (value_of lent)) (sym c.in-Cut.is)

-- what is wrong here is refused at once
pub returns-in-Freeze-clause-value : goal.returns-in-Freeze-clause-value
returns-in-Freeze-clause-value c = search rules
