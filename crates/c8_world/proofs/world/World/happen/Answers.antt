-- The event joins the world's life; if memory was refused, the refused opening does, and of any other act nothing.
use Rattle.std.proofs.Common.{refl, ap, sym, ◌∙◌}
use Rattle.c8_world.specs.declared.event.Act.TheVariants.{Open}
use Rattle.c8_world.specs.Events.{act_of}
use Rattle.c8_world.proofs.LifeLemmas.{lived_more, lived_unopened, lived_still, other_act, opening_refused, nothing_refused}
use Rattle.c8_world.proofs.world.World.happen.Goals as goal

pub invariant_of-self : goal.invariant_of-self
invariant_of-self c =
    lived_more c.self.inside.table c.happen.new.self c.self.inside.events.items c.self.inside.answers.items c.args.event c.in-Ok.answer _ _
    c.self.invariant c.happen.ensures.same c.in-Ok.ensures.happened
    c.and-self-inside.ensures c.and-self-inside-in-Ok.ensures

pub invariant_of-self-in-Open : goal.invariant_of-self-in-Open
invariant_of-self-in-Open c =
    let opens = sym c.act.ensures ∙ ap act_of c.in-Open.is in
    lived_unopened c.self.inside.table c.happen.new.self c.self.inside.events.items c.self.inside.answers.items (Open c.in-Open.player)
    c.args.event c.in-Open.player.number _ _
    c.self.invariant c.happen.ensures.same c.in-Err.ensures.memory opens refl c.and-self-inside-in-Open.ensures c.and-self-inside-in-Open-2.ensures

pub invariant_of-self-in_default : goal.invariant_of-self-in_default
invariant_of-self-in_default c =
    lived_still c.self.inside.table c.happen.new.self c.self.inside.events.items c.self.inside.answers.items c.args.event c.self.invariant
    c.happen.ensures.same c.in-Err.ensures.memory
    (λ p e. other_act c.act.result p c.in_default.not-Open (c.act.ensures ∙ e))

pub returns-in-Open-clause-life_out : goal.returns-in-Open-clause-life_out
returns-in-Open-clause-life_out c =
    opening_refused _ c.args.self.now c.args.event c.in-Open.player
    (record {
      table = c.happen.new.self;
      events = c.and-self-inside-in-Open.result.items;
      answers = c.and-self-inside-in-Open-2.result.items;
    }) c.self.view_is (sym c.act.ensures ∙ ap act_of c.in-Open.is)
    c.and-self-inside-in-Open.ensures c.and-self-inside-in-Open-2.ensures

pub returns-in_default-clause-life_out : goal.returns-in_default-clause-life_out
returns-in_default-clause-life_out c =
    nothing_refused _ c.args.self.now c.args.event
    (record { table = c.happen.new.self; events = c.self.inside.events.items; answers = c.self.inside.answers.items }) c.self.view_is
    (λ p e. other_act c.act.result p c.in_default.not-Open (c.act.ensures ∙ e)) refl refl
