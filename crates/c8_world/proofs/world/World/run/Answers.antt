-- However the run ended, the world has lived on, so any two moments of its life agree; without a report nothing ran.
use Rattle.std.proofs.Common.{◌<◌, ◌^◌, refl, subst}
use Rattle.c8_game.specs.Rules.{AreInRange}
use Rattle.c8_world.specs.Run.{WorldValue}
use Rattle.c8_world.proofs.LifeLemmas.{lived_none, run_out_first, headline_of}
use Rattle.c8_world.proofs.TurnLemmas.{no_turns}
use Rattle.c8_world.proofs.world.World.run.Goals as goal

pub returns-in-Err-clause-memory : goal.returns-in-Err-clause-memory
returns-in-Err-clause-memory c w holds = run_out_first c.args.self.now.table w c.args.events.now c.new-answers.result.items
    (λ none. cc (c.in-Err.ensures.succeeds none)) c.new-answers.ensures.items holds

pub returns-in-Err-clause-headline : goal.returns-in-Err-clause-headline
returns-in-Err-clause-headline c =
    let range = subst (λ (w : WorldValue). AreInRange w.table.rules) c.self.view_is c.in_range.ensures.rules in
    let few = subst (λ (w : WorldValue). w.table.room < 2 ^ 64) c.self.view_is c.in_range.ensures.room in
    headline_of c.args.self.now.table c.args.self.now c.any_two_moments_agree.ensures range few (record { rules = refl; room = refl })

pub returns-in-Ok-ran-clause-headline : goal.returns-in-Ok-ran-clause-headline
returns-in-Ok-ran-clause-headline c =
    let range = subst (λ (w : WorldValue). AreInRange w.table.rules) c.self.view_is c.in_range.ensures.rules in
    let few = subst (λ (w : WorldValue). w.table.room < 2 ^ 64) c.self.view_is c.in_range.ensures.room in
    headline_of c.args.self.now.table c.run_all-ran.new.self c.any_two_moments_agree.ensures range few c.run_all-ran.ensures.same

pub returns-in-Err-ran-clause-headline : goal.returns-in-Err-ran-clause-headline
returns-in-Err-ran-clause-headline c =
    let range = subst (λ (w : WorldValue). AreInRange w.table.rules) c.self.view_is c.in_range.ensures.rules in
    let few = subst (λ (w : WorldValue). w.table.room < 2 ^ 64) c.self.view_is c.in_range.ensures.room in
    headline_of c.args.self.now.table c.run_all-ran.new.self c.any_two_moments_agree.ensures range few c.run_all-ran.ensures.same

pub returns-in-Err-clause-life_out : goal.returns-in-Err-clause-life_out
returns-in-Err-clause-life_out c = lived_none c.args.self.now c.args.events.now c.new-answers.result.items c.new-answers.ensures.items

pub returns-in-Err-clause-turns_out : goal.returns-in-Err-clause-turns_out
returns-in-Err-clause-turns_out c = no_turns c.args.self.now.table c.args.events.now c.new-answers.result.items c.new-answers.ensures.items
