-- An engine that is up to date has all best rows and gets none; in a test it first gives the last ones back.
use Rattle.std.proofs.Common.{◌≡◌, ℕ, List, length, take, ap, sym, subst, ◌∙◌, arith}
use Rattle.c8_game.specs.declared.row.Row.{Row}
use Rattle.c8_known.specs.Journal.{ticks}
use Rattle.c8_peer.specs.Peer.{PeerValue, known_by}
use Rattle.c8_embed.specs.Steps.{IsStepped}
use Rattle.c8_embed.specs.Engine.{EngineValue}
use Rattle.c8_embed.specs.declared.engine.Engine.TheInside.{Inside}
use Rattle.c8_embed.proofs.StepsLemmas.{best_length, ticked}
use Rattle.c8_embed.proofs.EngineLemmas.{told_steps, take_long}
use Rattle.c8_embed.proofs.engine.Engine.step.Goals as goal
use Rattle.c8_embed.proofs.engine.Engine.step.Goals.{then-self-gt0, else-self-gt0+else-self}

-- how far a peer has ticked, by what another name of it knows
ticked_at : {D : Type 0} (here there : PeerValue D) → here ≡ there → ticks here.state.journal ≡ (known_by there).ticks
ticked_at here there same = ticked here.rules here.me here.state.journal ∙ ap (λ (p : PeerValue _). (known_by p).ticks) same

pub returns-then-self-clause-stepped : goal.returns-then-self-clause-stepped
returns-then-self-clause-stepped g c = λ none.
    let told = told_steps (known_by c.self.inside.session.peer) c.args.most c.self.inside.steps.given (c.self.invariant.told c.if-self.true) in
    let here = subst (λ (n : ℕ). IsStepped (known_by c.self.inside.session.peer) c.args.most c.self.inside.steps.given c.self.inside.steps.given n
    0) (sym (c.now-from.ensures ∙ ticked_at c.peer.result.now c.self.inside.session.peer c.peer.ensures)) told in
    subst (λ (e : EngineValue g.row.D.Denot). IsStepped (known_by e.peer) c.args.most e.steps.given e.steps.given c.now-from.result 0)
    c.self.view_is here

pub returns-then-self-clause-tested : goal.returns-then-self-clause-tested
returns-then-self-clause-tested g c =
    let told = told_steps (known_by c.self.inside.session.peer) c.args.most c.self.inside.steps.given (c.self.invariant.told c.if-self.true) in
    let here = subst (λ (n : ℕ). IsStepped (known_by c.self.inside.session.peer) c.args.most c.self.inside.steps.given c.self.inside.steps.given n
    0) (sym (c.now-from.ensures ∙ ticked_at c.peer.result.now c.self.inside.session.peer c.peer.ensures)) told in
    let there = subst (λ (e : EngineValue g.row.D.Denot). IsStepped (known_by e.peer) c.args.most e.steps.given e.steps.given
    c.now-from.result 0) c.self.view_is here in
    let given = c.args.self.now.steps.given in (
      length given,
      subst (λ (rows : List Row). IsStepped (known_by c.args.self.now.peer) c.args.most rows given c.now-from.result 0)
          (sym (take_long given)) there,
    )

pub returns-clause-tested : goal.returns-clause-tested
returns-clause-tested g c =
    let new = c.step-stepped.new.self.given in
    let from = c.step-stepped.result.from in
    let count = c.step-stepped.result.count in
    elim c.if-self-gt0.branch [
      | then-self-gt0 w ↦
          let left = w.take_back.new.self.given in
          let made = subst (λ (i : Inside g.row.D.Denot). IsStepped (known_by i.session.peer) c.args.most i.steps.given new from count)
          w.self-inside-is (rw (sym c.peer-peer.ensures) c.step-stepped.ensures.stepped) in
          let taken = subst (λ (rows : List Row). IsStepped (known_by c.self.inside.session.peer) c.args.most rows new from count)
          w.take_back.ensures.given made in (
            length left,
            subst (λ (e : EngineValue g.row.D.Denot). IsStepped (known_by e.peer) c.args.most (take (length left) e.steps.given)
                new from count) c.self.view_is taken,
          )
      | else-self-gt0+else-self w ↦
          let given = c.self.inside.steps.given in
          let made = subst (λ (i : Inside g.row.D.Denot). IsStepped (known_by i.session.peer) c.args.most i.steps.given new from count)
          w.self-inside-is (rw (sym c.peer-peer.ensures) c.step-stepped.ensures.stepped) in
          let taken = subst (λ (rows : List Row). IsStepped (known_by c.self.inside.session.peer) c.args.most rows new from count)
          (sym (take_long given)) made in (
            length given,
            subst (λ (e : EngineValue g.row.D.Denot). IsStepped (known_by e.peer) c.args.most
                (take (length given) e.steps.given) new from count) c.self.view_is taken,
          )
    ]

pub returns-then-self-clause-counted : goal.returns-then-self-clause-counted
returns-then-self-clause-counted g c =
    let now = c.now-from.ensures ∙ ticked_at c.peer.result.now c.self.inside.session.peer c.peer.ensures in
    let long = ap (λ (rows : List Row). length rows) (c.self.invariant.told c.if-self.true)
    ∙ best_length (known_by c.self.inside.session.peer) (known_by c.self.inside.session.peer).ticks in
    let same : length c.self.inside.steps.given ≡ length c.args.self.now.steps.given =
    ap (λ (e : EngineValue g.row.D.Denot). length e.steps.given) c.self.view_is in
    omega (arith, now, long, same)
