-- The rows before the first change stay, each frame from there adds its best row, and there is room for every frame.
use Rattle.std.proofs.Common.{◌≡◌, ◌+◌, List, [], ◌∷◌, ◌++◌, length, take, sym, ap, subst, ◌∙◌, arith}
use Rattle.c8_game.specs.declared.row.Row.{Row}
use Rattle.c8_known.specs.Confirmed.{best_rows_below}
use Rattle.c8_peer.specs.Peer.{known_by}
use Rattle.c8_embed.specs.Steps.{StepsValue}
use Rattle.c8_embed.proofs.StepsLemmas.{best_next, best_length, best_take, ticked}
use Rattle.c8_embed.proofs.steps.Steps.step.Goals as goal

pub overflow_sub-now : goal.overflow_sub-now
overflow_sub-now g c =
    let now = c.now.ensures ∙ ticked c.args.peer.now.rules c.args.peer.now.me c.args.peer.now.state.journal in
    let within = c.first_change-from.ensures.ticked in
    omega (arith, now, within)

pub loop-frame-init : goal.loop-frame-init
loop-frame-init g c =
    let k = known_by c.args.peer.now in
    let from = c.first_change-from.result in
    let fits = c.self.invariant.1 in
    let capacity = c.truncate.ensures.capacity in
    record {
      given = c.truncate.ensures.items ∙ subst (λ (s : StepsValue). take from s.given ≡ best_rows_below k from) (sym c.self.view_is)
          c.first_change-from.ensures.same;
      within = omega arith;
      room = ap (λ (s : StepsValue). s.room) c.self.view_is;
      fits = omega (arith, fits, capacity);
    }

pub give-requires : goal.give-requires
give-requires g c =
    let k = known_by c.args.peer.now in
    let long : length c.loop-frame.self-inside.given.items ≡ c.loop-frame.frame =
    ap (λ (rows : List Row). length rows) c.loop-frame.invariant.given ∙ best_length k c.loop-frame.frame in
    let test = c.loop-frame-test.true in
    let now = c.now.ensures ∙ ticked c.args.peer.now.rules c.args.peer.now.me c.args.peer.now.state.journal in
    let within = c.first_change-from.ensures.ticked in
    let count = c.min-count.ensures in
    let room = c.loop-frame.invariant.room in
    let fits = c.loop-frame.invariant.fits in
    let roomy = c.requires.room in
    omega (arith, long, test, now, within, count, room, fits, roomy)

pub loop-frame-preserved : goal.loop-frame-preserved
loop-frame-preserved g c =
    let k = known_by c.args.peer.now in
    let frame = c.loop-frame.frame in
    let test = c.loop-frame-test.true in
    let fits = c.loop-frame.invariant.fits in
    let capacity = c.give.ensures.capacity in
    record {
      given = c.give.ensures.items ∙ ap (λ (rows : List Row). rows ++ c.best_row.result ∷ []) c.loop-frame.invariant.given
          ∙ ap (λ (r : Row). best_rows_below k frame ++ r ∷ []) c.best_row.ensures ∙ sym (best_next k frame);
      within = omega (arith, test);
      room = c.loop-frame.invariant.room;
      fits = omega (arith, fits, capacity);
    }

pub invariant_of-self : goal.invariant_of-self
invariant_of-self g c =
    let long : length c.loop-frame.self-inside.given.items ≡ c.loop-frame.frame =
    ap (λ (rows : List Row). length rows) c.loop-frame.invariant.given ∙ best_length (known_by c.args.peer.now) c.loop-frame.frame in
    let within = c.loop-frame.invariant.within in
    let now = c.now.ensures ∙ ticked c.args.peer.now.rules c.args.peer.now.me c.args.peer.now.state.journal in
    let from = c.first_change-from.ensures.ticked in
    let count = c.min-count.ensures in
    let room = c.loop-frame.invariant.room in
    let was : c.self.inside.room ≡ c.args.self.now.room = ap (λ (s : StepsValue). s.room) c.self.view_is in
    let low = c.self.invariant.2 in
    let roomy = c.requires.room in
    (omega (arith, long, within, now, from, count, room, roomy), c.loop-frame.invariant.fits, omega (arith, room, was, low))

pub returns-clause-stepped : goal.returns-clause-stepped
returns-clause-stepped g c =
    let k = known_by c.args.peer.now in
    let from = c.first_change-from.ensures.ticked in
    let now = c.now.ensures ∙ ticked c.args.peer.now.rules c.args.peer.now.me c.args.peer.now.state.journal in
    let count = c.min-count.ensures in
    let over = c.loop-frame-test.false in
    let within = c.loop-frame.invariant.within in
    let end : c.loop-frame.frame ≡ c.first_change-from.result + c.min-count.result = omega (arith, over, within) in
    record {
      first = c.first_change-from.ensures;
      few = omega (arith, count);
      ticked = omega (arith, from, now, count);
      all = λ fewer. omega (arith, from, now, count, fewer);
      given = c.loop-frame.invariant.given ∙ ap (best_rows_below k) end;
    }

pub returns-clause-true_to : goal.returns-clause-true_to
returns-clause-true_to g c =
    let k = known_by c.args.peer.now in
    let settled = c.min-self-inside.ensures in
    let confirmed_is = c.confirmed.ensures.value in
    let over = c.loop-frame-test.false in
    let long : length c.loop-frame.self-inside.given.items ≡ c.loop-frame.frame =
    ap (λ (rows : List Row). length rows) c.loop-frame.invariant.given ∙ best_length k c.loop-frame.frame in
    record {
      confirmed_is = omega (arith, settled, confirmed_is);
      within = omega (arith, settled, over, long);
      settled_is = ap (λ (rows : List Row). take c.min-self-inside.result rows) c.loop-frame.invariant.given
          ∙ best_take k c.min-self-inside.result c.loop-frame.frame (omega (arith, settled, over));
    }

pub returns-clause-counted : goal.returns-clause-counted
returns-clause-counted g c =
    let over = c.loop-frame-test.false in
    let within = c.loop-frame.invariant.within in
    let long : length c.loop-frame.self-inside.given.items ≡ c.loop-frame.frame =
    ap (λ (rows : List Row). length rows) c.loop-frame.invariant.given ∙ best_length (known_by c.args.peer.now) c.loop-frame.frame in
    omega (arith, over, within, long)
