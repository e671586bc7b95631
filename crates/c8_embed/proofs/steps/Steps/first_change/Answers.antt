-- Rows given as confirmed have not changed, so the search begins behind them and ends at the first other best row.
use Rattle.std.proofs.Common.{◌≡◌, ◌+◌, ℕ, get_or, length, take, sym, ap, subst, ◌∙◌, arith}
use Rattle.std.proofs.lemmas.Bool.{true≢false}
use Rattle.std.proofs.lemmas.Option.{get_or_from_slice_get}
use Rattle.c8_known.specs.Confirmed.{best_row, best_rows_below}
use Rattle.c8_peer.specs.Peer.{known_by}
use Rattle.c8_embed.specs.Steps.{StepsValue, IsTrueTo}
use Rattle.c8_embed.proofs.StepsLemmas.{same_next, settled_ticked, ticked}
use Rattle.c8_embed.proofs.steps.Steps.first_change.Goals as goal

pub overflow_cast-len : goal.overflow_cast-len
overflow_cast-len g c =
    let few = c.self.invariant.0 in
    let low = c.self.invariant.2 in
    let len = c.len.ensures in
    omega (arith, few, low, len)

pub loop-frame-init : goal.loop-frame-init
loop-frame-init g c =
    let k = known_by c.args.peer.now in
    let is = subst (IsTrueTo k) (sym c.self.view_is) c.requires in
    let early = settled_ticked k _ is in
    let long = is.within in
    let now = c.now.ensures ∙ ticked c.args.peer.now.rules c.args.peer.now.me c.args.peer.now.state.journal in
    let len = c.len.ensures in
    let end = c.min-end.ensures in
    record {
      same = subst (λ (s : StepsValue). take c.self.inside.settled s.given ≡ best_rows_below k c.self.inside.settled) c.self.view_is is.settled_is;
      within = omega (arith, early, long, now, len, end);
    }

pub returns-then-not-is_same : goal.returns-then-not-is_same
returns-then-not-is_same g c =
    let k = known_by c.args.peer.now in
    let frame = c.loop-frame.frame in
    let test = c.loop-frame-test.true in
    let now = c.now.ensures ∙ ticked c.args.peer.now.rules c.args.peer.now.me c.args.peer.now.state.journal in
    let len = c.len.ensures in
    let end = c.min-end.ensures in
    let kept : c.self.inside.given.items ≡ c.args.self.now.given = ap (λ (s : StepsValue). s.given) c.self.view_is in
    let long : length c.self.inside.given.items ≡ length c.args.self.now.given = ap (λ rows. length rows) kept in
    record {
      ticked = omega (arith, test, now, len, end);
      within = omega (arith, test, now, len, end, long);
      same = c.loop-frame.invariant.same;
      differs = λ less before is.
          let got : get_or c.self.inside.given.items frame c.index.result.now ≡ best_row k frame =
          ap (λ rows. get_or rows frame c.index.result.now) kept
          ∙ get_or_from_slice_get c.args.self.now.given frame (best_row k frame) c.index.result.now is in
          absurd (true≢false (sym (c.is_same.ensures.1 (c.index.ensures ∙ got ∙ sym c.best_row.ensures)) ∙ c.if-not-is_same.true));
    }

pub loop-frame-preserved : goal.loop-frame-preserved
loop-frame-preserved g c =
    let k = known_by c.args.peer.now in
    let frame = c.loop-frame.frame in
    let test = c.loop-frame-test.true in
    let now = c.now.ensures ∙ ticked c.args.peer.now.rules c.args.peer.now.me c.args.peer.now.state.journal in
    let len = c.len.ensures in
    let end = c.min-end.ensures in
    let here : get_or c.self.inside.given.items frame c.index.result.now ≡ best_row k frame =
    sym c.index.ensures ∙ c.is_same.ensures.0 c.if-not-is_same.false ∙ c.best_row.ensures in
    let so_far = subst (λ (s : StepsValue). take frame s.given ≡ best_rows_below k frame) (sym c.self.view_is) c.loop-frame.invariant.same in
    record {
      same = subst (λ (s : StepsValue). take (frame + 1) s.given ≡ best_rows_below k (frame + 1)) c.self.view_is
          (same_next k c.self.inside.given.items frame c.index.result.now (omega (arith, test, len, end)) so_far here);
      within = omega (arith, test);
    }

pub returns : goal.returns
returns g c =
    let k = known_by c.args.peer.now in
    let over = c.loop-frame-test.false in
    let within = c.loop-frame.invariant.within in
    let now = c.now.ensures ∙ ticked c.args.peer.now.rules c.args.peer.now.me c.args.peer.now.state.journal in
    let len = c.len.ensures in
    let end = c.min-end.ensures in
    let at : c.loop-frame.frame ≡ c.min-end.result = omega (arith, over, within) in
    let long : length c.self.inside.given.items ≡ length c.args.self.now.given = ap (λ (s : StepsValue). length s.given) c.self.view_is in
    record {
      ticked = omega (arith, now, len, end);
      within = omega (arith, len, end, long);
      same = subst (λ (n : ℕ). take n c.args.self.now.given ≡ best_rows_below k n) at c.loop-frame.invariant.same;
      differs = λ less before. absurd (omega (arith, less, before, now, len, end, long));
    }
