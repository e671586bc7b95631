-- One turn of the loop says at most one JOIN, and hears one answer.
use Rattle.std.proofs.Common.{◌≡◌, List, [], ◌∷◌, ◌++◌, ap, sym, subst, ◌∙◌, take}
use Rattle.c8_udp.specs.Letters.{LetterValue, letter}
use Rattle.c8_udp.specs.Members.{HasAsked}
use Rattle.c8_udp.proofs.RouteLemmas.{asked_then, heard_then, same_then}
use Rattle.c8_udp.proofs.route.RouteSocket.recv_from.Goals as goal

pub loop-preserved : goal.loop-preserved
loop-preserved g c =
    let took = g.S.Socket.took in
    let gave = g.S.Socket.gave in
    let its = c.loop.self.member in
    let heard = letter c.in_ok-size.from (take c.in_ok-size.size c.recv_from.new.packet) in
    record {
      took = c.hears.ensures.took ∙ c.ask.ensures.took ∙ c.loop.invariant.took;
      gave = c.hears.ensures.gave ∙ c.ask.ensures.gave ∙ c.loop.invariant.gave;
      member = same_then _ _ _ (same_then _ _ _ c.loop.invariant.member c.ask.ensures.member) c.hears.ensures.member;
      asked = asked_then _ its _ _ _ c.loop.invariant.member c.loop.invariant.asked (
          subst (λ (now : List LetterValue). HasAsked its (took c.loop.self.socket) now)
          (sym (ap took c.hears.ensures.socket ∙ c.in_ok-size.ensures.took))
          c.ask.ensures.asked
          );
      heard = heard_then _ _ _ heard c.loop.invariant.heard (c.hears.ensures.answer c.if-not-hears.false) (
          ap gave c.hears.ensures.socket ∙ c.in_ok-size.ensures.gave
          ∙ ap (λ (list : List LetterValue). list ++ heard ∷ []) c.ask.ensures.quiet
          );
    }
