-- Either some bytes came, or after a long silence a lone escape was the key itself.
use Rattle.std.proofs.Common.{inr, refl}
use Rattle.c8_play.specs.Desk.{typing}
use Rattle.c8_play.proofs.TypingLemmas.{paused_after}
use Rattle.c8_play.proofs.desk.Desk.read.Goals as goal

-- after a silence, an escape was the key itself
pub returns-then-eq-clause-read : goal.returns-then-eq-clause-read
returns-then-eq-clause-read g c =
    let came = c.read_waiting.new.self in
    inr (paused_after (typing g.C.Console c.args.self.now) (typing g.C.Console came)
    (typing g.C.Console (record came { decoder = c.pause.new.self })) (c.read_waiting.ensures.none c.if-read_waiting.false) refl
    c.pause.ensures.next refl (λ key. refl))
