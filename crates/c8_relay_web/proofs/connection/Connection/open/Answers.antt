-- The response of the handshake waits alone, since there is room for it.
use Rattle.std.proofs.Common.{◌≡◌, ◌∙◌, [], length, ap, arith}
use Rattle.c8_relay_web.specs.Steps.{waiting}
use Rattle.c8_relay_web.proofs.BoxLemmas.{accepted, said_three}
use Rattle.c8_relay_web.proofs.connection.Connection.open.Goals as goal
use Rattle.c8_relay_web.proofs.connection.Connection.open.Goals.{in-Some+then-self, in_default}

pub returns-clause-said : goal.returns-clause-said
returns-clause-said c = λ none.
    let one = c.say.ensures in
    let two = c.say-2.ensures in
    let three = c.say-3.ensures in
    let accept = c.args.upgrade.accept in
    let wide : length accept ≡ 28 = omega arith in
    let start : waiting c.match-upgrade.self ≡ [] = elim c.match-upgrade.branch [
      | in-Some+then-self w ↦ ap waiting w.self-is ∙ none
      | in_default w ↦ ap waiting w.self-is ∙ none
    ] in
    said_three c.say.result c.say-2.result c.say-3.result _ _ _ _ _ accept _ start one.said one.room two.said two.room three.said three.room
    (omega (arith, wide)) ∙ accepted accept
