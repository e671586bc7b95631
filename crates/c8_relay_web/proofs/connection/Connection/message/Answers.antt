-- An input that begins with a packet says no goodbye.
use Rattle.std.proofs.Common.{◌≡◌, ⊎_elim, subst}
use Rattle.c8_relay_web.specs.Steps.{HasPacket, unread}
use Rattle.c8_relay_web.specs.declared.connection.Stage.{Stage}
use Rattle.c8_relay_web.specs.declared.frames.Said.TheVariants.{Packet}
use Rattle.c8_relay_web.proofs.FrameLemmas.{packet_next}
use Rattle.c8_relay_web.proofs.connection.Connection.message.Goals as goal
use Rattle.c8_relay_web.proofs.connection.Connection.message.Goals.{in-Wrong, in_default-said}

pub returns-in-Goodbye-clause-served : goal.returns-in-Goodbye-clause-served
returns-in-Goodbye-clause-served c = λ size has room.
    let input = unread c.args.self.now in
    let begins = subst (λ (s : Stage). HasPacket s input size) c.in-Open.is has in
    let next = c.next_frame-said.ensures.exact room in
    let said : c.next_frame-said.result ≡ Packet size = packet_next c.in-Open.context input c.next_frame-said.result size next.0 begins next.1 in
    let ends = c.in-Goodbye.is in
    elim c.match-said.branch [
      | in-Wrong w ↦ let same = w.said-is in ⊎_elim (λ bye. absurd (cc (same, bye))) (λ wrong. let is = wrong.1 in absurd (cc (same, is))) ends
      | in_default-said w ↦
          let same = w.said-is in
          ⊎_elim (λ bye. absurd (cc (same, bye))) (λ wrong. let is = wrong.1 in absurd (cc (same, is))) ends
    ]
