-- The drawn bytes are those of the note, so it leads to the peer that has heard them.
use Rattle.std.proofs.Common.{subst, take}
use Rattle.std.specs.Prelude.{IfSome}
use Rattle.c8_rig.specs.Tokens.{IsDrawn}
use Rattle.c8_rig.proofs.Playing.{with_entry}
use Rattle.c8_rig.proofs.worker.Seat.hear.Goals as goal

pub returns-in-Some : goal.returns-in-Some
returns-in-Some g c =
    let drawn : IsDrawn c.args.self.now.entry (take c.in-Some.size c.draw.new.out) c.draw.new.entry =
    subst (λ o. IfSome o (λ size. IsDrawn c.args.self.now.entry (take size c.draw.new.out) c.draw.new.entry)) c.in-Some.is
    c.in_ok-size.ensures.some in
    with_entry _ _ _ _ _ _ drawn.1 (c.hear_noted.ensures c.args.self.now.entry drawn.0 c.args.self.now.entry.player)
