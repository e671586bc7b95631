-- The roll has the marks that the journal tells, so its newest is the one that DATA is to carry.
use Rattle.std.proofs.Common.{◌∙◌, Option, replicate, ap}
use Rattle.std.specs.Prelude.{unwrap_or}
use Rattle.c8_digest.specs.declared.marks.FrameMark.{FrameMark}
use Rattle.c8_digest.specs.Marks.{newest_of}
use Rattle.c8_roll.specs.Seen.{value_of as seen}
use Rattle.c8_roll.specs.checked.RollLaws.{roll_marks}
use Rattle.c8_peer.specs.Told.{told_of}
use Rattle.c8_peer.specs.Peer.{known_by, begun_by}
use Rattle.c8_peer.proofs.ReaderLemmas.{roll_is}
use Rattle.c8_peer.proofs.peer.Peer.newest_mark.Goals as goal

pub returns : goal.returns
unfolding told_of
returns g c =
    let marks = c.marks.ensures ∙ roll_marks c.args.self.now.rules (begun_by c.args.self.now) (known_by c.args.self.now) (seen c.self.inside.roll)
    (roll_is c.args.self.now c.self.inside.game.now c.self.inside.room c.self.inside.journal c.self.inside.known c.self.inside.memory
    (seen c.self.inside.roll) c.self.view_is c.self.invariant.0 c.self.invariant.1) in
    c.unwrap_or.ensures ∙ ap (λ (found : Option FrameMark). unwrap_or found (record { frame = 0; mark = replicate 8 0 }))
    (c.newest.ensures ∙ ap newest_of marks)
