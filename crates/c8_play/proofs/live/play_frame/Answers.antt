-- A frame is its turn and then its picture, and the picture leaves the peer as the turn left it.
use Rattle.c8_play.proofs.live.play_frame.Goals as goal

pub returns-clause-frame : goal.returns-clause-frame
returns-clause-frame g c = rw c.show.ensures.peer
    (record { between = c.enter.new.desk; played = c.in_ok-entry.ensures.played; seen = c.show.ensures.seen })
